-- `rounded::is_finite` meets its contract: each kind of f64 is compared with the two infinities. Assumes nothing.
use mathlib.Core.Bool.{true, false}
use mathlib.Core.Path.{◌≡◌, refl}
use lib.Ieee.{Float, nan, inf, fin, of_bits, nan_bits, neg, lt}
use Rattle.rounded.specs.Finite.{finite}
use Rattle.rounded.proofs.is_finite.Goals as goal

-- above the lower infinity, if below the upper one
above : (x : Float) → lt x (inf false) ≡ true → lt (inf true) x ≡ finite x
unfolding lt
above nan h = refl
above (inf true) h = refl
above (inf false) h = cc
above (fin s m e) h = refl

not_below : (x : Float) → lt x (inf false) ≡ false → false ≡ finite x
unfolding lt
not_below nan h = refl
not_below (inf s) h = refl
not_below (fin s m e) h = cc

pub float_from_bits-most : goal.float_from_bits-most
unfolding nan_bits
float_from_bits-most c = tt

pub returns-then-x-most : goal.returns-then-x-most
unfolding of_bits neg
returns-then-x-most c = above c.args.x c.if-x-most.true

pub returns : goal.returns
unfolding of_bits
returns c = not_below c.args.x c.if-x-most.false
