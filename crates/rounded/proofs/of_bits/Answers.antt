-- `rounded::of_bits` meets its contract. A pattern is NaN's exactly if what is left without the sign is above infinity's; there the code answers 0/0. Assumes nothing.
use borrow.Author.Tests.{lt-ltb, le-ltb}
use mathlib.Core.Bool.{Bool, true, not}
use mathlib.Core.Path.{◌≡◌, refl, sym, ◌∙◌, subst}
use lib.Dec.{T}
use lib.Ieee.{Float, nan, inf, fin, binary64, of_bits, is_nan, div}
use lib.Ieee.Bits.{nan_bits_is, nan_bits_above}
use Rattle.rounded.proofs.of_bits.Goals as goal

the_nan : (x : Float) → is_nan x ≡ true → nan ≡ x
unfolding is_nan
the_nan nan h = refl
the_nan (inf s) h = cc
the_nan (fin s m e) h = cc

pub returns-then-b-gt9218868437227405312 : goal.returns-then-b-gt9218868437227405312
unfolding of_bits div
returns-then-b-gt9218868437227405312 c = the_nan (of_bits binary64 c.args.b) (sym (nan_bits_is binary64 c.args.b) ∙ nan_bits_above binary64 c.args.b ∙ lt-ltb _ _ c.if-b-gt9218868437227405312.true)

pub float_from_bits-result : goal.float_from_bits-result
float_from_bits-result c = subst (λ (t : Bool). T (not t)) (sym (nan_bits_above binary64 c.args.b ∙ le-ltb _ _ c.if-b-gt9218868437227405312.false)) tt
