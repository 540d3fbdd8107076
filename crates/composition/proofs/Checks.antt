-- The checks of exponents, as the calls make them. Assumes nothing.
--   capped_within, capped_above    the sum that a program finds is exact up to 64, and 65 above
--   Fits n k    n entries of degree k keep the limit
--   wide_not, fits_wide    they do exactly if they are not too wide
--   degree_long, degree_is    the degree, as it is found: too many entries; and from the sum that a program finds
--   degree-wide, degree_fits    what a degree tells of the limit
--   wide-added    the limit of a sum is judged on the sum of the degrees
use mathlib.Core.Path.{◌≡◌, refl, sym, ap, ◌∙◌}
use mathlib.Core.Bool.{Bool, true, false, ◌||◌, or-true}
use mathlib.Core.List.{List}
use Prim.Native.Nat.{ℕ, ◌+◌, ◌≤◌, ◌<◌}
use native.Mathlib.Omega.{arith}
use borrow.Author.Tests.{ltb-false, lt-ltb, le-ltb}
use lib.Dec.{ltb}
use lib.ListN.{length}
use Rattle.words.specs.declared.Family.TheVariants.{Allowed}
use Rattle.words.specs.Pick.{pick}
use Rattle.words.specs.Word.{shifted_alphabet}
use Rattle.composition.specs.Exponents.{sum_of, added}
use Rattle.composition.specs.Rules.{exponents_too_wide, capped, degree_of}
use Rattle.composition.proofs.Exponents.{sum_added}

-- ---- the sum

pub capped_within : (s : ℕ) → s ≤ 64 → s ≡ capped s
capped_within s h = simp (le-ltb 64 s h)

pub capped_above : (s : ℕ) → 64 < s → 65 ≡ capped s
capped_above s h = simp (lt-ltb 64 s h)

-- ---- the limit

pub record Fits (n k : ℕ) : Type 0 where
  pub entries : n ≤ 64
  pub degree : k ≤ 64
  pub alphabet : shifted_alphabet Allowed n k ≤ 64

neither : (a b : Bool) → (a || b) ≡ false → (a ≡ false) × (b ≡ false)
neither true b e = absurd (let z : ◌≡◌ {A = ℕ} 0 1 = cc in omega arith)
neither false b e = (refl, e)

pub wide_not : (n k : ℕ) → exponents_too_wide n k ≡ false → Fits n k
wide_not n k e =
    let p : ((ltb 64 n || ltb 64 k) ≡ false) × (ltb 64 (shifted_alphabet Allowed n k) ≡ false) = neither (ltb 64 n || ltb 64 k) (ltb 64 (shifted_alphabet Allowed n k)) e in
    let q : (ltb 64 n ≡ false) × (ltb 64 k ≡ false) = neither (ltb 64 n) (ltb 64 k) p.0 in
    record { entries = ltb-false 64 n q.0; degree = ltb-false 64 k q.1; alphabet = ltb-false 64 (shifted_alphabet Allowed n k) p.1 }

pub fits_wide : (n k : ℕ) → Fits n k → exponents_too_wide n k ≡ false
fits_wide n k h = simp (le-ltb 64 n h.entries, le-ltb 64 k h.degree, le-ltb 64 (shifted_alphabet Allowed n k) h.alphabet)

-- ---- the degree

pub degree_long : (es : List ℕ) → 64 < length es → 65 ≡ degree_of es
degree_long es h = simp (lt-ltb 64 (length es) h)

-- a sum above 64 is too wide, and so is the 65 that stands for it
wide-capped : (n s : ℕ) → exponents_too_wide n (capped s) ≡ exponents_too_wide n s
wide-capped n s = go (ltb 64 s) refl
  where
    go : (t : Bool) → ltb 64 s ≡ t → exponents_too_wide n (pick t 65 s) ≡ exponents_too_wide n s
    go true e = simp (e, or-true)
    go false e = refl

pub degree_is : (es : List ℕ) (t : Bool) → exponents_too_wide (length es) (capped (sum_of es)) ≡ t → pick t 65 (capped (sum_of es)) ≡ degree_of es
degree_is es t e = go t (sym (wide-capped (length es) (sum_of es)) ∙ e)
  where
    go : (t : Bool) → exponents_too_wide (length es) (sum_of es) ≡ t → pick t 65 (capped (sum_of es)) ≡ degree_of es
    go true e = simp e
    go false e = simp (e, sym (capped_within (sum_of es) (wide_not (length es) (sum_of es) e).degree))

pub degree-wide : (es : List ℕ) (d : ℕ) → d ≡ degree_of es → 64 < d → exponents_too_wide (length es) (sum_of es) ≡ true
degree-wide es d q h = go (exponents_too_wide (length es) (sum_of es)) refl (omega arith)
  where
    go : (t : Bool) → exponents_too_wide (length es) (sum_of es) ≡ t → 64 < pick t 65 (sum_of es) → t ≡ true
    go true e h = refl
    go false e h = absurd (omega (arith, (wide_not (length es) (sum_of es) e).degree))

pub degree_fits : (es : List ℕ) (d : ℕ) → d ≡ degree_of es → d ≤ 64 → (exponents_too_wide (length es) (sum_of es) ≡ false) × (d ≡ sum_of es)
degree_fits es d q h = go (exponents_too_wide (length es) (sum_of es)) q
  where
    go : (t : Bool) → d ≡ pick t 65 (sum_of es) → (t ≡ false) × (d ≡ sum_of es)
    go true e = absurd (omega arith)
    go false e = (refl, e)

pub wide-added : (a b : List ℕ) (x y : ℕ) → length a ≡ length b → x ≡ sum_of a → y ≡ sum_of b → exponents_too_wide (length a) (sum_of (added a b)) ≡ exponents_too_wide (length a) (x + y)
wide-added a b x y e p q =
    let s : sum_of (added a b) ≡ x + y = omega (arith, sum_added a b e) in
    ap (exponents_too_wide (length a)) s
