-- What the checks of a digit word tell of it. Assumes nothing.
--   checked_refused, checked_none, checked_is    the checks go on with the count's answer: refused, a rank that is not below it, and one that is
--   given_passed, given_refused    a call whose word passes its checks, and one whose word does not
--   Known x c    the width limits hold, c is the count, and the rank is below it
--   known    what the checks tell where they pass
--   radix_some    a known word with a position has a radix that is not 0
--   stride_is, stride_some, stride-refused    the stride of a position: what it is, that it is not 0, and that it is never refused
--   symbols_short, symbols_given    what the symbols of a known word say
use mathlib.Core.Path.{◌≡◌, sym, ap, ◌∙◌}
use mathlib.Core.List.{List}
use Prim.Native.Nat.{ℕ, ◌^◌, ◌≤◌, ◌<◌}
use native.Mathlib.Omega.{arith}
use borrow.Author.Tests.{ltb-false, leb-false, lt-ltb, le-ltb, le-leb, lt-leb}
use lib.Dec.{leb, ltb}
use Rattle.answers.specs.Says.{Says, refuses, refuses_with, gives, refused_if, and_then}
use Rattle.answers.proofs.Says.{gives_same, gives_never, passed, then_gave}
use Rattle.cartesian.specs.Checks.{number_says}
use Rattle.cartesian.proofs.Fits.{fits_small, fits_given}
use Rattle.digits.specs.declared.DigitWord.{DigitWord}
use Rattle.digits.specs.Rules.{symbols_of, digit_count_says, check_says, given, symbols_says}
use Rattle.digits.proofs.Powers.{radix_positive, power_positive, power_within}

-- ---- the checks by the count

pub checked_refused : (x : DigitWord) (d : ℕ) (f : List ℕ) → refuses_with d f ≡ digit_count_says x.radix x.degree → refuses_with d f ≡ check_says x
checked_refused x d f p = ap (λ s. and_then s (λ c. refused_if (leb c x.rank) 3 (gives c))) p

pub checked_none : (x : DigitWord) (c : ℕ) → gives c ≡ digit_count_says x.radix x.degree → c ≤ x.rank → refuses 3 ≡ check_says x
checked_none x c p h = sym (simp (le-leb c x.rank h)) ∙ ap (λ s. and_then s (λ d. refused_if (leb d x.rank) 3 (gives d))) p

pub checked_is : (x : DigitWord) (c : ℕ) → gives c ≡ digit_count_says x.radix x.degree → x.rank < c → gives c ≡ check_says x
checked_is x c p h = sym (simp (lt-leb c x.rank h)) ∙ ap (λ s. and_then s (λ d. refused_if (leb d x.rank) 3 (gives d))) p

-- ---- calls on a given word

pub given_passed : {A : Type 0} (x : DigitWord) (c : ℕ) (s : Says A) → gives c ≡ check_says x → given x s ≡ s
given_passed x c s e = ap (λ t. and_then t (λ d. s)) (sym e)

pub given_refused : {A : Type 0} (x : DigitWord) (d : ℕ) (c : List ℕ) (s : Says A) → refuses_with d c ≡ check_says x → given x s ≡ refuses_with d c
given_refused x d c s e = ap (λ t. and_then t (λ d. s)) (sym e)

pub record Known (x : DigitWord) (c : ℕ) : Type 0 where
  pub short : x.degree ≤ 64
  pub is : c ≡ x.radix ^ x.degree
  pub small : x.radix ^ x.degree < 2 ^ 64
  pub low : x.rank < x.radix ^ x.degree

pub known : (x : DigitWord) (c : ℕ) → gives c ≡ check_says x → Known x c
known x c e = go (then_gave (digit_count_says x.radix x.degree) (λ d. refused_if (leb d x.rank) 3 (gives d)) c (sym e))
  where
    go : (d : ℕ) × (digit_count_says x.radix x.degree ≡ gives d) × (refused_if (leb d x.rank) 3 (gives d) ≡ gives c) → Known x c
    go t =
        let p = passed (ltb 64 x.degree) 1 (number_says (x.radix ^ x.degree)) t.0 t.1 in
        let f = fits_given (x.radix ^ x.degree) t.0 p.1 in
        let q = passed (leb t.0 x.rank) 3 (gives t.0) c t.2 in
        record {
          short = ltb-false 64 x.degree p.0;
          is = sym (gives_same t.0 c q.1) ∙ f.1;
          small = f.0;
          low = omega (arith, leb-false t.0 x.rank q.0, f.1);
        }

-- ---- a position of a known word

pub radix_some : (x : DigitWord) (c p : ℕ) → Known x c → p < x.degree → 0 < x.radix
radix_some x c p k h = radix_positive x.radix x.degree x.rank p k.low h

-- the radix to a smaller power fits as well
pub stride_given : (x : DigitWord) (c p : ℕ) → Known x c → p < x.degree → number_says (x.radix ^ p) ≡ gives (x.radix ^ p)
stride_given x c p k h = fits_small (x.radix ^ p) (power_within x.radix x.degree x.rank p k.low k.small h)

pub stride_is : (x : DigitWord) (c p s : ℕ) → Known x c → p < x.degree → gives s ≡ number_says (x.radix ^ p) → s ≡ x.radix ^ p
stride_is x c p s k h e = gives_same s (x.radix ^ p) (e ∙ stride_given x c p k h)

pub stride_some : (x : DigitWord) (c p s : ℕ) → Known x c → p < x.degree → gives s ≡ number_says (x.radix ^ p) → 0 < s
stride_some x c p s k h e = omega (arith, stride_is x c p s k h e, power_positive x.radix p (radix_some x c p k h))

pub stride-refused : {P : Type 0} (x : DigitWord) (c p d : ℕ) (f : List ℕ) → Known x c → p < x.degree → refuses_with d f ≡ number_says (x.radix ^ p) → P
stride-refused x c p d f k h e = absurd (gives_never (x.radix ^ p) d f (sym (stride_given x c p k h) ∙ sym e))

-- ---- the symbols

pub symbols_short : (x : DigitWord) (c room : ℕ) → gives c ≡ check_says x → room < x.degree → symbols_says x room ≡ refuses 8
symbols_short x c room e h =
    given_passed x c (refused_if (ltb room x.degree) 8 (gives (symbols_of x))) e ∙ ap (λ t. refused_if t 8 (gives (symbols_of x))) (lt-ltb room x.degree h)

pub symbols_given : (x : DigitWord) (c room : ℕ) → gives c ≡ check_says x → x.degree ≤ room → symbols_says x room ≡ gives (symbols_of x)
symbols_given x c room e h =
    given_passed x c (refused_if (ltb room x.degree) 8 (gives (symbols_of x))) e ∙ ap (λ t. refused_if t 8 (gives (symbols_of x))) (le-ltb room x.degree h)
