-- Numbers that may be 2^64 or more. Assumes nothing.
--   fits_small, fits_big    what `number_says` says of a number below 2^64, and of the others
--   fits_given, fits_refused    and the other way round
--   stays-big    a number no smaller than one that is 2^64 or more is so too
--   exceeds_test    a product is held against 2^64 without being formed
use mathlib.Core.Path.{◌≡◌, refl, sym, ◌∙◌}
use mathlib.Core.Bool.{Bool, true, false}
use mathlib.Core.List.{List}
use Prim.Native.Nat.{ℕ, ◌*◌, ◌/◌, ◌^◌, ◌<◌, ◌≤◌}
use native.Mathlib.Nat.{div-lt_iff_lt-mul, le-div_iff_mul-le}
use native.Mathlib.Omega.{arith}
use borrow.Author.Tests.{ltb-true, ltb-false, leb-true, leb-false, le-leb, lt-leb}
use lib.Dec.{leb, ltb}
use Rattle.words.specs.Pick.{pick}
use Rattle.answers.specs.Says.{gives, refuses, refuses_with}
use Rattle.answers.proofs.Says.{gives_same, gives_never, passed}
use Rattle.cartesian.specs.Checks.{number_says}

pub fits_small : (n : ℕ) → n < 2 ^ 64 → number_says n ≡ gives n
fits_small n h = simp (lt-leb (2 ^ 64) n h)

pub fits_big : (n : ℕ) → 2 ^ 64 ≤ n → number_says n ≡ refuses 9
fits_big n h = simp (le-leb (2 ^ 64) n h)

pub fits_given : (n x : ℕ) → number_says n ≡ gives x → (n < 2 ^ 64) × (x ≡ n)
fits_given n x e =
    let p = passed (leb (2 ^ 64) n) 9 (gives n) x e in
    (leb-false (2 ^ 64) n p.0, sym (gives_same n x p.1))

pub fits_refused : (n d : ℕ) (c : List ℕ) → refuses_with d c ≡ number_says n → leb (2 ^ 64) n ≡ true
fits_refused n d c e = go (leb (2 ^ 64) n) e
  where
    go : (t : Bool) → refuses_with d c ≡ pick t (refuses 9) (gives n) → t ≡ true
    go true e = refl
    go false e = absurd (gives_never n d c (sym e))

pub stays-big : (n m d : ℕ) (c : List ℕ) → refuses_with d c ≡ number_says n → n ≤ m → number_says n ≡ number_says m
stays-big n m d c e h =
    let b : 2 ^ 64 ≤ n = leb-true (2 ^ 64) n (fits_refused n d c e) in
    fits_big n b ∙ sym (fits_big m (omega arith))

pub exceeds_test : (a b : ℕ) → 0 < a → ltb (18446744073709551615 / a) b ≡ leb (2 ^ 64) (a * b)
exceeds_test a b h = go (ltb (18446744073709551615 / a) b) refl
  where
    go : (t : Bool) → ltb (18446744073709551615 / a) b ≡ t → t ≡ leb (2 ^ 64) (a * b)
    go true e = sym (le-leb (2 ^ 64) (a * b) (omega (arith, (div-lt_iff_lt-mul h).0 (ltb-true (18446744073709551615 / a) b e))))
    go false e = sym (lt-leb (2 ^ 64) (a * b) (omega (arith, (le-div_iff_mul-le h).0 (ltb-false (18446744073709551615 / a) b e))))
