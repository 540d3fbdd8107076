-- The products of the first radices, by which strides are judged. Assumes nothing.
--   stride_fits    where the rule of strides does not refuse, each stride up to there is below 2^64
--   Partial rs p i    p is the product of the first i radices, and none of fewer is 2^64 or more
--   partial_starts, partial_turn    before the first radix, and one radix more
--   partial_stops, partial_ends    what the rule says where one product more is 2^64 or more, and where none is
use mathlib.Core.Path.{◌≡◌, refl, sym, ap, subst, ◌∙◌}
use mathlib.Core.Bool.{Bool, true, false}
use mathlib.Core.Logic.{◌⊎◌, inl, inr}
use mathlib.Core.List.{List}
use Prim.Native.Nat.{ℕ, zero, suc, ◌+◌, ◌*◌, ◌^◌, ◌<◌, ◌≤◌}
use native.Mathlib.Nat.{not-suc-le-zero, le_of_suc-le-suc, eq-or-lt_of_le}
use native.Mathlib.Numerals.{add-one}
use native.Mathlib.Omega.{arith}
use borrow.Author.Tests.{leb-false}
use lib.Dec.{leb}
use lib.ListN.{length, get_or}
use Rattle.words.specs.Pick.{pick}
use Rattle.positional.specs.Positional.{product, stride}
use Rattle.positional.proofs.Strides.{stride_next}
use Rattle.cartesian_strides.specs.Partial.{some_up_to, too_big}

some_later : (t : ℕ → Bool) (m n : ℕ) → m ≤ n → some_up_to t m ≡ true → some_up_to t n ≡ true
some_later t zero zero h e = e
some_later t (suc m) zero h e = absurd (not-suc-le-zero h)
some_later t m (suc n) h e = go (eq-or-lt_of_le h) (λ l. some_later t m n (le_of_suc-le-suc l) e)
  where
    go : (m ≡ suc n) ⊎ (m < suc n) → (m < suc n → some_up_to t n ≡ true) → some_up_to t (suc n) ≡ true
    go (inl p) ih = subst (λ (j : ℕ). some_up_to t j ≡ true) p e
    go (inr l) ih = ap (λ (b : Bool). pick b true (t (suc n))) (ih l)

some_none : (t : ℕ → Bool) (n j : ℕ) → some_up_to t n ≡ false → j ≤ n → t j ≡ false
some_none t zero zero e h = e
some_none t zero (suc j) e h = absurd (not-suc-le-zero h)
some_none t (suc n) j e h = go (some_up_to t n) refl e (eq-or-lt_of_le h) (λ f l. some_none t n j f (le_of_suc-le-suc l))
  where
    go : (b : Bool) → some_up_to t n ≡ b → pick b true (t (suc n)) ≡ false → (j ≡ suc n) ⊎ (j < suc n)
        → (some_up_to t n ≡ false → j < suc n → t j ≡ false) → t j ≡ false
    go true f e d ih = absurd (let z : ◌≡◌ {A = ℕ} 0 1 = cc in omega arith)
    go false f e (inl p) ih = subst (λ (k : ℕ). t k ≡ false) (sym p) e
    go false f e (inr l) ih = ih f l

pub stride_fits : (rs : List ℕ) (n j : ℕ) → too_big rs n ≡ false → j ≤ n → stride rs j < 2 ^ 64
stride_fits rs n j e h = leb-false (2 ^ 64) (stride rs j) (some_none (λ i. leb (2 ^ 64) (stride rs i)) n j e h)

pub record Partial (rs : List ℕ) (p i : ℕ) : Type 0 where
  pub is : p ≡ stride rs i
  pub small : too_big rs i ≡ false

pub partial_starts : (rs : List ℕ) → Partial rs 1 0
unfolding product
partial_starts rs = record { is = refl; small = refl }

-- one radix more
next_is : (rs : List ℕ) (p i : ℕ) → Partial rs p i → i < length rs → p * get_or rs i 0 ≡ stride rs (suc i)
next_is rs p i k h = ap (λ (s : ℕ). s * get_or rs i 0) k.is ∙ sym (stride_next rs i h)

next_test : (rs : List ℕ) (p i : ℕ) (t : Bool) → Partial rs p i → i < length rs → leb (2 ^ 64) (p * get_or rs i 0) ≡ t → too_big rs (suc i) ≡ t
next_test rs p i t k h e = ap (λ (b : Bool). pick b true (leb (2 ^ 64) (stride rs (suc i)))) k.small ∙ ap (leb (2 ^ 64)) (sym (next_is rs p i k h)) ∙ e

pub partial_turn : (rs : List ℕ) (p i : ℕ) → Partial rs p i → i < length rs → leb (2 ^ 64) (p * get_or rs i 0) ≡ false → Partial rs (p * get_or rs i 0) (i + 1)
partial_turn rs p i k h e =
    subst (Partial rs (p * get_or rs i 0)) (sym (add-one i)) (record { is = next_is rs p i k h; small = next_test rs p i false k h e })

pub partial_stops : (rs : List ℕ) (n p i : ℕ) → Partial rs p i → i < n → i < length rs → leb (2 ^ 64) (p * get_or rs i 0) ≡ true → true ≡ too_big rs n
partial_stops rs n p i k h l e = sym (some_later (λ j. leb (2 ^ 64) (stride rs j)) (suc i) n h (next_test rs p i true k l e))

pub partial_ends : (rs : List ℕ) (n p i : ℕ) → Partial rs p i → i ≡ n → false ≡ too_big rs n
partial_ends rs n p i k e = subst (λ (j : ℕ). false ≡ too_big rs j) e (sym k.small)
