-- Whole numbers: products by natural numbers, sums, and lists by their entries. Assumes nothing.
--   times-times    a product by a and then by b is one by a * b
--   times-suc    once more
--   times-sum    a sum by a natural number is the sum of the products
--   sum_none, sum_one, sum_same    a sum of zeros, of zeros but for one term, and of equal terms
--   entries_long, entries_at    a list by its entries
--   entries_same    lists of the same entries are the same
use mathlib.Core.Path.{◌≡◌, refl, sym, ap, ap₂, ◌∙◌}
use mathlib.Core.Logic.{◌⊎◌, inl, inr}
use mathlib.Core.List.{List, [], ◌∷◌, ◌++◌}
use Prim.Native.Nat.{ℕ, zero, suc, ◌+◌, ◌*◌, ◌<◌}
use native.Mathlib.Nat.{eq-or-lt_of_le, le_of_suc-le-suc, suc_inj, le_step, le_refl, not-suc-le-zero, mul_assoc, zero-mul}
use native.Mathlib.Omega.{arith}
use lib.ListN.{length, get_or, length-append, get_or-append}
use lib.Seq.{get_or_at}
use lib.IntN.{ℤ, pos, negsuc, suc_ℤ, neg_ℤ, ◌+ℤ◌, ◌*ℤ◌, +ℤ_idl, +ℤ_idr, +ℤ_comm, +ℤ_assoc, *ℤ_comm, *ℤ-zero, suc_ℤ-*ℤ}
use Rattle.derivatives.specs.Derivative.{entries_of, sum_to}

neg-times : (p b : ℕ) → neg_ℤ (pos p) *ℤ pos b ≡ neg_ℤ (pos (p * b))
neg-times zero b = rw (zero-mul b)
neg-times (suc p) b = refl

-- a product by a natural number
pub times-times : (z : ℤ) (a b : ℕ) → z *ℤ pos a *ℤ pos b ≡ z *ℤ pos (a * b)
times-times (pos m) a b = ap pos (mul_assoc m a b)
times-times (negsuc m) a b = neg-times (suc m * a) b ∙ ap (λ (x : ℕ). neg_ℤ (pos x)) (mul_assoc (suc m) a b)

pub times-suc : (z : ℤ) (m : ℕ) → z *ℤ pos (suc m) ≡ z +ℤ z *ℤ pos m
times-suc z m = *ℤ_comm z (pos (suc m)) ∙ suc_ℤ-*ℤ (pos m) z ∙ +ℤ_comm (pos m *ℤ z) z ∙ ap (λ (y : ℤ). z +ℤ y) (*ℤ_comm (pos m) z)

-- x + y and u + v, one of each first
crosswise : (x y u v : ℤ) → x +ℤ y +ℤ (u +ℤ v) ≡ x +ℤ u +ℤ (y +ℤ v)
crosswise x y u v =
    +ℤ_assoc x y (u +ℤ v)
    ∙ ap (λ (z : ℤ). x +ℤ z) (sym (+ℤ_assoc y u v) ∙ ap (λ (z : ℤ). z +ℤ v) (+ℤ_comm y u) ∙ +ℤ_assoc u y v)
    ∙ sym (+ℤ_assoc x u (y +ℤ v))

pub times-sum : (x y : ℤ) (m : ℕ) → (x +ℤ y) *ℤ pos m ≡ x *ℤ pos m +ℤ y *ℤ pos m
times-sum x y zero = *ℤ-zero (x +ℤ y) ∙ sym (ap₂ ◌+ℤ◌ (*ℤ-zero x) (*ℤ-zero y))
times-sum x y (suc m) =
    times-suc (x +ℤ y) m ∙ ap (λ (z : ℤ). x +ℤ y +ℤ z) (times-sum x y m)
    ∙ crosswise x y (x *ℤ pos m) (y *ℤ pos m)
    ∙ sym (ap₂ ◌+ℤ◌ (times-suc x m) (times-suc y m))

pub sum_none : (f : ℕ → ℤ) (c : ℕ) → ((i : ℕ) → i < c → f i ≡ pos 0) → sum_to f c ≡ pos 0
unfolding sum_to
sum_none f zero h = refl
sum_none f (suc c) h = ap₂ ◌+ℤ◌ (h 0 (omega arith)) (sum_none (λ i. f (suc i)) c (λ i l. h (suc i) (omega arith)))

pub sum_one : (f : ℕ → ℤ) (c q : ℕ) → q < c → ((i : ℕ) → i < c → (i ≡ q → ⊥) → f i ≡ pos 0) → sum_to f c ≡ f q
unfolding sum_to
sum_one f zero q l h = absurd (not-suc-le-zero l)
sum_one f (suc c) zero l h = ap (λ (z : ℤ). f 0 +ℤ z) (sum_none (λ i. f (suc i)) c (λ i b. h (suc i) (omega arith) (λ e. omega arith))) ∙ +ℤ_idr (f 0)
sum_one f (suc c) (suc q) l h =
    ap₂ ◌+ℤ◌ (h 0 (omega arith) (λ e. omega arith)) (sum_one (λ i. f (suc i)) c q (le_of_suc-le-suc l) (λ i b n. h (suc i) (omega arith) (λ e. n (suc_inj e))))
    ∙ +ℤ_idl (f (suc q))

pub sum_same : (f g : ℕ → ℤ) (c : ℕ) → ((i : ℕ) → i < c → f i ≡ g i) → sum_to f c ≡ sum_to g c
unfolding sum_to
sum_same f g zero h = refl
sum_same f g (suc c) h = ap₂ ◌+ℤ◌ (h 0 (omega arith)) (sum_same (λ i. f (suc i)) (λ i. g (suc i)) c (λ i l. h (suc i) (omega arith)))

pub entries_long : (f : ℕ → ℤ) (c : ℕ) → length (entries_of f c) ≡ c
unfolding entries_of
entries_long f zero = refl
entries_long f (suc c) = omega (arith, length-append (entries_of f c) (f c ∷ []), entries_long f c)

pub entries_at : (f : ℕ → ℤ) (c r : ℕ) (d : ℤ) → r < c → get_or (entries_of f c) r d ≡ f r
unfolding entries_of
entries_at f zero r d h = absurd (not-suc-le-zero h)
entries_at f (suc c) r d h = go (eq-or-lt_of_le h) (entries_at f c r d)
  where
    go : (suc r ≡ suc c) ⊎ (suc r < suc c) → (r < c → get_or (entries_of f c) r d ≡ f r) → get_or (entries_of f c ++ f c ∷ []) r d ≡ f r
    go (inl e) ih = get_or_at (entries_of f c) (f c) [] d r (entries_long f c ∙ sym (suc_inj e)) ∙ ap f (sym (suc_inj e))
    go (inr l) ih = get_or-append (entries_of f c) (f c ∷ []) d r (omega (arith, entries_long f c)) ∙ ih (le_of_suc-le-suc l)

pub entries_same : (f g : ℕ → ℤ) (c : ℕ) → ((r : ℕ) → r < c → f r ≡ g r) → entries_of f c ≡ entries_of g c
unfolding entries_of
entries_same f g zero h = refl
entries_same f g (suc c) h = ap₂ (λ (l : List ℤ) (z : ℤ). l ++ z ∷ []) (entries_same f g c (λ r l. h r (le_step l))) (h c (le_refl (suc c)))
