-- The values of a function from a number up, as a list. Assumes nothing.
--   from f i m    f i, f (i + 1) .. f (i + m - 1)
--   from_long, from_at    how many they are, and which stands at a place
--   in_from, from_in    what stands in the list
--   from_distinct    no value stands twice, if another function tells them apart
--   take_from, take_either_way    the first of them
use mathlib.Core.Path.{◌≡◌, refl, sym, ap, ◌∙◌}
use mathlib.Core.Logic.{◌⊎◌, inl, inr}
use mathlib.Core.List.{List, [], ◌∷◌}
use Prim.Native.Nat.{ℕ, zero, suc, ◌+◌, ◌≤◌, ◌<◌}
use native.Mathlib.Nat.{not-suc-le-zero, le_of_suc-le-suc, suc-add, add-suc, add-zero, eq-or-lt_of_le}
use native.Mathlib.Omega.{arith}
use lib.ListN.{length, get_or, take}
use Rattle.words.specs.HowMany.{In, Distinct}

abbrev pub from : {A : Type 0} → (ℕ → A) → ℕ → ℕ → List A
from f i zero = []
from f i (suc m) = f i ∷ from f (suc i) m

pub from_long : {A : Type 0} (f : ℕ → A) (i m : ℕ) → length (from f i m) ≡ m
from_long f i zero = refl
from_long f i (suc m) = ap suc (from_long f (suc i) m)

pub from_at : {A : Type 0} (f : ℕ → A) (i m j : ℕ) (d : A) → j < m → get_or (from f i m) j d ≡ f (i + j)
from_at f i zero j d h = absurd (not-suc-le-zero h)
from_at f i (suc m) zero d h = ap f (sym (add-zero i))
from_at f i (suc m) (suc j) d h = from_at f (suc i) m j d (le_of_suc-le-suc h) ∙ ap f (suc-add i j ∙ sym (add-suc i j))

pub in_from : {A : Type 0} (f : ℕ → A) (i m : ℕ) (a : A) → In a (from f i m) → (r : ℕ) × (i ≤ r) × (r < i + m) × (a ≡ f r)
in_from f i zero a h = absurd h
in_from f i (suc m) a (inl e) = (i, omega arith, omega arith, e)
in_from f i (suc m) a (inr h) = go (in_from f (suc i) m a h)
  where
    go : (r : ℕ) × (suc i ≤ r) × (r < suc i + m) × (a ≡ f r) → (r : ℕ) × (i ≤ r) × (r < i + suc m) × (a ≡ f r)
    go t = (t.0, omega (arith, t.1), omega (arith, t.2), t.3)

pub from_in : {A : Type 0} (f : ℕ → A) (i m r : ℕ) (a : A) → i ≤ r → r < i + m → a ≡ f r → In a (from f i m)
from_in f i zero r a l h e = absurd (omega arith)
from_in f i (suc m) r a l h e = go (eq-or-lt_of_le l) (from_in f (suc i) m r a)
  where
    go : (i ≡ r) ⊎ (i < r) → (suc i ≤ r → r < suc i + m → a ≡ f r → In a (from f (suc i) m)) → In a (from f i (suc m))
    go (inl p) ih = inl (e ∙ ap f (sym p))
    go (inr p) ih = inr (ih p (omega arith) e)

pub from_distinct : {A : Type 0} (f : ℕ → A) (g : A → ℕ) (i m : ℕ) → ((r : ℕ) → r < i + m → g (f r) ≡ r) → Distinct (from f i m)
from_distinct f g i zero h = tt
from_distinct f g i (suc m) h = (λ p. go (in_from f (suc i) m (f i) p), from_distinct f g (suc i) m (λ r l. h r (omega arith)))
  where
    go : (r : ℕ) × (suc i ≤ r) × (r < suc i + m) × (f i ≡ f r) → ⊥
    go t = omega (arith, t.1, ap g t.3, h i (omega arith), h t.0 (omega (arith, t.2)))

pub take_from : {A : Type 0} (f : ℕ → A) (i a b : ℕ) → a ≤ b → take a (from f i b) ≡ from f i a
take_from f i zero b h = refl
take_from f i (suc a) zero h = absurd (not-suc-le-zero h)
take_from f i (suc a) (suc b) h = ap (λ l. f i ∷ l) (take_from f (suc i) a b (le_of_suc-le-suc h))

pub take_either_way : {A : Type 0} (a b : ℕ) (l : List A) → take a (take b l) ≡ take b (take a l)
take_either_way zero zero l = refl
take_either_way zero (suc b) l = refl
take_either_way (suc a) zero l = refl
take_either_way (suc a) (suc b) [] = refl
take_either_way (suc a) (suc b) (x ∷ xs) = ap (λ l. x ∷ l) (take_either_way a b xs)
