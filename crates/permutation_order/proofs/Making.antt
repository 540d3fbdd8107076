-- The permutation of a rank, made entry by entry from the digits of the rank. Assumes nothing.
--   made j r    what the first j digits of r make
--   make_none, make-more, rest_more    where the making begins, and after one entry more
--   made_holds, made-whole    it is a permutation, and its record has all its entries
--   made_all    with a rank below n!, n digits make the permutation of that rank
use mathlib.Core.Path.{◌≡◌, refl, sym, ap, ap₂, subst⁻¹, ◌∙◌}
use mathlib.Core.List.{List, []}
use Prim.Native.Nat.{ℕ, ◌+◌, ◌/◌, ◌%◌, ◌≤◌, ◌<◌}
use native.Mathlib.Nat.{mod-lt, mod-eq_of_lt, div-one}
use native.Mathlib.Numerals.{add-one}
use native.Mathlib.Omega.{arith}
use lib.ListN.{length, drop, length-append, length-drop}
use Rattle.words.specs.Factorial.{factorial}
use Rattle.words.proofs.Factorial.{factorial-positive}
use Rattle.arrangements.specs.Permutation.{Permutation}
use Rattle.arrangements.specs.Rank.{lastly, arrangement_unrank}
use Rattle.arrangements.proofs.Unrank.{unrank_is_a_permutation, unrank_next, quotient_next}
use Rattle.permutation.specs.declared.Permutation.{Permutation as Record}
use Rattle.permutation.specs.Record.{capacity, empty_entries, arrangement_of, record_of, GoodRecord}
use Rattle.permutation.proofs.Arranging.{word_of_record, record_holds}

unfoldable pub made : ℕ → ℕ → List ℕ
made j r = arrangement_unrank j (r % factorial j)

pub make_none : (r : ℕ) → record_of [] ≡ record_of (made 0 r)
unfolding made arrangement_unrank
make_none r = refl

pub rest_none : (r : ℕ) → r ≡ r / factorial 0
unfolding factorial
rest_none r = sym (div-one r)

made-permutation : (j r : ℕ) → Permutation j (made j r)
unfolding made
made-permutation j r = unrank_is_a_permutation j (r % factorial j) (mod-lt r (factorial-positive j))

pub made_holds : (j r : ℕ) (p : Record) → p ≡ record_of (made j r) → j ≤ capacity → GoodRecord p × (p.len ≡ j)
made_holds j r p e l =
    subst⁻¹ (λ (q : Record). GoodRecord q × (q.len ≡ j)) e (record_holds j (made j r) (made-permutation j r) l, (made-permutation j r).long)

pub made-whole : (j r : ℕ) (p : Record) → p ≡ record_of (made j r) → j ≤ capacity → length p.entries ≡ capacity
made-whole j r p e l =
    ap (λ (q : Record). length q.entries) e
    ∙ omega (arith, l, (made-permutation j r).long, length-append (made j r) (drop (length (made j r)) empty_entries), length-drop (length (made j r)) empty_entries)

module _ (j r rest : ℕ) (e : rest ≡ r / factorial j) where
  pub make-more : (p q : Record) → p ≡ record_of (made j r) → q ≡ record_of (lastly (rest % (j + 1)) (arrangement_of p)) → q ≡ record_of (made (j + 1) r)
  unfolding made
  make-more p q f g = g ∙ ap record_of (ap₂ lastly (ap₂ (λ (a b : ℕ). a % b) e (add-one j)) (ap arrangement_of f ∙ word_of_record (made j r)) ∙ sym (unrank_next j r) ∙ ap (λ (n : ℕ). made n r) (sym (add-one j)))

  pub rest_more : rest / (j + 1) ≡ r / factorial (j + 1)
  rest_more = ap₂ (λ (a b : ℕ). a / b) e (add-one j) ∙ quotient_next j r ∙ ap (λ (n : ℕ). r / factorial n) (sym (add-one j))

pub made_all : (n r : ℕ) → r < factorial n → made n r ≡ arrangement_unrank n r
unfolding made
made_all n r h = ap (arrangement_unrank n) (mod-eq_of_lt h)
