-- Answers that give a permutation. Assumes nothing.
--   word_of_record, record_holds    the record of a list holds that list
--   recorded-says    an answer that is the record of what is said says that list
--   recorded-whole    the record that is given has all its entries, if no list that is said passes the capacity
use Rattle.std.specs.Prelude.{Result, Ok}
use mathlib.Core.Path.{◌≡◌, refl, sym, ap, subst, subst⁻¹, ◌∙◌}
use mathlib.Core.List.{List, ◌++◌}
use Prim.Native.Nat.{ℕ, zero, suc, ◌+◌, ◌-◌, ◌≤◌}
use native.Mathlib.Omega.{arith}
use lib.ListN.{length, drop, get_or, replicate, length-append, length-drop}
use lib.Seq.{take-append_seam, get_or-append-add, get_or-drop}
use Rattle.arrangements.specs.Permutation.{Permutation as IsPermutation}
use Rattle.answers.specs.declared.Refusal.{Refusal}
use Rattle.answers.specs.Says.{Says, refuses_with, gives, and_then, answer_says}
use Rattle.answers.proofs.Says.{gives_same, then_gave}
use Rattle.permutation.specs.declared.Permutation.{Permutation}
use Rattle.permutation.specs.Record.{capacity, empty_entries, arrangement_of, record_of, Whole, GoodRecord, arranged_says, recorded}

pub word_of_record : (w : List ℕ) → arrangement_of (record_of w) ≡ w
word_of_record w = take-append_seam w (drop (length w) empty_entries)

zero_there : (m k : ℕ) → ◌≡◌ {A = ℕ} (get_or (replicate m 0) k 0) 0
zero_there zero k = refl
zero_there (suc m) zero = refl
zero_there (suc m) (suc k) = zero_there m k

-- past the list its record holds zeros
zero-past : (w : List ℕ) (i : ℕ) → length w ≤ i → get_or (w ++ drop (length w) empty_entries) i 0 ≡ 0
zero-past w i h =
    let back : length w + (i - length w) ≡ i = omega arith in
    subst (λ (k : ℕ). get_or (w ++ drop (length w) empty_entries) k 0 ≡ 0) back
    (get_or-append-add w (drop (length w) empty_entries) (i - length w) 0 ∙ get_or-drop (length w) empty_entries (i - length w) 0 ∙ zero_there capacity (length w + (i - length w)))

pub record_holds : (n : ℕ) (w : List ℕ) → IsPermutation n w → n ≤ capacity → GoodRecord (record_of w)
record_holds n w p l =
    record {
      short = omega (arith, p.long);
      permutation = subst⁻¹ (IsPermutation (length w)) (word_of_record w) (subst⁻¹ (λ (m : ℕ). IsPermutation m w) p.long p);
      past = zero-past w;
    }

-- ---- an answer that is the record of what is said

module _ (s : Says (List ℕ)) (r : Result Permutation Refusal) (e : answer_says r ≡ recorded s) where
  pub recorded-says : arranged_says r ≡ s
  recorded-says = ap (λ (x : Says Permutation). and_then x (λ p. gives (arrangement_of p))) e ∙ go s
    where
      go : (s : Says (List ℕ)) → and_then (recorded s) (λ p. gives (arrangement_of p)) ≡ s
      go (refuses_with n c) = refl
      go (gives w) = ap gives (word_of_record w)

  pub recorded-whole : ((w : List ℕ) → s ≡ gives w → length w ≤ capacity) → (p : Permutation) → r ≡ Ok p → Whole p
  recorded-whole short p q =
      let t = then_gave s (λ w. gives (record_of w)) p (sym e ∙ ap answer_says q) in
      subst Whole (gives_same (record_of t.0) p t.2) (omega (arith, short t.0 t.1, length-append t.0 (drop (length t.0) empty_entries), length-drop (length t.0) empty_entries))
