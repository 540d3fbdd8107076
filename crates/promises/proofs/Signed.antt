-- Demand 2 for deletion and merging together, over what the calls say. Assumes nothing.
--   deleting_and_merging_back    a symbol deleted and merged back from the left gives the index, with the sign of the deletion
--   a_sign_times_itself_is_plus    so the product of the two signs is plus
use mathlib.Core.Path.{◌≡◌, refl, sym, ap, ap₂, subst, ◌∙◌}
use mathlib.Core.Bool.{false}
use mathlib.Core.List.{List, [], ◌∷◌, ◌++◌}
use Prim.Native.Nat.{ℕ, zero, suc, ◌+◌, max}
use native.Mathlib.Nat.{le_refl, le-max_left, max-le}
use native.Mathlib.Omega.{arith}
use borrow.Author.Tests.{le-ltb, eq-eqb}
use lib.Dec.{ltb}
use lib.ListN.{length, take, drop}
use Rattle.words.specs.declared.Family.{Family}
use Rattle.words.specs.declared.Family.TheVariants.{Forbidden, Allowed}
use Rattle.words.specs.Word.{Monotone, shifted_alphabet}
use Rattle.words.specs.HowMany.{In}
use Rattle.words.specs.Inversions.{crossings, multiplicity, equal_pairs}
use Rattle.words.proofs.Word.{monotone_weaker, alphabet-shorter}
use Rattle.words.proofs.Positions.{below_at}
use Rattle.words.proofs.Members.{at_in}
use Rattle.words.proofs.Inversions.{merge_sign_is_left_larger}
use Rattle.answers.specs.declared.Index.{Index}
use Rattle.answers.specs.declared.Sign.{Sign}
use Rattle.answers.specs.declared.Sign.TheVariants.{Plus, Minus}
use Rattle.answers.specs.Says.{gives}
use Rattle.answers.specs.Signs.{sign_of, times, sign_in}
use Rattle.answers.specs.Terms.{index_of, word_of}
use Rattle.taking.specs.Taken.{Accepted}
use Rattle.taking.proofs.Accepted.{accepted-passes, index-accepted, taken_gives}
use Rattle.answers.proofs.Terms.{word_of_index, index_of_word, word-monotone}
use Rattle.merging.specs.Sorting.{Rearranged, merged}
use Rattle.merging.proofs.Sorting.{sorted_is_the_one}
use Rattle.merging.proofs.Merging.{merged_is_sorted, merged_long}
use Rattle.algebra.specs.Rules.{forbids, merged_words_says, merge_says}
use Rattle.algebra.proofs.Promises.{by_words}
use Rattle.deletion.specs.Rules.{removed_says, delete_says}
use Rattle.deletion.proofs.Rules.{Gone, delete_given}
use Rattle.deletion.proofs.Absent.{multiplicity_one}
use Rattle.deletion.proofs.Promises.{deletion_sign, deletion_sign_allowed, deletion_put_back, deletion_accepted}
use Rattle.deletion.specs.declared.Removed.{Removed}

moved_to_front : (s p : ℕ) (v : List ℕ) → Rearranged (s ∷ v) (take p v ++ s ∷ drop p v)
unfolding multiplicity
moved_to_front s zero v z = refl
moved_to_front s (suc p) [] z = refl
moved_to_front s (suc p) (y ∷ ys) z = omega (arith, moved_to_front s p ys z)

-- a word that increases strictly has the symbol once, so what is left has it no more
free : (F : Family) (s : ℕ) (v w : List ℕ) → Monotone F w → In s w → Rearranged (s ∷ v) w → forbids F (equal_pairs (s ∷ []) v) ≡ false
unfolding equal_pairs multiplicity
free Allowed s v w m i r = refl
free Forbidden s v w m i r =
    le-ltb 0 (equal_pairs (s ∷ []) v) (omega (arith, rw (eq-eqb s s refl) at (r s), multiplicity_one s w m i))

pub deleting_and_merging_back : (x : Index) (p : ℕ) (r : Removed) → delete_says x p ≡ gives r
    → merge_says (index_of x.family x.alphabet (r.symbol ∷ [])) r.index ≡ gives (record { sign = r.sign; index = x })
deleting_and_merging_back x p r e =
    let g : Gone x p r = delete_given x p r e in
    let a : Accepted x = (taken_gives x (removed_says x p) r e).0 in
    let m : Monotone x.family (word_of x) = word-monotone x in
    let n : Monotone x.family (word_of r.index) = subst (λ (G : Family). Monotone G (word_of r.index)) g.family (word-monotone r.index) in
    let one : word_of (index_of x.family x.alphabet (r.symbol ∷ [])) ≡ r.symbol ∷ [] = word_of_index x.family x.alphabet (r.symbol ∷ []) tt in
    let same : Rearranged (r.symbol ∷ word_of r.index) (word_of x) =
    subst (Rearranged (r.symbol ∷ word_of r.index)) (sym (deletion_put_back x p r e)) (moved_to_front r.symbol p (word_of r.index)) in
    let whole : merged (r.symbol ∷ []) (word_of r.index) ≡ word_of x =
    merged_is_sorted (r.symbol ∷ []) (word_of r.index) tt (monotone_weaker x.family (word_of r.index) n)
    ∙ sym (sorted_is_the_one (r.symbol ∷ word_of r.index) (word_of x) (monotone_weaker x.family (word_of x) m) same) in
    let there : In r.symbol (word_of x) = subst (λ (s : ℕ). In s (word_of x)) (sym g.symbol) (at_in (word_of x) p g.within) in
    let apart : forbids x.family (equal_pairs (r.symbol ∷ []) (word_of r.index)) ≡ false = free x.family r.symbol (word_of r.index) (word_of x) m there same in
    let long : 1 + length (word_of r.index) ≡ length (word_of x) = sym (merged_long (r.symbol ∷ []) (word_of r.index)) ∙ ap length whole in
    let narrow : ltb 64 (shifted_alphabet x.family x.alphabet (1 + length (word_of r.index))) ≡ false =
    ap (λ (k : ℕ). ltb 64 (shifted_alphabet x.family x.alphabet k)) long ∙ (accepted-passes x a).0 in
    let single : Accepted (index_of x.family x.alphabet (r.symbol ∷ [])) =
    index-accepted x.family x.alphabet 1 (r.symbol ∷ []) (omega (arith, alphabet-shorter x.family x.alphabet 1 (length (word_of x)) (omega (arith, g.within)), a.narrow))
    (record { long = refl; monotone = tt; below = (omega (arith, g.symbol, (below_at x.alphabet (word_of x)).0 a.over p g.within), tt) }) in
    let larger : max x.alphabet r.index.alphabet ≡ x.alphabet =
    ap (max x.alphabet) g.alphabet ∙ omega (arith, max-le (le_refl x.alphabet) (le_refl x.alphabet), le-max_left x.alphabet x.alphabet) in
    let signs : sign_in x.family (crossings (r.symbol ∷ []) (word_of r.index)) ≡ r.sign = sign x.family refl n in
    by_words (index_of x.family x.alphabet (r.symbol ∷ [])) r.index single (deletion_accepted x p r e) g.family
    ∙ ap₂ (λ (k : ℕ) (u : List ℕ). merged_words_says x.family k u (word_of r.index)) larger one
    ∙ simp (apart, narrow, whole, signs, index_of_word x)
  where
    sign : (G : Family) → x.family ≡ G → Monotone G (word_of r.index) → sign_in G (crossings (r.symbol ∷ []) (word_of r.index)) ≡ r.sign
    sign Forbidden f n = ap sign_of (sym (merge_sign_is_left_larger Forbidden (r.symbol ∷ []) (word_of r.index) tt n)) ∙ sym (deletion_sign x p r f e)
    sign Allowed f n = sym (deletion_sign_allowed x p r f e)

pub a_sign_times_itself_is_plus : (s : Sign) → times s s ≡ Plus
a_sign_times_itself_is_plus Plus = refl
a_sign_times_itself_is_plus Minus = refl
