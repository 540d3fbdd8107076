-- Demand 2 for the sum of exponents and the merge of indices together, over what the calls say. Assumes nothing.
--   sum_is_the_merge_of_indices    where exponents of one length have words, and these are packed, the merge of the two indices is the index of the word of the sum,
--     with the sign plus; and it is refused where the sum is too wide, with the same number
use mathlib.Core.Path.{◌≡◌, refl, sym, ap, ap₂, ◌∙◌}
use mathlib.Core.Bool.{Bool, true, false}
use mathlib.Core.List.{List, [], ◌∷◌}
use Prim.Native.Nat.{ℕ, zero, suc, ◌+◌, ◌≤◌, ◌<◌, max}
use native.Mathlib.Nat.{le_refl, le_antisymm, le-max_left, max-le}
use native.Mathlib.Decide.{dec_lt}
use native.Mathlib.Omega.{arith}
use borrow.Author.Tests.{lt-ltb, le-ltb, eq-eqb}
use lib.Dec.{ltb}
use lib.ListN.{length}
use Rattle.words.specs.declared.Family.TheVariants.{Allowed}
use Rattle.words.specs.Word.{shifted_alphabet}
use Rattle.answers.specs.declared.Index.{Index}
use Rattle.answers.specs.declared.Sign.TheVariants.{Plus}
use Rattle.answers.specs.Says.{Says, gives, refused_if, and_then}
use Rattle.answers.specs.Terms.{index_of, word_of}
use Rattle.answers.proofs.Says.{gives_same, passed}
use Rattle.answers.proofs.Terms.{word_of_index}
use Rattle.taking.proofs.Accepted.{index-accepted}
use Rattle.merging.specs.Sorting.{merged}
use Rattle.merging.proofs.Merging.{merged_long}
use Rattle.monotone.specs.Rules.{pack_says}
use Rattle.algebra.specs.Rules.{merged_words_says, merge_says}
use Rattle.algebra.proofs.Promises.{by_words}
use Rattle.composition.specs.Exponents.{sum_of, spelled, added}
use Rattle.composition.specs.Rules.{exponents_too_wide, word_says, add_says}
use Rattle.composition.proofs.Exponents.{spelled_long, spelled_is_a_word, added_long}
use Rattle.composition.proofs.Checks.{wide_not}
use Rattle.composition.proofs.Promises.{spelled_of_added}
use Rattle.promises.proofs.Records.{packed-accepted}
use Rattle.answers.specs.declared.SignedTerm.{SignedTerm}

-- the index of the word of exponents, over as many symbols as there are entries
abbrev of_exponents : List ℕ → Index
of_exponents es = index_of Allowed (length es) (spelled es)

abbrev plus : Index → SignedTerm
plus x = record { sign = Plus; index = x }

-- ---- the limit

-- without entries there is no degree, and otherwise a degree above 64 makes the shifted alphabet too wide
limit_is_the_alphabets : (n k : ℕ) → n ≤ 64 → (n ≡ 0 → k ≡ 0) → exponents_too_wide n k ≡ ltb 64 (shifted_alphabet Allowed n k)
limit_is_the_alphabets n zero h z = simp (le-ltb 64 n h)
limit_is_the_alphabets zero (suc k) h z = absurd (omega (arith, z refl))
limit_is_the_alphabets (suc n) (suc k) h z = go (dec_lt 64 (suc k))
  where
    go : Dec (64 < suc k) → exponents_too_wide (suc n) (suc k) ≡ ltb 64 (shifted_alphabet Allowed (suc n) (suc k))
    go (yes l) = simp (le-ltb 64 (suc n) h, lt-ltb 64 (suc k) l, lt-ltb 64 (suc n + k) (omega arith))
    go (no l) = simp (le-ltb 64 (suc n) h, le-ltb 64 (suc k) (omega arith))

no_entries : (a b : List ℕ) → length a ≡ 0 → sum_of (added a b) ≡ 0
unfolding sum_of added
no_entries [] b e = refl
no_entries (x ∷ xs) b e = absurd (omega arith)

-- ---- the merge

-- of exponents that keep the limit
merged_by_sum : (a b : List ℕ) → exponents_too_wide (length a) (sum_of a) ≡ false → exponents_too_wide (length b) (sum_of b) ≡ false → length a ≡ length b
    → merge_says (of_exponents a) (of_exponents b)
    ≡ refused_if (exponents_too_wide (length a) (sum_of (added a b))) 1 (gives (plus (index_of Allowed (length a) (spelled (added a b)))))
merged_by_sum a b f g e =
    by_words (of_exponents a) (of_exponents b) (index-accepted Allowed (length a) (sum_of a) (spelled a) (wide_not (length a) (sum_of a) f).alphabet (spelled_is_a_word a))
    (index-accepted Allowed (length b) (sum_of b) (spelled b) (wide_not (length b) (sum_of b) g).alphabet (spelled_is_a_word b)) refl
    ∙ ap (λ (n : ℕ). merged_words_says Allowed n (word_of (of_exponents a)) (word_of (of_exponents b))) one-alphabet
    ∙ ap₂ (λ (u v : List ℕ). merged_words_says Allowed (length a) u v) (word_of_index Allowed (length a) (spelled a) (spelled_is_a_word a).monotone)
    (word_of_index Allowed (length b) (spelled b) (spelled_is_a_word b).monotone)
    ∙ ap₂ (λ t (w : List ℕ). refused_if t 1 (gives (plus (index_of Allowed (length a) w)))) limit (sym sum)
  where
    one-alphabet : max (length a) (length b) ≡ length a
    one-alphabet = le_antisymm (max-le (le_refl (length a)) (omega arith)) (le-max_left (length a) (length b))

    sum : spelled (added a b) ≡ merged (spelled a) (spelled b)
    sum = spelled_of_added a b e

    long : length (spelled a) + length (spelled b) ≡ sum_of (added a b)
    long = sym (sym (spelled_long 0 (added a b)) ∙ ap length sum ∙ merged_long (spelled a) (spelled b))

    limit : ltb 64 (shifted_alphabet Allowed (length a) (length (spelled a) + length (spelled b))) ≡ exponents_too_wide (length a) (sum_of (added a b))
    limit =
        ap (λ (k : ℕ). ltb 64 (shifted_alphabet Allowed (length a) k)) long
        ∙ sym (limit_is_the_alphabets (length a) (sum_of (added a b)) (wide_not (length a) (sum_of a) f).entries (no_entries a b))

-- ---- over the calls

-- the limit that exponents keep whose word is given, and the index that packing the word gives
packed : (es w : List ℕ) (room : ℕ) (x : Index) → word_says es room ≡ gives w → pack_says Allowed (length es) w ≡ gives x
    → (exponents_too_wide (length es) (sum_of es) ≡ false) × (of_exponents es ≡ x)
packed es w room x e f =
    let p = passed (exponents_too_wide (length es) (sum_of es)) 1 _ w e in
    let q = passed (ltb room (sum_of es)) 8 _ w p.1 in
    (p.0, ap (index_of Allowed (length es)) (gives_same (spelled es) w q.1) ∙ sym (packed-accepted Allowed (length es) w x f).1)

pub sum_is_the_merge_of_indices : (a b u v : List ℕ) (x y : Index) (room left right : ℕ) → word_says a left ≡ gives u → word_says b right ≡ gives v
    → pack_says Allowed (length a) u ≡ gives x → pack_says Allowed (length b) v ≡ gives y → length a ≡ length b → length a ≤ room
    → merge_says x y ≡ and_then (add_says a b room) (λ es. gives (record { sign = Plus; index = index_of Allowed (length es) (spelled es) }))
sum_is_the_merge_of_indices a b u v x y room left right e f p q l h =
    let i = packed a u left x e p in
    let j = packed b v right y f q in
    let sum : add_says a b room ≡ refused_if (exponents_too_wide (length a) (sum_of (added a b))) 1 (gives (added a b)) =
    simp (i.0, j.0, eq-eqb (length a) (length b) l, le-ltb room (length a) h) in
    ap₂ merge_says (sym i.1) (sym j.1) ∙ merged_by_sum a b i.0 j.0 l
    ∙ passes (exponents_too_wide (length a) (sum_of (added a b))) ∙ sym (ap (λ (s : Says (List ℕ)). and_then s (λ es. gives (plus (of_exponents es)))) sum)
  where
    passes : (t : Bool) → refused_if t 1 (gives (plus (index_of Allowed (length a) (spelled (added a b)))))
        ≡ and_then (refused_if t 1 (gives (added a b))) (λ es. gives (plus (of_exponents es)))
    passes true = refl
    passes false = ap (λ (n : ℕ). gives (plus (index_of Allowed n (spelled (added a b))))) (sym (added_long a b l))
