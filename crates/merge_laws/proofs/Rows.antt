-- What the words of a row give, without a bracket. Assumes nothing.
--   repeats-rearranged    the repeats of a list do not depend on its order
--   stops-rearranged    so neither does whether a row has a product
--   whole F n w    the term of a row
--   rows_merge    what two rows give, merged, is what the two in a row give
--   rows-exchange    two parts of a row that stand side by side, exchanged, multiply the sign by (-1) to the product of their lengths
--   rows_reordered    in any order a row gives the same index, or the same refusal
use mathlib.Core.Path.{◌≡◌, refl, sym, ap, ap₂, ◌∙◌}
use mathlib.Core.Bool.{Bool, true, false}
use mathlib.Core.List.{List, [], ◌∷◌, ◌++◌}
use Prim.Native.Nat.{ℕ, zero, suc, ◌+◌, ◌*◌, ◌≤◌, ◌<◌, max}
use native.Mathlib.Nat.{le-max_left, le-max_right, max-le, mul_comm}
use native.Mathlib.Decide.{dec_lt}
use native.Mathlib.Omega.{arith}
use borrow.Author.Tests.{ltb-true, ltb-false, lt-ltb, le-ltb, eq-eqb}
use lib.Dec.{ltb}
use lib.ListN.{length, length-append}
use Rattle.words.specs.declared.Family.{Family}
use Rattle.words.specs.declared.Family.TheVariants.{Forbidden, Allowed}
use Rattle.words.specs.Word.{Monotone, Below, shifted_alphabet}
use Rattle.words.specs.Inversions.{multiplicity, crossings, equal_pairs, inversions}
use Rattle.words.proofs.Inversions.{inversions_append, crossings_append_left, crossings_both_ways, multiplicity_append}
use Rattle.answers.specs.declared.Sign.{Sign}
use Rattle.answers.specs.Says.{gives, refused_if, and_then}
use Rattle.answers.specs.Signs.{sign_of, times, sign_in}
use Rattle.answers.specs.Terms.{index_of}
use Rattle.answers.proofs.Signs.{sign_of_parity, times_of_sum}
use Rattle.answers.proofs.Terms.{word_of_index}
use Rattle.taking.specs.Taken.{Accepted}
use Rattle.taking.proofs.Accepted.{index-accepted}
use Rattle.merging.specs.Sorting.{Rearranged, sorted, merged, repeats}
use Rattle.merging.proofs.Sorting.{sorted_increases, sorted_rearranges, sorted_same, length-rearranged, crossings-rearranged, equal-pairs-rearranged}
use Rattle.merging.proofs.Repeats.{repeats_append, strict_has_no_repeats}
use Rattle.merging.proofs.Growing.{sorted_joins}
use Rattle.algebra.specs.Rules.{merged_words_says, merge_says}
use Rattle.algebra.proofs.Over.{sorted_long}
use Rattle.algebra.proofs.Gathering.{sorted-monotone}
use Rattle.algebra.proofs.Promises.{by_words}
use Rattle.merge_laws.specs.Bracketings.{multiplied, exchange_sign, merge_terms, index_alone, number_in, stops, row_says}
use Rattle.answers.specs.declared.SignedTerm.{SignedTerm}

-- ---- what does not depend on the order

equal_both_ways : (u v : List ℕ) → equal_pairs u v ≡ equal_pairs v u
equal_both_ways u v = omega (arith, crossings_both_ways u v, crossings_both_ways v u, mul_comm (length u) (length v))

-- each position with itself, and each repeat twice
equal_to_itself : (w : List ℕ) → equal_pairs w w ≡ length w + 2 * repeats w
unfolding equal_pairs repeats multiplicity
equal_to_itself [] = refl
equal_to_itself (x ∷ xs) = rw (eq-eqb x x refl) (omega (arith, equal_both_ways xs (x ∷ xs), equal_to_itself xs))

pub repeats-rearranged : (u v : List ℕ) → Rearranged u v → repeats u ≡ repeats v
repeats-rearranged u v r =
    omega (arith, equal_to_itself u, equal_to_itself v, equal-pairs-rearranged u v u v r r, length-rearranged u v r)

pub stops-rearranged : (F : Family) (n : ℕ) (u v : List ℕ) → Rearranged u v → stops F n u ≡ stops F n v
stops-rearranged Forbidden n u v r = ap (ltb 0) (repeats-rearranged u v r)
stops-rearranged Allowed n u v r = ap (λ (k : ℕ). ltb 65 (n + k)) (length-rearranged u v r)

-- ---- a part that stops

stops_left : (F : Family) (m n : ℕ) (u v : List ℕ) → stops F m u ≡ true → stops F (max m n) (u ++ v) ≡ true
stops_left Forbidden m n u v e = lt-ltb 0 (repeats (u ++ v)) (omega (arith, ltb-true 0 (repeats u) e, repeats_append u v))
stops_left Allowed m n u v e =
    lt-ltb 65 (max m n + length (u ++ v)) (omega (arith, ltb-true 65 (m + length u) e, le-max_left m n, length-append u v))

stops_right : (F : Family) (m n : ℕ) (u v : List ℕ) → stops F n v ≡ true → stops F (max m n) (u ++ v) ≡ true
stops_right Forbidden m n u v e = lt-ltb 0 (repeats (u ++ v)) (omega (arith, ltb-true 0 (repeats v) e, repeats_append u v))
stops_right Allowed m n u v e =
    lt-ltb 65 (max m n + length (u ++ v)) (omega (arith, ltb-true 65 (n + length v) e, le-max_right m n, length-append u v))

-- ---- two words, by what is said of a merge

width : (n k : ℕ) → n ≤ 64 → ltb 64 (shifted_alphabet Allowed n k) ≡ ltb 65 (n + k)
width n zero h = le-ltb 64 n h ∙ sym (le-ltb 65 (n + 0) (omega arith))
width n (suc k) h = go (dec_lt 64 (n + k))
  where
    go : Dec (64 < n + k) → ltb 64 (n + k) ≡ ltb 65 (n + suc k)
    go (yes l) = lt-ltb 64 (n + k) l ∙ sym (lt-ltb 65 (n + suc k) (omega arith))
    go (no l) = le-ltb 64 (n + k) (omega arith) ∙ sym (le-ltb 65 (n + suc k) (omega arith))

-- the term of two words
abbrev joint : Family → ℕ → List ℕ → List ℕ → SignedTerm
joint F n u v = record { sign = sign_in F (crossings u v); index = index_of F n (merged u v) }

words_merge : (F : Family) (n : ℕ) (u v : List ℕ) → n ≤ 64 → Monotone F u → Monotone F v
    → merged_words_says F n u v ≡ refused_if (stops F n (u ++ v)) (number_in F) (gives (joint F n u v))
words_merge Forbidden n u v h m l =
    let e : repeats (u ++ v) ≡ equal_pairs u v = omega (arith, repeats_append u v, strict_has_no_repeats u m, strict_has_no_repeats v l) in
    ap (λ (t : Bool). refused_if (ltb 0 (equal_pairs u v)) 5 (refused_if t 1 (gives (joint Forbidden n u v)))) (le-ltb 64 n h)
    ∙ ap (λ (k : ℕ). refused_if (ltb 0 k) 5 (gives (joint Forbidden n u v))) (sym e)
words_merge Allowed n u v h m l =
    ap (λ (t : Bool). refused_if t 1 (gives (joint Allowed n u v)))
    (width n (length u + length v) h ∙ ap (λ (k : ℕ). ltb 65 (n + k)) (sym (length-append u v)))

-- ---- the index of a row

row-monotone : (F : Family) (n : ℕ) (w : List ℕ) → stops F n w ≡ false → Monotone F (sorted w)
row-monotone Forbidden n w e = sorted-monotone Forbidden w e
row-monotone Allowed n w e = sorted_increases w

row-narrow : (F : Family) (n : ℕ) (w : List ℕ) → n ≤ 64 → stops F n w ≡ false → shifted_alphabet F n (length w) ≤ 64
row-narrow Forbidden n w h e = h
row-narrow Allowed n w h e = ltb-false 64 (shifted_alphabet Allowed n (length w)) (width n (length w) h ∙ e)

row-accepted : (F : Family) (n : ℕ) (w : List ℕ) → n ≤ 64 → Below n (sorted w) → stops F n w ≡ false → Accepted (index_of F n (sorted w))
row-accepted F n w h b e =
    index-accepted F n (length w) (sorted w) (row-narrow F n w h e)
    (record { long = sorted_long w; monotone = row-monotone F n w e; below = b })

-- ---- two rows

both_sorted : (u v : List ℕ) → Rearranged (sorted u ++ sorted v) (u ++ v)
both_sorted u v x =
    omega (arith, multiplicity_append x (sorted u) (sorted v), multiplicity_append x u v, sorted_rearranges u x, sorted_rearranges v x)

crossings-sorted : (u v : List ℕ) → crossings (sorted u) (sorted v) ≡ crossings u v
crossings-sorted u v = sym (crossings-rearranged u (sorted u) v (sorted v) (sorted_rearranges u) (sorted_rearranges v))

product_of_three : (F : Family) (i j k : ℕ) → times (times (sign_in F i) (sign_in F j)) (sign_in F k) ≡ sign_in F (i + j + k)
product_of_three Forbidden i j k = ap (λ (s : Sign). times s (sign_of k)) (times_of_sum i j) ∙ times_of_sum (i + j) k
product_of_three Allowed i j k = refl

sign_within : (s : Sign) (t : Bool) (d : ℕ) (a : SignedTerm) → multiplied s (refused_if t d (gives a)) ≡ refused_if t d (gives (record { sign = times s a.sign; index = a.index }))
sign_within s true d a = refl
sign_within s false d a = refl

-- the term of a row
abbrev pub whole : Family → ℕ → List ℕ → SignedTerm
whole F n w = record { sign = sign_in F (inversions w); index = index_of F n (sorted w) }

both_pass : (F : Family) (m n : ℕ) (u v : List ℕ) → m ≤ 64 → n ≤ 64 → Below m (sorted u) → Below n (sorted v) → stops F m u ≡ false → stops F n v ≡ false
    → merge_terms (whole F m u) (whole F n v) ≡ row_says F (max m n) (u ++ v)
both_pass F m n u v h k b d e f =
    let merges : merge_says (index_of F m (sorted u)) (index_of F n (sorted v)) ≡ refused_if (stops F (max m n) (sorted u ++ sorted v)) (number_in F) (gives (joint F (max m n) (sorted u) (sorted v))) =
    by_words (index_of F m (sorted u)) (index_of F n (sorted v)) (row-accepted F m u h b e) (row-accepted F n v k d f) refl
    ∙ ap₂ (λ (p q : List ℕ). merged_words_says F (max m n) p q) (word_of_index F m (sorted u) (row-monotone F m u e)) (word_of_index F n (sorted v) (row-monotone F n v f))
    ∙ words_merge F (max m n) (sorted u) (sorted v) (max-le h k) (row-monotone F m u e) (row-monotone F n v f) in
    let signs : times (times (sign_in F (inversions u)) (sign_in F (inversions v))) (sign_in F (crossings (sorted u) (sorted v))) ≡ sign_in F (inversions (u ++ v)) =
    ap (λ (c : ℕ). times (times (sign_in F (inversions u)) (sign_in F (inversions v))) (sign_in F c)) (crossings-sorted u v)
    ∙ product_of_three F (inversions u) (inversions v) (crossings u v) ∙ ap (sign_in F) (sym (inversions_append u v)) in
    ap (multiplied (times (sign_in F (inversions u)) (sign_in F (inversions v)))) merges
    ∙ sign_within (times (sign_in F (inversions u)) (sign_in F (inversions v))) (stops F (max m n) (sorted u ++ sorted v)) (number_in F) (joint F (max m n) (sorted u) (sorted v))
    ∙ ap₂ (λ (t : Bool) (a : SignedTerm). refused_if t (number_in F) (gives a)) (stops-rearranged F (max m n) (sorted u ++ sorted v) (u ++ v) (both_sorted u v))
    (ap₂ (λ (s : Sign) (w : List ℕ). record { sign = s; index = index_of F (max m n) w }) signs (sorted_joins u v))

pub rows_merge : (F : Family) (m n : ℕ) (u v : List ℕ) → m ≤ 64 → n ≤ 64 → Below m (sorted u) → Below n (sorted v)
    → and_then (row_says F m u) (λ a. and_then (row_says F n v) (λ b. merge_terms a b)) ≡ row_says F (max m n) (u ++ v)
rows_merge F m n u v h k b d = go (stops F m u) refl (stops F n v) refl
  where
    stopped : stops F (max m n) (u ++ v) ≡ true → refused_if true (number_in F) (gives (whole F (max m n) (u ++ v))) ≡ row_says F (max m n) (u ++ v)
    stopped e = ap (λ (t : Bool). refused_if t (number_in F) (gives (whole F (max m n) (u ++ v)))) (sym e)

    go : (s : Bool) → stops F m u ≡ s → (t : Bool) → stops F n v ≡ t
        → and_then (refused_if s (number_in F) (gives (whole F m u))) (λ a. and_then (refused_if t (number_in F) (gives (whole F n v))) (λ b. merge_terms a b)) ≡ row_says F (max m n) (u ++ v)
    go true e t f = stopped (stops_left F m n u v e)
    go false e true f = stopped (stops_right F m n u v f)
    go false e false f = both_pass F m n u v h k b d e f

-- ---- another order

pub rows_reordered : (F : Family) (n : ℕ) (u v : List ℕ) → Rearranged u v → index_alone (row_says F n u) ≡ index_alone (row_says F n v)
rows_reordered F n u v r =
    index-within (stops F n u) (number_in F) (whole F n u)
    ∙ ap₂ (λ (t : Bool) (w : List ℕ). refused_if t (number_in F) (gives (index_of F n w))) (stops-rearranged F n u v r) (sorted_same u v r)
    ∙ sym (index-within (stops F n v) (number_in F) (whole F n v))
  where
    index-within : (t : Bool) (d : ℕ) (a : SignedTerm) → index_alone (refused_if t d (gives a)) ≡ refused_if t d (gives a.index)
    index-within true d a = refl
    index-within false d a = refl

-- u and v change places between p and q
exchanged : (p u v q : List ℕ) → Rearranged (p ++ u ++ v ++ q) (p ++ v ++ u ++ q)
exchanged p u v q x =
    omega (
      arith,
      multiplicity_append x (p ++ u ++ v) q,
      multiplicity_append x (p ++ u) v,
      multiplicity_append x p u,
      multiplicity_append x (p ++ v ++ u) q,
      multiplicity_append x (p ++ v) u,
      multiplicity_append x p v,
    )

-- without repeats, u and v have no symbol in common
apart_within : (p u v q : List ℕ) → repeats (p ++ u ++ v ++ q) ≡ 0 → equal_pairs u v ≡ 0
apart_within p u v q e =
    let together : Rearranged (p ++ u ++ v ++ q) (u ++ v ++ (p ++ q)) = λ x. omega (
      arith,
      multiplicity_append x (p ++ u ++ v) q,
      multiplicity_append x (p ++ u) v,
      multiplicity_append x p u,
      multiplicity_append x (u ++ v) (p ++ q),
      multiplicity_append x u v,
      multiplicity_append x p q,
    ) in
    omega (
      arith,
      e,
      repeats-rearranged (p ++ u ++ v ++ q) (u ++ v ++ (p ++ q)) together,
      repeats_append (u ++ v) (p ++ q),
      repeats_append u v,
    )

crossings-exchanged : (p u v q : List ℕ) → inversions (p ++ u ++ v ++ q) + crossings v u ≡ inversions (p ++ v ++ u ++ q) + crossings u v
crossings-exchanged p u v q =
    omega (
      arith,
      parts u v,
      parts v u,
    )
  where
    parts : (u v : List ℕ)
        → inversions (p ++ u ++ v ++ q) ≡ inversions p + inversions u + inversions v + inversions q + crossings p u + crossings p v + crossings u v + crossings p q + crossings u q + crossings v q
    parts u v =
        omega (
          arith,
          inversions_append (p ++ u ++ v) q,
          inversions_append (p ++ u) v,
          inversions_append p u,
          crossings_append_left p u v,
          crossings_append_left (p ++ u) v q,
          crossings_append_left p u q,
        )

sign-exchanged : (F : Family) (n : ℕ) (p u v q : List ℕ) → stops F n (p ++ u ++ v ++ q) ≡ false
    → sign_in F (inversions (p ++ v ++ u ++ q)) ≡ times (exchange_sign F (length u) (length v)) (sign_in F (inversions (p ++ u ++ v ++ q)))
sign-exchanged Forbidden n p u v q e =
    let apart : equal_pairs u v ≡ 0 = apart_within p u v q (omega (arith, ltb-false 0 (repeats (p ++ u ++ v ++ q)) e)) in
    sign_of_parity (inversions (p ++ v ++ u ++ q)) (length u * length v + inversions (p ++ u ++ v ++ q))
    (omega (arith, crossings-exchanged p u v q, crossings_both_ways u v, apart))
    ∙ sym (times_of_sum (length u * length v) (inversions (p ++ u ++ v ++ q)))
sign-exchanged Allowed n p u v q e = refl

pub rows-exchange : (F : Family) (n : ℕ) (p u v q : List ℕ)
    → row_says F n (p ++ v ++ u ++ q) ≡ multiplied (exchange_sign F (length u) (length v)) (row_says F n (p ++ u ++ v ++ q))
rows-exchange F n p u v q =
    ap (λ (t : Bool). refused_if t (number_in F) (gives (whole F n (p ++ v ++ u ++ q)))) (sym (stops-rearranged F n (p ++ u ++ v ++ q) (p ++ v ++ u ++ q) (exchanged p u v q)))
    ∙ go (stops F n (p ++ u ++ v ++ q)) refl
    ∙ sym (sign_within (exchange_sign F (length u) (length v)) (stops F n (p ++ u ++ v ++ q)) (number_in F) (whole F n (p ++ u ++ v ++ q)))
  where
    turned : SignedTerm
    turned = record { sign = times (exchange_sign F (length u) (length v)) (sign_in F (inversions (p ++ u ++ v ++ q))); index = index_of F n (sorted (p ++ u ++ v ++ q)) }

    go : (t : Bool) → stops F n (p ++ u ++ v ++ q) ≡ t → refused_if t (number_in F) (gives (whole F n (p ++ v ++ u ++ q))) ≡ refused_if t (number_in F) (gives turned)
    go true e = refl
    go false e =
        ap₂ (λ (s : Sign) (w : List ℕ). gives (record { sign = s; index = index_of F n w })) (sign-exchanged F n p u v q e)
        (sym (sorted_same (p ++ u ++ v ++ q) (p ++ v ++ u ++ q) (exchanged p u v q)))
