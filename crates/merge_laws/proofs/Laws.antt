-- The laws of merging (02 §14), over the definitions that the contracts cite, for both families. Assumes nothing.
--   product_is_the_row    of accepted indices of one family, every bracketing answers what the words in a row do: the sign of the inversions of the row
--     and the sorted row over the largest alphabet, or the family's one refusal
--   bracketings_agree    so two bracketings of one row answer the same: one index with one product of signs, or one refusal
--   merge_associates    (x y) z and x (y z) are two such
--   product_answers_exactly, product_refuses_exactly    a product answers exactly if, for Forbidden, no two of the indices share a symbol and, for Allowed,
--     the largest alphabet + all degrees - 1 is at most 64; otherwise the number is 5 for Forbidden and 1 for Allowed
--   merge_answers, merges_answer    so of two indices, and of three in either bracketing
--   factors-exchange    two neighbouring parts of a product, exchanged, keep the index or the refusal and multiply the sign by (-1) to the product of their
--     degrees for Forbidden, and by plus for Allowed
--   merge_exchanges    so a merge and its exchange; and of any two records, accepted or not, of one family or of two, they refuse with one number
--   outer_factors_exchanged    the outer two of three, exchanged, do not turn the sign so: {0} {1} {2, 3} and {2, 3} {1} {0} differ by minus
--   any_order    in any order and any bracketing a product has the same index, or the same refusal
use mathlib.Core.Path.{◌≡◌, refl, sym, ap, ap₂, subst, ◌∙◌}
use mathlib.Core.Bool.{Bool, true, false}
use mathlib.Core.Logic.{◌↔◌}
use mathlib.Core.List.{List, [], ◌∷◌, ◌++◌, append-nil, append_assoc}
use Prim.Native.Nat.{ℕ, zero, suc, ◌+◌, ◌≤◌, max}
use native.Mathlib.Nat.{le-max_left, le-max_right, max-le, max_comm, max-zero, zero-max, le_trans, le_antisymm}
use native.Mathlib.Omega.{arith}
use borrow.Author.Tests.{ltb-false, le-ltb}
use lib.ListN.{length}
use Rattle.words.specs.declared.Family.{Family}
use Rattle.words.specs.declared.Family.TheVariants.{Forbidden, Allowed}
use Rattle.words.specs.Word.{Monotone, Below, shifted_alphabet}
use Rattle.words.specs.Bits.{bits_of, ones_from}
use Rattle.words.specs.Inversions.{smaller_in, multiplicity, crossings, equal_pairs, inversions}
use Rattle.bits.specs.Member.{reaches}
use Rattle.words.proofs.Word.{monotone_weaker, below_more}
use Rattle.words.proofs.Inversions.{increasing_has_no_inversions, apart_is_no_equal_pairs, multiplicity_append}
use Rattle.answers.specs.declared.Index.{Index}
use Rattle.answers.specs.declared.Sign.{Sign}
use Rattle.answers.specs.declared.Sign.TheVariants.{Plus, Minus}
use Rattle.answers.specs.Says.{Says, refuses_with, refuses, gives, refused_if, and_then}
use Rattle.answers.specs.Signs.{times, sign_in}
use Rattle.answers.specs.Terms.{index_of, word_of}
use Rattle.answers.proofs.Says.{gives_no_refusal, passed}
use Rattle.answers.proofs.Terms.{word-monotone, index_of_word}
use Rattle.taking.specs.Taken.{too_wide, outside, Accepted}
use Rattle.taking.proofs.Accepted.{accepted-passes, passes-accepted, narrow-alphabet, both_accepted}
use Rattle.merging.specs.Sorting.{Rearranged, sorted, merged, repeats}
use Rattle.merging.proofs.Sorting.{sorted_of_increasing}
use Rattle.merging.proofs.Repeats.{repeats_append, strict_has_no_repeats}
use Rattle.merging.proofs.Growing.{sorted_joins}
use Rattle.algebra.specs.Rules.{same_family, join_says, merge_says}
use Rattle.algebra.proofs.Over.{merged_below}
use Rattle.algebra.proofs.Promises.{no_sign}
use Rattle.merge_laws.specs.Bracketings.{multiplied, left_first, right_first, exchange_sign, Bracketing, leaf, join, leaves, merge_terms, product_of, index_alone, AllOf, row_word, largest, Apart, MayMerge, number_in, stops, row_says, Reordered}
use Rattle.merge_laws.proofs.Rows.{whole, rows_merge, rows-exchange, rows_reordered}
use Rattle.answers.specs.declared.SignedTerm.{SignedTerm}

-- ---- rows of indices

max_associates : (a b c : ℕ) → max (max a b) c ≡ max a (max b c)
max_associates a b c =
    le_antisymm
    (max-le (max-le (le-max_left a (max b c)) (le_trans (le-max_left b c) (le-max_right a (max b c)))) (le_trans (le-max_right b c) (le-max_right a (max b c))))
    (max-le (le_trans (le-max_left a b) (le-max_left (max a b) c)) (max-le (le_trans (le-max_right a b) (le-max_left (max a b) c)) (le-max_right (max a b) c)))

-- the second comes first
max-second : (a b c : ℕ) → max a (max b c) ≡ max b (max a c)
max-second a b c = sym (max_associates a b c) ∙ ap (λ (m : ℕ). max m c) (max_comm a b) ∙ max_associates b a c

row_append : (xs ys : List Index) → row_word (xs ++ ys) ≡ row_word xs ++ row_word ys
row_append [] ys = refl
row_append (x ∷ xs) ys = ap (λ (w : List ℕ). word_of x ++ w) (row_append xs ys) ∙ sym (append_assoc (word_of x) (row_word xs) (row_word ys))

largest_append : (xs ys : List Index) → largest (xs ++ ys) ≡ max (largest xs) (largest ys)
largest_append [] ys = sym (zero-max (largest ys))
largest_append (x ∷ xs) ys = ap (max x.alphabet) (largest_append xs ys) ∙ sym (max_associates x.alphabet (largest xs) (largest ys))

all_left : (F : Family) (xs ys : List Index) → AllOf F (xs ++ ys) → AllOf F xs
all_left F [] ys a = tt
all_left F (x ∷ xs) ys a = (a.0, a.1, all_left F xs ys a.2)

all_right : (F : Family) (xs ys : List Index) → AllOf F (xs ++ ys) → AllOf F ys
all_right F [] ys a = a
all_right F (x ∷ xs) ys a = all_right F xs ys a.2

all_both : (F : Family) (xs ys : List Index) → AllOf F xs → AllOf F ys → AllOf F (xs ++ ys)
all_both F [] ys a b = b
all_both F (x ∷ xs) ys a b = (a.0, a.1, all_both F xs ys a.2 b)

word-sorted : (x : Index) → sorted (word_of x) ≡ word_of x
word-sorted x = sorted_of_increasing (word_of x) (monotone_weaker x.family (word_of x) (word-monotone x))

largest-narrow : (F : Family) (xs : List Index) → AllOf F xs → largest xs ≤ 64
largest-narrow F [] a = omega arith
largest-narrow F (x ∷ xs) a = max-le (narrow-alphabet x (accepted-passes x a.0).0) (largest-narrow F xs a.2)

row_below : (F : Family) (xs : List Index) → AllOf F xs → Below (largest xs) (sorted (row_word xs))
unfolding sorted
row_below F [] a = tt
row_below F (x ∷ xs) a =
    subst (Below (largest (x ∷ xs))) (sorted_joins (word_of x) (row_word xs))
    (merged_below (largest (x ∷ xs)) (sorted (word_of x)) (sorted (row_word xs))
    (subst (Below (largest (x ∷ xs))) (sym (word-sorted x)) (below_more x.alphabet (largest (x ∷ xs)) (word_of x) (le-max_left x.alphabet (largest xs)) a.0.over))
    (below_more (largest xs) (largest (x ∷ xs)) (sorted (row_word xs)) (le-max_right x.alphabet (largest xs)) (row_below F xs a.2)))

-- ---- a bracketing answers what its row does

-- an accepted index is the product of itself
one_passes : (F : Family) (x : Index) → Accepted x → x.family ≡ F → stops F x.alphabet (word_of x) ≡ false
one_passes Forbidden x a f = le-ltb 0 (repeats (word_of x)) (omega (arith, strict_has_no_repeats (word_of x) (subst (λ (G : Family). Monotone G (word_of x)) f (word-monotone x))))
one_passes Allowed x a f =
    le-ltb 65 (x.alphabet + length (word_of x))
    (fits (length (word_of x)) (subst (λ (G : Family). shifted_alphabet G x.alphabet (length (word_of x)) ≤ 64) f a.narrow))
  where
    fits : (k : ℕ) → shifted_alphabet Allowed x.alphabet k ≤ 64 → x.alphabet + k ≤ 65
    fits zero h = omega arith
    fits (suc k) h = omega arith

one_is_its_row : (F : Family) (x : Index) → Accepted x → x.family ≡ F → gives (record { sign = Plus; index = x }) ≡ row_says F x.alphabet (word_of x)
one_is_its_row F x a f =
    let sign : sign_in F (inversions (word_of x)) ≡ Plus = ap (sign_in F) (increasing_has_no_inversions x.family (word_of x) (word-monotone x)) ∙ no_sign F in
    let index : index_of F x.alphabet (sorted (word_of x)) ≡ x =
    ap (index_of F x.alphabet) (word-sorted x) ∙ ap (λ (G : Family). index_of G x.alphabet (word_of x)) (sym f) ∙ index_of_word x in
    sym (ap (λ (t : Bool). refused_if t (number_in F) (gives (whole F x.alphabet (word_of x)))) (one_passes F x a f)
    ∙ ap₂ (λ (s : Sign) (y : Index). gives (record { sign = s; index = y })) sign index)

pub product_is_the_row : (F : Family) (t : Bracketing) → AllOf F (leaves t) → product_of t ≡ row_says F (largest (leaves t)) (row_word (leaves t))
product_is_the_row F (leaf x) a =
    one_is_its_row F x a.0 a.1 ∙ ap₂ (λ (n : ℕ) (w : List ℕ). row_says F n w) (sym (max-zero x.alphabet)) (sym (append-nil (word_of x)))
product_is_the_row F (join s t) a =
    let left : AllOf F (leaves s) = all_left F (leaves s) (leaves t) a in
    let right : AllOf F (leaves t) = all_right F (leaves s) (leaves t) a in
    ap₂ (λ (p q : Says SignedTerm). and_then p (λ b. and_then q (λ c. merge_terms b c))) (product_is_the_row F s left) (product_is_the_row F t right)
    ∙ rows_merge F (largest (leaves s)) (largest (leaves t)) (row_word (leaves s)) (row_word (leaves t)) (largest-narrow F (leaves s) left) (largest-narrow F (leaves t) right)
    (row_below F (leaves s) left) (row_below F (leaves t) right)
    ∙ ap₂ (λ (n : ℕ) (w : List ℕ). row_says F n w) (sym (largest_append (leaves s) (leaves t))) (sym (row_append (leaves s) (leaves t)))

pub bracketings_agree : (F : Family) (s t : Bracketing) → AllOf F (leaves s) → leaves t ≡ leaves s → product_of s ≡ product_of t
bracketings_agree F s t a e =
    product_is_the_row F s a ∙ sym (product_is_the_row F t (subst (AllOf F) (sym e) a) ∙ ap (λ (xs : List Index). row_says F (largest xs) (row_word xs)) e)

-- ---- two and three indices, as products

plus_changes_nothing : (a : Says SignedTerm) → multiplied Plus a ≡ a
plus_changes_nothing (refuses_with d c) = refl
plus_changes_nothing (gives t) = refl

two : (x y : Index) → product_of (join (leaf x) (leaf y)) ≡ merge_says x y
two x y = plus_changes_nothing (merge_says x y)

left_first_lem : (x y z : Index) → product_of (join (join (leaf x) (leaf y)) (leaf z)) ≡ left_first x y z
left_first_lem x y z = go (merge_says x y)
  where
    plus-last : (s : Sign) (a : Says SignedTerm) → multiplied (times (times Plus s) Plus) a ≡ multiplied s a
    plus-last Plus a = refl
    plus-last Minus a = refl

    go : (a : Says SignedTerm) → and_then (multiplied Plus a) (λ b. merge_terms b (record { sign = Plus; index = z })) ≡ and_then a (λ t. multiplied t.sign (merge_says t.index z))
    go (refuses_with d c) = refl
    go (gives t) = plus-last t.sign (merge_says t.index z)

right_first_lem : (x y z : Index) → product_of (join (leaf x) (join (leaf y) (leaf z))) ≡ right_first x y z
right_first_lem x y z = ap (λ (a : Says SignedTerm). and_then a (λ b. multiplied b.sign (merge_says x b.index))) (two y z)

pub merge_associates : (x y z : Index) → Accepted x → Accepted y → Accepted z → y.family ≡ x.family → z.family ≡ x.family
    → left_first x y z ≡ right_first x y z
merge_associates x y z a b c f g =
    sym (left_first_lem x y z)
    ∙ bracketings_agree x.family (join (join (leaf x) (leaf y)) (leaf z)) (join (leaf x) (join (leaf y) (leaf z))) (a, refl, (b, f, (c, g, tt))) refl
    ∙ right_first_lem x y z

-- ---- when there is a product

repeats_apart : (xs : List Index) → AllOf Forbidden xs → (repeats (row_word xs) ≡ 0) ↔ Apart xs
unfolding repeats
repeats_apart xs a = (to xs a, from xs a)
  where
    strict : (x : Index) → x.family ≡ Forbidden → repeats (word_of x) ≡ 0
    strict x f = strict_has_no_repeats (word_of x) (subst (λ (G : Family). Monotone G (word_of x)) f (word-monotone x))

    to : (xs : List Index) → AllOf Forbidden xs → repeats (row_word xs) ≡ 0 → Apart xs
    to [] a e = tt
    to (x ∷ xs) a e = (
      (apart_is_no_equal_pairs (word_of x) (row_word xs)).0 (omega (arith, e, repeats_append (word_of x) (row_word xs))),
      to xs a.2 (omega (arith, e, repeats_append (word_of x) (row_word xs))),
    )

    from : (xs : List Index) → AllOf Forbidden xs → Apart xs → repeats (row_word xs) ≡ 0
    from [] a p = refl
    from (x ∷ xs) a p =
        omega (arith, repeats_append (word_of x) (row_word xs), strict x a.1, (apart_is_no_equal_pairs (word_of x) (row_word xs)).1 p.0, from xs a.2 p.1)

passes_exactly : (F : Family) (xs : List Index) → AllOf F xs → (stops F (largest xs) (row_word xs) ≡ false) ↔ MayMerge F xs
passes_exactly Forbidden xs a = (
  λ e. (repeats_apart xs a).0 (omega (arith, ltb-false 0 (repeats (row_word xs)) e)),
  λ m. le-ltb 0 (repeats (row_word xs)) (omega (arith, (repeats_apart xs a).1 m)),
)
passes_exactly Allowed xs a = (
  λ e. ltb-false 65 (largest xs + length (row_word xs)) e,
  λ m. le-ltb 65 (largest xs + length (row_word xs)) m,
)

pub product_answers_exactly : (F : Family) (t : Bracketing) → AllOf F (leaves t) → ((a : SignedTerm) × (product_of t ≡ gives a)) ↔ MayMerge F (leaves t)
product_answers_exactly F t a = (
  λ p. (passes_exactly F (leaves t) a).0 (passed stop (number_in F) (gives term) p.0 (sym (product_is_the_row F t a) ∙ p.1)).0,
  λ m. (term, product_is_the_row F t a ∙ ap (λ (b : Bool). refused_if b (number_in F) (gives term)) ((passes_exactly F (leaves t) a).1 m)),
)
  where
    stop : Bool
    stop = stops F (largest (leaves t)) (row_word (leaves t))

    term : SignedTerm
    term = whole F (largest (leaves t)) (row_word (leaves t))

pub product_refuses_exactly : (F : Family) (t : Bracketing) → AllOf F (leaves t) → (product_of t ≡ refuses (number_in F)) ↔ (MayMerge F (leaves t) → ⊥)
product_refuses_exactly F t a = (
  λ e m. let g = (product_answers_exactly F t a).1 m in gives_no_refusal g.0 (number_in F) (sym g.1 ∙ e),
  λ n. product_is_the_row F t a ∙ go (stops F (largest (leaves t)) (row_word (leaves t))) refl n,
)
  where
    go : (b : Bool) → stops F (largest (leaves t)) (row_word (leaves t)) ≡ b → (MayMerge F (leaves t) → ⊥)
        → refused_if b (number_in F) (gives (whole F (largest (leaves t)) (row_word (leaves t)))) ≡ refuses (number_in F)
    go true e n = refl
    go false e n = absurd (n ((passes_exactly F (leaves t) a).0 e))

-- what is said of a product is said of an answer that equals it
abbrev Answered : Says SignedTerm → Type 0
Answered s = (a : SignedTerm) × (s ≡ gives a)

pub merge_answers : (x y : Index) → Accepted x → Accepted y → y.family ≡ x.family → ((a : SignedTerm) × (merge_says x y ≡ gives a)) ↔ MayMerge x.family (x ∷ y ∷ [])
merge_answers x y a b f =
    subst (λ (s : Says SignedTerm). Answered s ↔ MayMerge x.family (x ∷ y ∷ [])) (two x y) (product_answers_exactly x.family (join (leaf x) (leaf y)) (a, refl, (b, f, tt)))

pub merges_answer : (x y z : Index) → Accepted x → Accepted y → Accepted z → y.family ≡ x.family → z.family ≡ x.family
    → (((a : SignedTerm) × (left_first x y z ≡ gives a)) ↔ MayMerge x.family (x ∷ y ∷ z ∷ [])) × (((a : SignedTerm) × (right_first x y z ≡ gives a)) ↔ MayMerge x.family (x ∷ y ∷ z ∷ []))
merges_answer x y z a b c f g = (
  subst (λ (s : Says SignedTerm). Answered s ↔ MayMerge x.family (x ∷ y ∷ z ∷ [])) (left_first_lem x y z)
      (product_answers_exactly x.family (join (join (leaf x) (leaf y)) (leaf z)) (a, refl, (b, f, (c, g, tt)))),
  subst (λ (s : Says SignedTerm). Answered s ↔ MayMerge x.family (x ∷ y ∷ z ∷ [])) (right_first_lem x y z)
      (product_answers_exactly x.family (join (leaf x) (join (leaf y) (leaf z))) (a, refl, (b, f, (c, g, tt)))),
)

-- ---- factors exchanged

pub factors-exchange : (F : Family) (before xs ys after : List Index) (s t : Bracketing) → AllOf F (leaves s)
    → leaves s ≡ before ++ xs ++ ys ++ after → leaves t ≡ before ++ ys ++ xs ++ after
    → product_of t ≡ multiplied (exchange_sign F (length (row_word xs)) (length (row_word ys))) (product_of s)
factors-exchange F before xs ys after s t a e f =
    product_is_the_row F t (subst (AllOf F) (sym f) turned)
    ∙ ap (λ (zs : List Index). row_says F (largest zs) (row_word zs)) f
    ∙ ap₂ (λ (n : ℕ) (w : List ℕ). row_says F n w) (same-largest ys xs) (rows ys xs)
    ∙ rows-exchange F (max (max (largest before) (max (largest xs) (largest ys))) (largest after)) (row_word before) (row_word xs) (row_word ys) (row_word after)
    ∙ ap (multiplied (exchange_sign F (length (row_word xs)) (length (row_word ys))))
    (sym (product_is_the_row F s a ∙ ap (λ (zs : List Index). row_says F (largest zs) (row_word zs)) e ∙ ap₂ (λ (n : ℕ) (w : List ℕ). row_says F n w) (largest-of xs ys) (rows xs ys)))
  where
    given : AllOf F (before ++ xs ++ ys ++ after)
    given = subst (AllOf F) e a

    turned : AllOf F (before ++ ys ++ xs ++ after)
    turned =
        let three : AllOf F (before ++ xs ++ ys) = all_left F (before ++ xs ++ ys) after given in
        let first : AllOf F (before ++ xs) = all_left F (before ++ xs) ys three in
        all_both F (before ++ ys ++ xs) after
        (all_both F (before ++ ys) xs (all_both F before ys (all_left F before xs first) (all_right F (before ++ xs) ys three)) (all_right F before xs first))
        (all_right F (before ++ xs ++ ys) after given)

    rows : (xs ys : List Index) → row_word (before ++ xs ++ ys ++ after) ≡ row_word before ++ row_word xs ++ row_word ys ++ row_word after
    rows xs ys =
        row_append (before ++ xs ++ ys) after
        ∙ ap (λ (w : List ℕ). w ++ row_word after) (row_append (before ++ xs) ys ∙ ap (λ (w : List ℕ). w ++ row_word ys) (row_append before xs))

    largest-of : (xs ys : List Index) → largest (before ++ xs ++ ys ++ after) ≡ max (max (largest before) (max (largest xs) (largest ys))) (largest after)
    largest-of xs ys =
        largest_append (before ++ xs ++ ys) after
        ∙ ap (λ (m : ℕ). max m (largest after))
        (largest_append (before ++ xs) ys ∙ ap (λ (m : ℕ). max m (largest ys)) (largest_append before xs) ∙ max_associates (largest before) (largest xs) (largest ys))

    same-largest : (xs ys : List Index) → largest (before ++ xs ++ ys ++ after) ≡ max (max (largest before) (max (largest ys) (largest xs))) (largest after)
    same-largest xs ys = largest-of xs ys ∙ ap (λ (m : ℕ). max (max (largest before) m) (largest after)) (max_comm (largest xs) (largest ys))

-- two accepted indices of one family
accepted-exchange : (x y : Index) → Accepted x → Accepted y → y.family ≡ x.family
    → merge_says y x ≡ multiplied (exchange_sign x.family (length (word_of x)) (length (word_of y))) (merge_says x y)
accepted-exchange x y a b f =
    sym (two y x)
    ∙ factors-exchange x.family [] (x ∷ []) (y ∷ []) [] (join (leaf x) (leaf y)) (join (leaf y) (leaf x)) (a, refl, (b, f, tt)) refl refl
    ∙ ap₂ (λ (u v : List ℕ). multiplied (exchange_sign x.family (length u) (length v)) (product_of (join (leaf x) (leaf y)))) (append-nil (word_of x)) (append-nil (word_of y))
    ∙ ap (multiplied (exchange_sign x.family (length (word_of x)) (length (word_of y)))) (two x y)

-- the checks of two records, in either order
checks-exchange : (m : Sign) (t t' o o' : Bool) (s s' : Says SignedTerm) → (t ≡ false → t' ≡ false → o ≡ false → o' ≡ false → s' ≡ multiplied m s)
    → refused_if t' 1 (refused_if t 1 (refused_if o' 7 (refused_if o 7 s'))) ≡ multiplied m (refused_if t 1 (refused_if t' 1 (refused_if o 7 (refused_if o' 7 s))))
checks-exchange m true true o o' s s' f = refl
checks-exchange m true false o o' s s' f = refl
checks-exchange m false true o o' s s' f = refl
checks-exchange m false false true true s s' f = refl
checks-exchange m false false true false s s' f = refl
checks-exchange m false false false true s s' f = refl
checks-exchange m false false false false s s' f = f refl refl refl refl

pub merge_exchanges : (x y : Index) → merge_says y x ≡ multiplied (exchange_sign x.family (length (word_of x)) (length (word_of y))) (merge_says x y)
merge_exchanges x y =
    checks-exchange factor (too_wide x) (too_wide y) (outside x) (outside y) (join_says x y) (join_says y x)
    (λ t u o p. of_two (passes-accepted x t o) (passes-accepted y u p) x.family refl y.family refl)
  where
    factor : Sign
    factor = exchange_sign x.family (length (word_of x)) (length (word_of y))

    one : Accepted x → Accepted y → y.family ≡ x.family → join_says y x ≡ multiplied factor (join_says x y)
    one a b f = sym (both_accepted y x (join_says y x) b a) ∙ accepted-exchange x y a b f ∙ ap (multiplied factor) (both_accepted x y (join_says x y) a b)

    differ : same_family x.family y.family ≡ false → same_family y.family x.family ≡ false → join_says y x ≡ multiplied factor (join_says x y)
    differ e f = simp (e, f)

    of_two : Accepted x → Accepted y → (F : Family) → x.family ≡ F → (G : Family) → y.family ≡ G → join_says y x ≡ multiplied factor (join_says x y)
    of_two a b Forbidden f Forbidden g = one a b (g ∙ sym f)
    of_two a b Forbidden f Allowed g = differ (ap₂ same_family f g) (ap₂ same_family g f)
    of_two a b Allowed f Forbidden g = differ (ap₂ same_family f g) (ap₂ same_family g f)
    of_two a b Allowed f Allowed g = one a b (g ∙ sym f)

-- ---- any order

all_reordered : (F : Family) (xs ys : List Index) → AllOf F xs → Reordered xs ys → AllOf F ys
all_reordered F [] ys a r = subst (AllOf F) (sym r) a
all_reordered F (x ∷ xs) ys a (before, after, e, r) =
    let rest : AllOf F (before ++ after) = all_reordered F xs (before ++ after) a.2 r in
    subst (AllOf F) (sym e) (all_both F before (x ∷ after) (all_left F before after rest) (a.0, a.1, all_right F before after rest))

largest_reordered : (xs ys : List Index) → Reordered xs ys → largest xs ≡ largest ys
largest_reordered [] ys r = ap largest (sym r)
largest_reordered (x ∷ xs) ys (before, after, e, r) =
    ap (max x.alphabet) (largest_reordered xs (before ++ after) r ∙ largest_append before after)
    ∙ max-second x.alphabet (largest before) (largest after) ∙ sym (ap largest e ∙ largest_append before (x ∷ after))

row_reordered : (xs ys : List Index) → Reordered xs ys → Rearranged (row_word xs) (row_word ys)
row_reordered [] ys r s = ap (λ (zs : List Index). multiplicity s (row_word zs)) (sym r)
row_reordered (x ∷ xs) ys (before, after, e, r) s =
    omega (
      arith,
      multiplicity_append s (word_of x) (row_word xs),
      row_reordered xs (before ++ after) r s,
      ap (multiplicity s) (row_append before after),
      multiplicity_append s (row_word before) (row_word after),
      ap (λ (zs : List Index). multiplicity s (row_word zs)) e,
      ap (multiplicity s) (row_append before (x ∷ after)),
      multiplicity_append s (row_word before) (word_of x ++ row_word after),
      multiplicity_append s (word_of x) (row_word after),
    )

pub any_order : (F : Family) (s t : Bracketing) → AllOf F (leaves s) → Reordered (leaves s) (leaves t) → index_alone (product_of s) ≡ index_alone (product_of t)
any_order F s t a r =
    ap index_alone (product_is_the_row F s a)
    ∙ rows_reordered F (largest (leaves s)) (row_word (leaves s)) (row_word (leaves t)) (row_reordered (leaves s) (leaves t) r)
    ∙ ap (λ (n : ℕ). index_alone (row_says F n (row_word (leaves t)))) (largest_reordered (leaves s) (leaves t) r)
    ∙ sym (ap index_alone (product_is_the_row F t (all_reordered F (leaves s) (leaves t) a r)))

-- ---- the outer two of three are no neighbours

abbrev set : List ℕ → Index
set w = index_of Forbidden 4 w

pub outer_factors_exchanged : (left_first (set (2 ∷ 3 ∷ [])) (set (1 ∷ [])) (set (0 ∷ [])) ≡ multiplied Minus (left_first (set (0 ∷ [])) (set (1 ∷ [])) (set (2 ∷ 3 ∷ []))))
    × (exchange_sign Forbidden 1 2 ≡ Plus)
unfolding bits_of ones_from smaller_in multiplicity crossings equal_pairs merged reaches
outer_factors_exchanged = (refl, refl)
