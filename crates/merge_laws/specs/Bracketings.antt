-- Indices in a row, merged two by two (02 §14). Assumes nothing.
--   multiplied s a    the answer a with its sign multiplied by s; a refusal as it is
--   left_first x y z, right_first x y z    (x y) z and x (y z): the first refusal, or the index with the product of the signs of the two merges
--   exchange_sign F k l    what the exchange of factors of degrees k and l multiplies the sign by: (-1)^(k l) for Forbidden, plus for Allowed
--   Bracketing    in which order a row of indices is merged: a single index, or two such whose results are merged
--   leaves t    its indices, from left to right
--   merge_terms a b    two results merged, with the product of their signs and that of the merge
--   product_of t    what its merges answer: the first refusal, or the index with the product of the signs of all its merges
--   index_alone a    an answer without its sign
--   AllOf F xs    every index of the row is accepted, and of family F
--   row_word xs, largest xs    their words one after another, and the largest of their alphabets
--   Apart xs    no symbol of one stands in a later one
--   MayMerge F xs    when the row has a product: for Forbidden if it is Apart, for Allowed if the largest alphabet + all degrees - 1 is at most 64
--   number_in F    the number of the one refusal that a product in family F has
--   stops F n w    the same as a test, of the words in a row, w, over n: does a symbol stand twice, or is n + the length - 1 above 64?
--   row_says F n w    what they give, without a bracket: that refusal, or the sign of the inversions of w and the index of w sorted
--   Reordered xs ys    ys has the indices of xs in some order: the first of xs stands somewhere in ys, and the others are the rest of ys, reordered
use Rattle.std.specs.Prelude.{◌≡◌, Bool, List, [], ◌∷◌, ◌++◌, ℕ, ◌+◌, ◌*◌, ◌≤◌, max, ltb, length}
use Rattle.words.specs.declared.Family.{Family}
use Rattle.words.specs.declared.Family.TheVariants.{Forbidden, Allowed}
use Rattle.words.specs.HowMany.{In}
use Rattle.words.specs.Inversions.{inversions}
use Rattle.answers.specs.declared.Index.{Index}
use Rattle.answers.specs.declared.Sign.{Sign}
use Rattle.answers.specs.declared.Sign.TheVariants.{Plus}
use Rattle.answers.specs.Says.{Says, gives, refused_if, and_then}
use Rattle.answers.specs.Signs.{times, sign_in}
use Rattle.answers.specs.Terms.{index_of, word_of}
use Rattle.taking.specs.Taken.{Accepted}
use Rattle.merging.specs.Sorting.{sorted, repeats}
use Rattle.algebra.specs.Rules.{merge_says}
use Rattle.answers.specs.declared.SignedTerm.{SignedTerm}

-- ---- two and three

abbrev pub multiplied : Sign → Says SignedTerm → Says SignedTerm
multiplied s a = and_then a (λ t. gives (record { sign = times s t.sign; index = t.index }))

abbrev pub left_first : Index → Index → Index → Says SignedTerm
left_first x y z = and_then (merge_says x y) (λ t. multiplied t.sign (merge_says t.index z))

abbrev pub right_first : Index → Index → Index → Says SignedTerm
right_first x y z = and_then (merge_says y z) (λ t. multiplied t.sign (merge_says x t.index))

abbrev pub exchange_sign : Family → ℕ → ℕ → Sign
exchange_sign F k l = sign_in F (k * l)

-- ---- any number

pub data Bracketing : Type 0 where
  leaf : Index → Bracketing
  join : Bracketing → Bracketing → Bracketing

abbrev pub leaves : Bracketing → List Index
leaves (leaf x) = x ∷ []
leaves (join s t) = leaves s ++ leaves t

abbrev pub merge_terms : SignedTerm → SignedTerm → Says SignedTerm
merge_terms a b = multiplied (times a.sign b.sign) (merge_says a.index b.index)

abbrev pub product_of : Bracketing → Says SignedTerm
product_of (leaf x) = gives (record { sign = Plus; index = x })
product_of (join s t) = and_then (product_of s) (λ a. and_then (product_of t) (λ b. merge_terms a b))

abbrev pub index_alone : Says SignedTerm → Says Index
index_alone a = and_then a (λ t. gives t.index)

-- ---- rows

abbrev pub AllOf : Family → List Index → Type 0
AllOf F [] = Unit {0}
AllOf F (x ∷ xs) = Accepted x × (x.family ≡ F) × AllOf F xs

abbrev pub row_word : List Index → List ℕ
row_word [] = []
row_word (x ∷ xs) = word_of x ++ row_word xs

abbrev pub largest : List Index → ℕ
largest [] = 0
largest (x ∷ xs) = max x.alphabet (largest xs)

abbrev pub Apart : List Index → Type 0
Apart [] = Unit {0}
Apart (x ∷ xs) = ((s : ℕ) → In s (word_of x) → In s (row_word xs) → ⊥) × Apart xs

-- n + k - 1 is at most 64, with no subtraction
abbrev pub MayMerge : Family → List Index → Type 0
MayMerge Forbidden xs = Apart xs
MayMerge Allowed xs = largest xs + length (row_word xs) ≤ 65

abbrev pub number_in : Family → ℕ
number_in Forbidden = 5
number_in Allowed = 1

abbrev pub stops : Family → ℕ → List ℕ → Bool
stops Forbidden n w = ltb 0 (repeats w)
stops Allowed n w = ltb 65 (n + length w)

abbrev pub row_says : Family → ℕ → List ℕ → Says SignedTerm
row_says F n w = refused_if (stops F n w) (number_in F) (gives (record { sign = sign_in F (inversions w); index = index_of F n (sorted w) }))

abbrev pub Reordered : List Index → List Index → Type 0
Reordered [] ys = ys ≡ []
Reordered (x ∷ xs) ys = (before : List Index) × (after : List Index) × (ys ≡ before ++ x ∷ after) × Reordered xs (before ++ after)
