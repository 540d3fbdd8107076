-- The record of a permutation, and what each answer means in document 01's numbers. Assumes nothing.
--   capacity    how many entries a record holds
--   arrangement_of p    the permutation as a list: the first len entries
--   empty_entries    a record's entries, all 0
--   zeros_only w    nothing but zeros stands in w
--   record_of w    the record of a list: zeros past its length
--   Whole p    the record has all its entries, as each of a program has
--   GoodRecord p    the record holds a permutation, not longer than the capacity, and nothing but zeros past it
--   Agree p q    both do, and they have one length
--   verdict_says v a    the value a, or why the verdict v refuses
--   arranged_says r    what a result is as a list
--   recorded s    the record of the list that is said, or why there is none
use Rattle.std.specs.Prelude.{Result, ◌≡◌, Bool, true, false, List, [], ◌∷◌, ◌++◌, ℕ, ◌≤◌, eqb, length, take, drop, get_or, replicate}
use Rattle.words.specs.Pick.{pick}
use Rattle.arrangements.specs.Permutation.{Permutation as IsPermutation}
use Rattle.answers.specs.declared.Refusal.{Refusal}
use Rattle.answers.specs.Says.{Says, gives, and_then, answer_says}
use Rattle.permutation.specs.declared.Permutation.{Permutation}

abbrev pub capacity : ℕ
capacity = 64

abbrev pub arrangement_of : Permutation → List ℕ
arrangement_of p = take p.len p.entries

abbrev pub empty_entries : List ℕ
empty_entries = replicate capacity 0

unfoldable pub zeros_only : List ℕ → Bool
zeros_only [] = true
zeros_only (x ∷ w) = pick (eqb x 0) (zeros_only w) false

abbrev pub record_of : List ℕ → Permutation
record_of w = record { entries = w ++ drop (length w) empty_entries; len = length w }

abbrev pub Whole : Permutation → Type 0
Whole p = length p.entries ≡ capacity

pub record GoodRecord (p : Permutation) : Type 0 where
  pub short : p.len ≤ capacity
  pub permutation : IsPermutation p.len (arrangement_of p)
  pub past : (i : ℕ) → p.len ≤ i → get_or p.entries i 0 ≡ 0

pub record Agree (p q : Permutation) : Type 0 where
  pub left : GoodRecord p
  pub right : GoodRecord q
  pub lengths : p.len ≡ q.len

-- ---- what the result of a call means

-- the value a, or why the verdict refuses
abbrev pub verdict_says : {A : Type 0} → Result (Unit {0}) Refusal → A → Says A
verdict_says v a = and_then (answer_says v) (λ u. gives a)

-- a record that is an answer, as its list
abbrev pub arranged_says : Result Permutation Refusal → Says (List ℕ)
arranged_says r = and_then (answer_says r) (λ p. gives (arrangement_of p))

-- the record of what is said
abbrev pub recorded : Says (List ℕ) → Says Permutation
recorded s = and_then s (λ w. gives (record_of w))
