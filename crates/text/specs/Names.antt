-- The names of the families (01: "`forbidden` or `allowed`"). Assumes nothing.
--   name_of F    the bytes of a family's name
--   Names name r    r is the family that a word names, and nothing exactly if it names none
use Rattle.std.specs.Prelude.{Option, Some, None, List, [], ◌∷◌, ◌≡◌, ℕ}
use Rattle.words.specs.declared.Family.{Family}
use Rattle.words.specs.declared.Family.TheVariants.{Forbidden, Allowed}

abbrev pub name_of : Family → List ℕ
name_of Forbidden = 102 ∷ 111 ∷ 114 ∷ 98 ∷ 105 ∷ 100 ∷ 100 ∷ 101 ∷ 110 ∷ []
name_of Allowed = 97 ∷ 108 ∷ 108 ∷ 111 ∷ 119 ∷ 101 ∷ 100 ∷ []

abbrev pub Names : List ℕ → Option Family → Type 0
Names name (Some F) = name ≡ name_of F
Names name None = (F : Family) → name ≡ name_of F → ⊥
