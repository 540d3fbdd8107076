-- The checks of a shape, as tests (01: "Shapes, at most 16 axes"). Assumes nothing.
--   number_says n    the number n, or 9 if it is 2^64 or more
--   within rs ds    is every digit below its radix?
use Rattle.std.specs.Prelude.{Bool, true, false, List, [], ◌∷◌, ℕ, ◌^◌, leb, ltb}
use Rattle.words.specs.Pick.{pick}
use Rattle.answers.specs.Says.{Says, gives, refused_if}

abbrev pub number_says : ℕ → Says ℕ
number_says n = refused_if (leb (2 ^ 64) n) 9 (gives n)

abbrev pub within : List ℕ → List ℕ → Bool
within [] ds = true
within (r ∷ rs) [] = true
within (r ∷ rs) (d ∷ ds) = pick (ltb d r) (within rs ds) false
