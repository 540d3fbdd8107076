-- The line that document 01's program reads: "`forbidden` or `allowed`, one space, n, one space, k, in decimal below 2^64 without leading zeros". Assumes nothing.
--   AsksWords line F n k    the line is the name of F, a space, the numeral of n, a space and the numeral of k, both below 2 ^ 64
--   Parses line r    r is what the line asks for, and none exactly if it asks for nothing
--   first_line input    the first line of an input: it ends at a newline or at the end
--   line_limit    how many bytes a line that asks for words has at most
--   Settled held more    of an input that begins with the bytes held and goes on with more, those held tell the first line, or that it is bad: the input has ended, a newline has come, or the bytes are more than a good line has
--   Answers held r    r is what the first line asks for of every input that begins with the bytes held and is settled by them
use Rattle.std.specs.Prelude.{Option, Some, None, List, [], ◌∷◌, ◌++◌, ◌≡◌, ℕ, ◌^◌, ◌<◌, eqb, length, get_or}
use Rattle.words.specs.Pick.{pick}
use Rattle.words.specs.declared.Family.{Family}
use Rattle.text.specs.Names.{name_of}
use Rattle.text.specs.Numeral.{Numeral}
use Rattle.terms_line.specs.declared.Words.{Words}

pub record AsksWords (text : List ℕ) (F : Family) (n k : ℕ) : Type 0 where
  pub first : List ℕ
  pub second : List ℕ
  pub whole : text ≡ name_of F ++ (32 ∷ (first ++ (32 ∷ second)))
  pub first_writes : Numeral first n
  pub first_fits : n < 2 ^ 64
  pub second-writes : Numeral second k
  pub second_fits : k < 2 ^ 64

abbrev pub Parses : List ℕ → Option Words → Type 0
Parses text (Some w) = AsksWords text w.family w.n w.k
Parses text None = (F : Family) (n k : ℕ) → AsksWords text F n k → ⊥

unfoldable pub first_line : List ℕ → List ℕ
first_line [] = []
first_line (b ∷ s) = pick (eqb b 10) [] (b ∷ first_line s)

abbrev pub line_limit : ℕ
line_limit = 51

pub data Settled (held more : List ℕ) : Type 0 where
  ended : more ≡ [] → Settled held more
  newline : (k : ℕ) → k < length held → get_or held k 0 ≡ 10 → Settled held more
  long : line_limit < length held → Settled held more

abbrev pub Answers : List ℕ → Option Words → Type 0
Answers held r = (more : List ℕ) → Settled held more → Parses (first_line (held ++ more)) r
