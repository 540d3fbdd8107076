-- The line of a request as a list of bytes (docs/RULES.md, section 13): what its words are, and what they say. Assumes nothing.
--   texts_of line    the texts of a line, one space between two of them: an empty line is one empty text
--   texts_from line from    the texts of what stands from place `from` on; past the end, which is where no space is left, there are none
--   LineWord    what a text after the verb says: a number, a family, the lone `/`, the place of a walk, `here` or `nowhere`, or `raw`, behind which a record of any content stands
--   here_name, nowhere_name, raw_name    the bytes of `here`, of `nowhere` and of `raw`
--   Spells text x    the text says x: a number in decimal below 2 ^ 64 with no zero in front, a family by its name, `/`, `here`, `nowhere` and `raw` by themselves
--   AllSpell texts xs    the texts say the words xs, one each
--   Lent    what a request is lent: what suffices, or so many places
--   room_name, Lends texts lent verb rest    the texts are the verb and the rest, after `room` and the number of places where it is lent so many
--   Opens line lent verb rest    the line, of 262,144 bytes at most, begins so, and the verb is not `room` again
--   Asks line lent verb xs    the line asks for the verb with the words xs; a line that asks for nothing is bad
use Rattle.std.specs.Prelude.{List, [], ◌∷◌, ◌≡◌, ℕ, zero, suc, ◌^◌, ◌≤◌, ◌<◌, eqb, length}
use Rattle.words.specs.Pick.{pick}
use Rattle.words.specs.declared.Family.{Family}
use Rattle.text.specs.Names.{name_of}
use Rattle.text.specs.Numeral.{Numeral}

-- a byte in front of the first text
abbrev pub onto : ℕ → List (List ℕ) → List (List ℕ)
onto b [] = (b ∷ []) ∷ []
onto b (t ∷ ts) = (b ∷ t) ∷ ts

unfoldable pub texts_of : List ℕ → List (List ℕ)
texts_of [] = [] ∷ []
texts_of (b ∷ s) = pick (eqb b 32) ([] ∷ texts_of s) (onto b (texts_of s))

unfoldable pub texts_from : List ℕ → ℕ → List (List ℕ)
texts_from s zero = texts_of s
texts_from [] (suc from) = []
texts_from (b ∷ s) (suc from) = texts_from s from

pub data LineWord : Type 0 where
  number : ℕ → LineWord
  family : Family → LineWord
  slash : LineWord
  here : LineWord
  nowhere : LineWord
  raw : LineWord

abbrev pub here_name : List ℕ
here_name = 104 ∷ 101 ∷ 114 ∷ 101 ∷ []

abbrev pub nowhere_name : List ℕ
nowhere_name = 110 ∷ 111 ∷ 119 ∷ 104 ∷ 101 ∷ 114 ∷ 101 ∷ []

abbrev pub raw_name : List ℕ
raw_name = 114 ∷ 97 ∷ 119 ∷ []

abbrev pub Spells : List ℕ → LineWord → Type 0
Spells text (number n) = Numeral text n × (n < 2 ^ 64)
Spells text (family F) = text ≡ name_of F
Spells text slash = text ≡ 47 ∷ []
Spells text here = text ≡ here_name
Spells text nowhere = text ≡ nowhere_name
Spells text raw = text ≡ raw_name

abbrev pub AllSpell : List (List ℕ) → List LineWord → Type 0
AllSpell [] [] = Unit {0}
AllSpell [] (x ∷ xs) = ⊥
AllSpell (t ∷ ts) [] = ⊥
AllSpell (t ∷ ts) (x ∷ xs) = Spells t x × AllSpell ts xs

pub data Lent : Type 0 where
  enough : Lent
  places : ℕ → Lent

abbrev pub room_name : List ℕ
room_name = 114 ∷ 111 ∷ 111 ∷ 109 ∷ []

pub record LendsPlaces (texts : List (List ℕ)) (n : ℕ) (verb : List ℕ) (rest : List (List ℕ)) : Type 0 where
  pub numeral : List ℕ
  pub whole : texts ≡ room_name ∷ (numeral ∷ (verb ∷ rest))
  pub writes : Numeral numeral n
  pub fits : n < 2 ^ 64

abbrev pub Lends : List (List ℕ) → Lent → List ℕ → List (List ℕ) → Type 0
Lends texts enough verb rest = texts ≡ verb ∷ rest
Lends texts (places n) verb rest = LendsPlaces texts n verb rest

pub record Opens (line : List ℕ) (lent : Lent) (verb : List ℕ) (rest : List (List ℕ)) : Type 0 where
  pub short : length line ≤ 262144
  pub lends : Lends (texts_of line) lent verb rest
  pub once : verb ≡ room_name → ⊥

pub record Asks (line : List ℕ) (lent : Lent) (verb : List ℕ) (xs : List LineWord) : Type 0 where
  pub rest : List (List ℕ)
  pub opens : Opens line lent verb rest
  pub says : AllSpell rest xs
