-- Signed numbers in decimal (docs/RULES.md, section 13): from -2 ^ 63 to 2 ^ 63 - 1, with `-` in front of a negative one. Assumes nothing.
--   SignedNumeral text z    the text is the numeral of z: there is no `-0`, no `+`, and no zero in front of other digits
--   InRange z    z is of 64 bits
--   ReadsSigned text r    what reading a word answers: the number in range whose numeral it is, and nothing exactly if there is none
--   size_of z    how far z is from 0
use Rattle.std.specs.Prelude.{Option, Some, None, List, ◌∷◌, ◌≡◌, ℕ, suc, ◌^◌, ◌<◌, ℤ, pos, negsuc}
use Rattle.text.specs.Numeral.{Numeral}

pub record Minus (text : List ℕ) (n : ℕ) : Type 0 where
  pub digits : List ℕ
  pub whole : text ≡ 45 ∷ digits
  pub writes : Numeral digits n

abbrev pub SignedNumeral : List ℕ → ℤ → Type 0
SignedNumeral text (pos n) = Numeral text n
SignedNumeral text (negsuc n) = Minus text (suc n)

abbrev pub InRange : ℤ → Type 0
InRange (pos n) = n < 2 ^ 63
InRange (negsuc n) = n < 2 ^ 63

abbrev pub ReadsSigned : List ℕ → Option ℤ → Type 0
ReadsSigned text (Some z) = SignedNumeral text z × InRange z
ReadsSigned text None = (z : ℤ) → InRange z → SignedNumeral text z → ⊥

abbrev pub size_of : ℤ → ℕ
size_of (pos n) = n
size_of (negsuc n) = suc n
