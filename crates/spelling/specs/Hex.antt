-- Bytes as text (docs/RULES.md, section 13): two hex digits in lower case to a byte, the first byte first, and `-` alone for no bytes at all. Assumes nothing.
--   digit_text d    the byte of a hex digit: 48 is 0, 97 is a
--   hex_of bs    the digits of bytes, of each the upper half first
--   bytes_text bs    the text of bytes
--   AllBytes bs    each of the numbers is a byte
--   SpellsBytes text bs    the text writes the bytes bs
--   IsBytes text    the text writes bytes
--   HexDigit b r    r is the value of the digit b, and 16 exactly if b is none
--   ByteOf high low r    r is the byte that two digits write
--   AllDigits text    every byte of the text is a hex digit
--   BytesIn text out out' r    where the text writes bytes that out holds, they are the first r of out', and the others are as they were
use Rattle.std.specs.Prelude.{List, [], ◌∷◌, ◌++◌, ◌≡◌, ℕ, ◌+◌, ◌*◌, ◌/◌, ◌%◌, ◌≤◌, ◌<◌, ltb, length, drop, get_or}
use Rattle.words.specs.Pick.{pick}

abbrev pub digit_text : ℕ → ℕ
digit_text d = pick (ltb d 10) (48 + d) (87 + d)

unfoldable pub hex_of : List ℕ → List ℕ
hex_of [] = []
hex_of (b ∷ bs) = digit_text (b / 16) ∷ (digit_text (b % 16) ∷ hex_of bs)

abbrev pub bytes_text : List ℕ → List ℕ
bytes_text [] = 45 ∷ []
bytes_text (b ∷ bs) = hex_of (b ∷ bs)

abbrev pub AllBytes : List ℕ → Type 0
AllBytes bs = (k : ℕ) → k < length bs → get_or bs k 0 < 256

pub record SpellsBytes (text bs : List ℕ) : Type 0 where
  pub writes : text ≡ bytes_text bs
  pub each : AllBytes bs

pub record IsBytes (text : List ℕ) : Type 0 where
  pub bytes : List ℕ
  pub spells : SpellsBytes text bytes

pub record HexDigit (b r : ℕ) : Type 0 where
  pub says : r < 16 → b ≡ digit_text r
  pub only : (d : ℕ) → d < 16 → b ≡ digit_text d → r ≡ d

abbrev pub ByteOf : ℕ → ℕ → ℕ → Type 0
ByteOf high low r = (d e : ℕ) → d < 16 → e < 16 → high ≡ digit_text d → low ≡ digit_text e → r ≡ 16 * d + e

pub record IsHex (b : ℕ) : Type 0 where
  pub value : ℕ
  pub below : value < 16
  pub writes : b ≡ digit_text value

abbrev pub AllDigits : List ℕ → Type 0
AllDigits text = (k : ℕ) → k < length text → IsHex (get_or text k 0)

pub record BytesAre (bs out out' : List ℕ) (r : ℕ) : Type 0 where
  pub many : r ≡ length bs
  pub first : out' ≡ bs ++ drop (length bs) out

pub record BytesIn (text out out' : List ℕ) (r : ℕ) : Type 0 where
  pub within : r ≤ length out'
  pub says : (bs : List ℕ) → SpellsBytes text bs → length bs ≤ length out → BytesAre bs out out' r
