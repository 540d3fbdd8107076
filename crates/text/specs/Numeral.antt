-- Numbers in decimal (01: "in decimal below 2^64 without leading zeros"). Assumes nothing.
--   IsDigit b    the byte b is one of the digits 0 to 9
--   value_from v w    the number that the digits w write after digits that write v
--   Numeral w n    w is the decimal numeral of n: one digit or more, and none in front of others is a zero
--   Reads w r    what reading the word w answers: the number below 2 ^ 64 whose numeral it is, and nothing exactly if there is none
--   PutNumeral out at n out' next    the numeral of n is put into the text out
use Rattle.std.specs.Prelude.{Option, Some, None, List, [], ◌∷◌, ◌≡◌, ℕ, ◌+◌, ◌-◌, ◌*◌, ◌^◌, ◌≤◌, ◌<◌, length, get_or}
use Rattle.text.specs.Text.{Put}

abbrev pub IsDigit : ℕ → Type 0
IsDigit b = (48 ≤ b) × (b ≤ 57)

unfoldable pub value_from : ℕ → List ℕ → ℕ
value_from v [] = v
value_from v (b ∷ w) = value_from (v * 10 + (b - 48)) w

pub record Numeral (w : List ℕ) (n : ℕ) : Type 0 where
  pub some : 0 < length w
  pub digits : (k : ℕ) → k < length w → IsDigit (get_or w k 0)
  pub plain : 1 < length w → get_or w 0 0 ≡ 48 → ⊥
  pub value : value_from 0 w ≡ n

abbrev pub Reads : List ℕ → Option ℕ → Type 0
Reads w (Some n) = Numeral w n × (n < 2 ^ 64)
Reads w None = (n : ℕ) → n < 2 ^ 64 → Numeral w n → ⊥

pub record PutNumeral (out : List ℕ) (at n : ℕ) (out' : List ℕ) (next : ℕ) : Type 0 where
  pub numeral : List ℕ
  pub right : Numeral numeral n
  pub written : Put out at numeral out' next
