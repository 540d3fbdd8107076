-- How the number at a position is looked for in its column of Pascal's triangle. Assumes nothing.
--   value k r    the set of k numbers that has the rank r, as bits
--   Sought w k s r a    the k numbers of rank r are all below s, which is at most w, and with those of a they fit into w bits
--   Among b k r j n    the last row of column k that holds at most r is one of the n rows from b + j n up, and these are at most the 64th
--   Taken w k s r a c x    a row that holds c was found: x is a with its number, and the k - 1 numbers of rank r - c are left, all below s
use Rattle.std.specs.Prelude.{◌≡◌, ℕ, ◌+◌, ◌-◌, ◌*◌, ◌^◌, ◌≤◌, ◌<◌}
use Rattle.words.specs.declared.Family.TheVariants.{Forbidden}
use Rattle.pascal.specs.Row.{entry}
use Rattle.words.specs.Unrank.{unrank_of}
use Rattle.words.specs.Bits.{bits_of}

abbrev pub value : ℕ → ℕ → ℕ
value k r = bits_of (unrank_of Forbidden k r)

pub record Sought (w k s r a : ℕ) : Type 0 where
  pub low : s ≤ w
  pub fits : r < entry s k
  pub room : a + value k r < 2 ^ w

pub record Among (b k r j n : ℕ) : Type 0 where
  pub room : b + (j * n + n) ≤ 64
  pub low : entry (b + j * n) k ≤ r
  pub high : r < entry (b + (j * n + n)) k

pub record Taken (w k s r a c x : ℕ) : Type 0 where
  pub weighs : c ≤ r
  pub next : Sought w (k - 1) s (r - c) x
  pub sum : a + value k r ≡ x + value (k - 1) (r - c)
