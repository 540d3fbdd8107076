-- What stands at the positions of words. Assumes nothing.
--   HoldsAt w x i    position i of w holds the symbol x
--   Inversion w p    p is a pair of positions i < j of w, and the symbol at i is the larger
--   Repetition w p    p is a pair of positions i < j of w that hold one symbol
--   Crossing u v p    p is a position of u and one of v, and the symbol of u is the larger
--   Meeting u v p    p is a position of u and one of v that hold one symbol
use Rattle.std.specs.Prelude.{◌≡◌, List, ℕ, ◌<◌, length, get_or}

pub record HoldsAt (w : List ℕ) (x i : ℕ) : Type 0 where
  pub within : i < length w
  pub equal : get_or w i 0 ≡ x

-- ---- pairs of positions of one word

pub record Inversion (w : List ℕ) (p : ℕ × ℕ) : Type 0 where
  pub rises : p.0 < p.1
  pub within : p.1 < length w
  pub larger : get_or w p.1 0 < get_or w p.0 0

pub record Repetition (w : List ℕ) (p : ℕ × ℕ) : Type 0 where
  pub rises : p.0 < p.1
  pub within : p.1 < length w
  pub equal : get_or w p.0 0 ≡ get_or w p.1 0

-- ---- a position of each of two words

pub record Crossing (u v : List ℕ) (p : ℕ × ℕ) : Type 0 where
  pub left : p.0 < length u
  pub right : p.1 < length v
  pub larger : get_or v p.1 0 < get_or u p.0 0

pub record Meeting (u v : List ℕ) (p : ℕ × ℕ) : Type 0 where
  pub left : p.0 < length u
  pub right : p.1 < length v
  pub equal : get_or u p.0 0 ≡ get_or v p.1 0
