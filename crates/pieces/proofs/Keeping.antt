-- How much of a piece is kept. Assumes nothing.
--   room_fits    a byte that is kept has a place below 772 and stands in the piece
use mathlib.Core.Path.{◌≡◌, refl}
use mathlib.Core.Bool.{Bool, true, false}
use Prim.Native.Nat.{ℕ, ◌+◌, ◌-◌, ◌<◌}
use native.Mathlib.Omega.{arith}
use borrow.Author.Tests.{ltb-true, ltb-false}
use lib.Dec.{ltb}
use Rattle.words.specs.Pick.{pick}
use Rattle.pieces.specs.Pieces.{room}

pub room_fits : (at n i : ℕ) → i < room at n → (at + i < 772) × (i < n)
room_fits at n i = go (ltb (772 - at) n) refl
  where
    go : (t : Bool) → ltb (772 - at) n ≡ t → i < pick t (772 - at) n → (at + i < 772) × (i < n)
    go true e h = (omega arith, omega (arith, ltb-true (772 - at) n e))
    go false e h = (omega (arith, ltb-false (772 - at) n e), omega arith)
