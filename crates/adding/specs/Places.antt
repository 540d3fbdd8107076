-- Where a walk over words stands, with one symbol more. Assumes nothing.
--   spelled b    the Allowed word whose shifted symbols are the ones of b
--   Placed s w b r m    b has the shifted symbols of the word w, r is the rank of w with s added, and m how often s occurs in that
--   Movable s b r m    so it is of a word over some n, with s below n, that is not the last one, and where the longer words fit into 64
use Rattle.std.specs.Prelude.{◌≡◌, List, ℕ, suc, ◌+◌, ◌≤◌, ◌<◌}
use Rattle.words.specs.declared.Family.TheVariants.{Allowed}
use Rattle.words.specs.Word.{Word, shifted, unshifted, count}
use Rattle.words.specs.Rank.{rank_of}
use Rattle.words.specs.Bits.{bits_of, set_bits}
use Rattle.words.specs.Inversions.{multiplicity}
use Rattle.merging.specs.Sorting.{insert}

abbrev pub spelled : ℕ → List ℕ
spelled b = unshifted Allowed (set_bits b)

pub record Placed (s : ℕ) (w : List ℕ) (b r m : ℕ) : Type 0 where
  pub bits : b ≡ bits_of (shifted Allowed w)
  pub rank : r ≡ rank_of Allowed (insert s w)
  pub times : m ≡ multiplicity s (insert s w)

pub record Movable (s b r m : ℕ) : Type 0 where
  pub alphabet : ℕ
  pub degree : ℕ
  pub word : List ℕ
  pub placed : Placed s word b r m
  pub is : Word Allowed alphabet degree word
  pub low : s < alphabet
  pub width : alphabet + degree ≤ 64
  pub more : suc (rank_of Allowed word) < count Allowed alphabet degree
