-- Where the walk stands. Assumes nothing.
--   Stands a k c bits later    at a set of k numbers below a that is not the last of c in colex order; later is how many stand later in lexicographic order
use Rattle.std.specs.Prelude.{◌≡◌, ℕ, suc, ◌≤◌, ◌<◌}
use Rattle.words.specs.declared.Family.TheVariants.{Forbidden}
use Rattle.pascal.specs.Choose.{choose}
use Rattle.words.specs.Word.{Word}
use Rattle.words.specs.Rank.{rank_of}
use Rattle.words.specs.Bits.{set_bits}
use Rattle.lexicographic.specs.Later.{later_words}

pub record Stands (a k c bits later : ℕ) : Type 0 where
  pub narrow : a ≤ 64
  pub word : Word Forbidden a k (set_bits bits)
  pub more : suc (rank_of Forbidden (set_bits bits)) < choose a k
  pub all : c ≡ choose a k
  pub count : later ≡ later_words Forbidden a (set_bits bits)
