-- The entries of a permutation stand apart, as the set of those seen wants them. Assumes nothing.
--   holds_apart    no entry of a good record stands twice, and all are below the capacity
use Rattle.words.proofs.Word.{below_more}
use Rattle.seen.proofs.Seen.{Apart, distinct_has_no_repeats}
use Rattle.permutation.specs.declared.Permutation.{Permutation}
use Rattle.permutation.specs.Record.{capacity, arrangement_of, GoodRecord}

pub holds_apart : (p : Permutation) → GoodRecord p → Apart capacity (arrangement_of p)
holds_apart p h =
    record {
      below = below_more p.len capacity (arrangement_of p) h.short h.permutation.below;
      once = distinct_has_no_repeats (arrangement_of p) h.permutation.distinct;
    }
