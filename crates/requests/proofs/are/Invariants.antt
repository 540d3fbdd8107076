-- `requests::are` meets its contract: at each letter, what is left of the pattern is to fit the words from the place reached. Assumes nothing.
use mathlib.Core.Path.{◌≡◌}
use lib.ListN.{drop}
use Rattle.requests.specs.Patterns.{fits_pattern, fits_from}
use Rattle.requests.proofs.are.Given as goal

abbrev pub invariant-loop-letter : goal.invariant-loop-letter
invariant-loop-letter l = fits_pattern l.pattern l.kinds ≡ fits_from (drop l.letter-index l.pattern) l.kinds l.i
