-- What the rank of exponents and the exponents of a rank are, for all inputs, in document 01's numbers: the checks in 01's order, and then the value. Assumes nothing.
--   exponent_rank_says es    1; the Allowed rank of the word
--   from_rank_says n k r room    1; 3; 8; the exponents of the word of rank r
use Rattle.std.specs.Prelude.{List, ℕ, leb, ltb, length}
use Rattle.words.specs.declared.Family.TheVariants.{Allowed}
use Rattle.words.specs.Word.{count}
use Rattle.words.specs.Rank.{rank_of}
use Rattle.words.specs.Unrank.{unrank_of}
use Rattle.answers.specs.Says.{Says, gives, refused_if}
use Rattle.composition.specs.Exponents.{sum_of, spelled, tally}
use Rattle.composition.specs.Rules.{exponents_too_wide}

abbrev pub exponent_rank_says : List ℕ → Says ℕ
exponent_rank_says es = refused_if (exponents_too_wide (length es) (sum_of es)) 1 (gives (rank_of Allowed (spelled es)))

abbrev pub from_rank_says : ℕ → ℕ → ℕ → ℕ → Says (List ℕ)
from_rank_says n k r room =
    refused_if (exponents_too_wide n k) 1 (refused_if (leb (count Allowed n k) r) 3 (refused_if (ltb room n) 8 (gives (tally n (unrank_of Allowed k r)))))
