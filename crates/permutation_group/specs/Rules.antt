-- What inverse, composition and sign answer, for all inputs: the checks of document 01 in their order, and then the value (01, "Permutations" and the lines of
-- refusals). Assumes nothing.
--   inverse_says p, compose_says p q, sign_says p
use Rattle.std.specs.Prelude.{not, List, ℕ, eqb}
use Rattle.words.specs.Inversions.{inversions}
use Rattle.arrangements.specs.Permutation.{compose, inverse}
use Rattle.answers.specs.declared.Sign.{Sign}
use Rattle.answers.specs.Says.{Says, gives, refused_if, and_then}
use Rattle.answers.specs.Signs.{sign_of}
use Rattle.permutation.specs.declared.Permutation.{Permutation}
use Rattle.permutation.specs.Record.{arrangement_of}
use Rattle.permutation.specs.Rules.{too_long, not_a_permutation, taken_arrangement}

abbrev pub inverse_says : Permutation → Says (List ℕ)
inverse_says p = and_then (taken_arrangement p) (λ w. gives (inverse w))

abbrev pub compose_says : Permutation → Permutation → Says (List ℕ)
compose_says p q =
    refused_if (too_long p.len) 1
    (refused_if (too_long q.len) 1
    (refused_if (not (eqb p.len q.len)) 8
    (refused_if (not_a_permutation p) 10
    (refused_if (not_a_permutation q) 10
    (gives (compose (arrangement_of p) (arrangement_of q)))))))

abbrev pub sign_says : Permutation → Says Sign
sign_says p = and_then (taken_arrangement p) (λ w. gives (sign_of (inversions w)))
