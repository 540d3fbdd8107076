-- What the count and the start of a walk answer, for all inputs, in document 01's numbers: the checks in 01's order, and then the value. Assumes nothing.
--   count_says F n k    1 if k or the shifted alphabet is above 64; the count
--   walk_says F n k    the count's refusal; the state that starts at the k lowest bits, or has no current index where the count is 0, with the count remaining
use Rattle.std.specs.Prelude.{Some, None, ℕ, eqb}
use Rattle.words.specs.declared.Family.{Family}
use Rattle.answers.specs.Says.{Says, gives, and_then}
use Rattle.answers.specs.Terms.{index_of}
use Rattle.words.specs.Pick.{pick}
use Rattle.widths.specs.Rules.{count_in}
use Rattle.words.specs.Next.{first}
use Rattle.monotone_walk.specs.declared.Walk.{Walk}

abbrev pub count_says : Family → ℕ → ℕ → Says ℕ
count_says F n k = count_in 64 F n k

abbrev pub walk_says : Family → ℕ → ℕ → Says Walk
walk_says F n k = and_then (count_says F n k) (λ c. gives (record { current = pick (eqb c 0) None (Some (index_of F n (first F k))); remaining = c }))
