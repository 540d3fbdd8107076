-- `monotone_walk::successor` meets its contract: where the next set stays below the shifted alphabet, that one test serves for both. Assumes nothing.
use mathlib.Core.Path.{sym, ap, ◌∙◌}
use mathlib.Core.Bool.{not}
use Prim.Native.Nat.{ℕ}
use lib.Dec.{eqb}
use Rattle.bits.proofs.Member.{reaches_is_quotient}
use Rattle.monotone_walk.proofs.Passing.{next_at_once}
use Rattle.monotone_walk.proofs.successor.Goals as goal

pub returns : goal.returns
returns c =
    next_at_once c.args.x c.successor-bits.result c.top-top.result c.successor-bits.ensures c.if-bits-eq0.false c.top-top.ensures c.if-top-gt64.false (reaches_is_quotient _ _ ∙ ap (λ (q : ℕ). not (eqb q 0)) (sym c.shr_total.ensures ∙ c.if-shr_total-ne0.false))
