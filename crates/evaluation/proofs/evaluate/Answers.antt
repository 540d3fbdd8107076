-- `evaluation::evaluate` meets its contract. The invariant: what is left to add from degree k on gives the mass, and the row holds the monomials of degree k but that of pressures alone.
-- Assumes nothing.
use mathlib.Core.Path.{refl, sym, ◌∙◌}
use mathlib.Core.List.{List}
use Prim.Native.Nat.{ℕ, ◌<◌}
use native.Mathlib.Omega.{arith}
use lib.ListN.{length-set}
use Rattle.surface.specs.Mass.{times_each}
use Rattle.surface.specs.Surface.{Surface}
use Rattle.surface.proofs.Rows.{contents_lie, degree-low}
use Rattle.evaluation.specs.Rows.{highest_degree}
use Rattle.evaluation.proofs.Turns.{highest_below}
use Rattle.evaluation.proofs.Monomials.{more-p, put, scaled, one_degree, no_degree}
use Rattle.evaluation.proofs.evaluate.Goals as goal

pub highest-top-requires : goal.highest-top-requires
highest-top-requires c = contents_lie c.args.image.now c.args.t c.requires.good

-- no table has a degree above 63
top_low : (l : List ℕ) (t : ℕ) → Surface l t → highest_degree l t < 64
top_low l t s = highest_below l t 64 (omega arith) (λ i h. degree-low l t i s h)

pub overflow_add-k-end : goal.overflow_add-k-end
overflow_add-k-end c = omega (arith, top_low c.args.image.now c.args.t c.requires, c.highest-top.ensures)

pub loop-k-init : goal.loop-k-init
unfolding times_each
loop-k-init c =
    (omega (arith, top_low c.args.image.now c.args.t c.requires, c.highest-top.ensures), refl, record { long = refl; holds = λ a h. absurd (omega arith) }, refl)

pub bounds-row-k : goal.bounds-row-k
bounds-row-k c = omega (arith, c.loop-k.invariant.2.long)

pub add_table-sum-requires : goal.add_table-sum-requires
add_table-sum-requires c = (c.requires, omega arith)

pub scale-requires : goal.scale-requires
scale-requires c = (omega arith, rw length-set c.loop-k.invariant.2.long)

pub loop-k-preserved : goal.loop-k-preserved
loop-k-preserved c =
    let full = put _ _ _ _ _ (omega arith) c.loop-k.invariant.1 c.loop-k.invariant.2 in (
      c.loop-k.invariant.0,
      more-p _ _ c.loop-k.k _ c.loop-k.invariant.1,
      scaled _ _ _ _ _ full c.scale.ensures,
      rw c.add_table-sum.ensures (one_degree _ _ _ _ _ _ _ (omega arith) c.requires full ∙ c.loop-k.invariant.3),
    )

pub returns : goal.returns
returns c = sym (no_degree _ _ c.args.image.now c.args.t _ _ c.requires (omega (arith, c.highest-top.ensures))) ∙ c.loop-k.invariant.3
