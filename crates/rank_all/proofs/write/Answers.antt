-- `rank_all::write` meets its contract: the places passed hold the ranks. Assumes nothing.
use mathlib.Core.Path.{◌≡◌, refl, sym, subst, ◌∙◌}
use native.Mathlib.Omega.{arith}
use lib.ListN.{length, get_or}
use Rattle.answers.proofs.Lent.{Filled, fill_none, fill_more, filled-word}
use Rattle.rank_all.specs.Rules.{set_ranks}
use Rattle.rank_all.proofs.Judging.{set_rank_at, set_ranks_long}
use Rattle.rank_all.proofs.write.Goals as goal

pub loop-i-init : goal.loop-i-init
loop-i-init c = fill_none _ _

pub bounds-out-i : goal.bounds-out-i
bounds-out-i c = omega (arith, c.requires, c.loop-i.invariant.long)

pub loop-i-preserved : goal.loop-i-preserved
loop-i-preserved c =
    fill_more (λ k. get_or (set_ranks c.args.bits.now) k 0) c.args.out.now c.loop-i.out c.loop-i.i _ (omega (arith, c.loop-i-test.true, c.requires)) (c.rank.ensures ∙ sym (set_rank_at c.args.bits.now c.loop-i.i c.loop-i-test.true)) c.loop-i.invariant

pub shape_of-out : goal.shape_of-out
shape_of-out c = c.loop-i.invariant.long

pub returns : goal.returns
returns c =
    let w = set_ranks c.args.bits.now in
    let i : c.loop-i.i ≡ length w = omega (arith, c.loop-i.auto.i-end, c.loop-i-test.false, set_ranks_long c.args.bits.now) in
    filled-word (λ k. get_or w k 0) c.args.out.now c.loop-i.out w (omega (arith, c.requires, set_ranks_long c.args.bits.now)) (λ j h. refl) (subst (Filled (λ k. get_or w k 0) c.args.out.now c.loop-i.out) i c.loop-i.invariant)
