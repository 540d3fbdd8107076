-- `rank_all::judge` meets its contract. The invariant: what is left of the list decides. Assumes nothing.
use mathlib.Core.Path.{sym, ◌∙◌}
use Rattle.rank_all.proofs.Judging.{judged-turn, judged-stops, judged_end}
use Rattle.rank_all.proofs.judge.Goals as goal

pub returns-in-Err : goal.returns-in-Err
returns-in-Err c =
    λ s. sym (c.loop-i.invariant s ∙ judged-stops c.args.family c.args.n c.args.bits.now c.loop-i.i c.loop-i-test.true s _ _ c.take.ensures c.in-Err.is)

pub loop-i-preserved : goal.loop-i-preserved
loop-i-preserved c =
    λ s. c.loop-i.invariant s ∙ judged-turn c.args.family c.args.n c.args.bits.now c.loop-i.i c.loop-i-test.true s _ _ c.take.ensures c.in_default.is

pub returns : goal.returns
returns c =
    λ s. sym (c.loop-i.invariant s ∙ judged_end c.args.family c.args.n c.args.bits.now c.loop-i.i s c.loop-i-test.false)
