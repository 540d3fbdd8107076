-- `monotone_walk::next_of` meets its contract: the next set, held against the shifted alphabet. Assumes nothing.
use mathlib.Core.Path.{sym, ap, ◌∙◌}
use Prim.Native.Nat.{ℕ}
use Rattle.words.specs.Bits.{set_bits}
use Rattle.bits.specs.Member.{reaches}
use Rattle.taking.proofs.Accepted.{accepted-passes, narrow-alphabet}
use Rattle.monotone_walk.proofs.Passing.{following}
use Rattle.monotone_walk.proofs.next_of.Goals as goal

pub returns-then-bits-eq0 : goal.returns-then-bits-eq0
returns-then-bits-eq0 c =
    (following c.args.x c.successor-bits.result c.requires c.successor-bits.ensures).last c.if-bits-eq0.true

pub top-requires : goal.top-requires
top-requires c =
    narrow-alphabet c.args.x (accepted-passes c.args.x c.requires).0

pub returns-then-reaches : goal.returns-then-reaches
returns-then-reaches c =
    (following c.args.x c.successor-bits.result c.requires c.successor-bits.ensures).past c.if-bits-eq0.false
    (sym (c.reaches.ensures ∙ ap (λ (a : ℕ). reaches a (set_bits c.successor-bits.result)) c.top.ensures) ∙ c.if-reaches.true)

pub returns : goal.returns
returns c =
    (following c.args.x c.successor-bits.result c.requires c.successor-bits.ensures).more c.if-bits-eq0.false
    (sym (c.reaches.ensures ∙ ap (λ (a : ℕ). reaches a (set_bits c.successor-bits.result)) c.top.ensures) ∙ c.if-reaches.false)
