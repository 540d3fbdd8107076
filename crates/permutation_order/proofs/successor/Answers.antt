-- `permutation_order::successor` meets its contract: the step at the places found is the next permutation. Assumes nothing.
use mathlib.Core.Path.{sym, ap, ◌∙◌}
use Prim.Native.Nat.{suc}
use native.Mathlib.Omega.{arith}
use borrow.Author.Tests.{le-leb, lt-leb}
use borrow.Author.Rules.{rules}
use Rattle.words.specs.Factorial.{factorial}
use Rattle.arrangements.specs.Rank.{arrangement_rank}
use Rattle.arrangements.proofs.Next.{step-has-room, step-is-next}
use Rattle.answers.proofs.Says.{passed_on}
use Rattle.permutation.specs.Record.{arrangement_of, record_of}
use Rattle.permutation_order.proofs.Numbering.{ordered-numbered, numbered-refuses, numbered-gives}
use Rattle.permutation_order.proofs.Searching.{no-next, next-places}
use Rattle.permutation_order.proofs.successor.Goals as goal

pub returns-in_err-numbered : goal.returns-in_err-numbered
returns-in_err-numbered c =
    passed_on c.from_residual.result _ c.from_residual.ensures.1
    ∙ sym (simp (numbered-refuses c.args.p _ c.numbered.ensures _ c.in_err-numbered.was))

pub first_fall-k-requires : goal.first_fall-k-requires
first_fall-k-requires c = (numbered-gives c.args.p _ c.numbered.ensures _ c.in_ok-numbered.was (search rules)).holds

pub returns-then-k-n : goal.returns-then-k-n
returns-then-k-n c =
    let h = numbered-gives c.args.p _ c.numbered.ensures _ c.in_ok-numbered.was (search rules) in
    let e = no-next c.args.p h.holds _ c.first_fall-k.ensures c.if-k-n.true in
    simp (ordered-numbered c.args.p h, le-leb (factorial c.args.p.len) (suc (arrangement_rank (arrangement_of c.args.p))) (omega (arith, e)))

pub first_greater-i-requires : goal.first_greater-i-requires
first_greater-i-requires c =
    let h = numbered-gives c.args.p _ c.numbered.ensures _ c.in_ok-numbered.was (search rules) in
    (h.holds, omega (arith, c.first_fall-k.ensures.within, c.if-k-n.false))

pub stepped-requires : goal.stepped-requires
stepped-requires c =
    let h = numbered-gives c.args.p _ c.numbered.ensures _ c.in_ok-numbered.was (search rules) in
    let f = next-places c.args.p h.holds _ c.first_fall-k.ensures c.if-k-n.false _ c.first_greater-i.ensures in
    (h.holds, f.found, f.within)

pub returns : goal.returns
returns c =
    let h = numbered-gives c.args.p _ c.numbered.ensures _ c.in_ok-numbered.was (search rules) in
    let f = next-places c.args.p h.holds _ c.first_fall-k.ensures c.if-k-n.false _ c.first_greater-i.ensures in
    let room = step-has-room c.args.p.len (arrangement_of c.args.p) h.holds.permutation _ _ f in
    let next = step-is-next c.args.p.len (arrangement_of c.args.p) h.holds.permutation _ _ f in
    simp (ordered-numbered c.args.p h, lt-leb (factorial c.args.p.len) (suc (arrangement_rank (arrangement_of c.args.p))) room, c.stepped.ensures ∙ ap record_of next)
