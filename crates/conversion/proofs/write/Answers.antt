-- `conversion::write` meets its contract: one entry a turn. Assumes nothing.
use Rattle.std.proofs.Common.{ℕ, ◌+◌, ◌<◌, not, sym, ap, ◌∙◌, arith, rules}
use Rattle.pascal.specs.Choose.{choose}
use Rattle.words.proofs.Word.{alphabet_least}
use Rattle.conversion.specs.Rules.{place_in}
use Rattle.conversion.proofs.Writing.{place_in_below, written_none, written_more, written_all, walks_first, walks_stands, walks_on, walks-past, later_within}
use Rattle.conversion.proofs.write.Goals as goal
use Rattle.conversion.proofs.write.Goals.{then-q-c, else-q-c}

pub shifted_alphabet-a-requires : goal.shifted_alphabet-a-requires
shifted_alphabet-a-requires c = (omega (arith, c.requires.narrow, alphabet_least c.args.family c.args.n c.args.k), omega (arith, c.requires.degree))

pub loop-q-init : goal.loop-q-init
loop-q-init c =
    record {
      written = written_none c.args.back c.shifted_alphabet-a.result c.args.k c.args.c c.args.from.now c.args.out.now c.requires.lent;
      walks = walks_first c.shifted_alphabet-a.result c.args.k c.args.c c.low_mask-bits.result c.wrapping_sub_u64-later.result (c.requires.size ∙ ap (λ (x : ℕ). choose x c.args.k) (sym c.shifted_alphabet-a.ensures)) c.requires.degree c.low_mask-bits.ensures (search rules) c.wrapping_sub_u64-later.ensures.value;
    }

pub place_in-requires : goal.place_in-requires
place_in-requires c = later_within c.shifted_alphabet-a.result c.args.k c.args.c c.loop-q.q c.loop-q.bits c.loop-q.later (c.requires.size ∙ ap (λ (x : ℕ). choose x c.args.k) (sym c.shifted_alphabet-a.ensures)) c.loop-q-test.true c.loop-q.invariant.walks

pub place_in-requires-in-loop-q : goal.place_in-requires-in-loop-q
place_in-requires-in-loop-q c = later_within c.shifted_alphabet-a.result c.args.k c.args.c c.loop-q.q c.loop-q.bits c.loop-q.later (c.requires.size ∙ ap (λ (x : ℕ). choose x c.args.k) (sym c.shifted_alphabet-a.ensures)) c.loop-q-test.true c.loop-q.invariant.walks

pub copy_entry-requires : goal.copy_entry-requires
copy_entry-requires c =
    let l : c.loop-q.later < c.args.c = later_within c.shifted_alphabet-a.result c.args.k c.args.c c.loop-q.q c.loop-q.bits c.loop-q.later (c.requires.size ∙ ap (λ (x : ℕ). choose x c.args.k) (sym c.shifted_alphabet-a.ensures)) c.loop-q-test.true c.loop-q.invariant.walks in (
      omega (arith, c.place_in.ensures, place_in_below c.args.back c.args.c c.loop-q.q c.loop-q.later c.loop-q-test.true l, c.requires.given),
      omega (arith, c.place_in-in-loop-q.ensures, place_in_below (not c.args.back) c.args.c c.loop-q.q c.loop-q.later c.loop-q-test.true l, c.loop-q.invariant.written.long),
    )

pub next_later-later-requires : goal.next_later-later-requires
next_later-later-requires c = walks_stands c.shifted_alphabet-a.result c.args.k c.args.c c.loop-q.q c.loop-q.bits c.loop-q.later (c.requires.size ∙ ap (λ (x : ℕ). choose x c.args.k) (sym c.shifted_alphabet-a.ensures)) (omega (arith, c.requires.narrow, c.shifted_alphabet-a.ensures)) (omega (arith, c.if-q-c.true)) c.loop-q.invariant.walks

pub loop-q-preserved : goal.loop-q-preserved
loop-q-preserved c =
    record {
      written = written_more c.args.back c.shifted_alphabet-a.result c.args.k c.args.c c.args.from.now c.loop-q.out _ c.loop-q.q c.place_in.result c.place_in-in-loop-q.result c.requires.given (c.requires.size ∙ ap (λ (x : ℕ). choose x c.args.k) (sym c.shifted_alphabet-a.ensures)) c.loop-q-test.true (c.place_in.ensures ∙ ap (place_in c.args.back c.args.c c.loop-q.q) (c.loop-q.invariant.walks.many c.loop-q-test.true)) (c.place_in-in-loop-q.ensures ∙ ap (place_in (not c.args.back) c.args.c c.loop-q.q) (c.loop-q.invariant.walks.many c.loop-q-test.true)) c.copy_entry.ensures c.loop-q.invariant.written;
      walks = elim c.if-q-c.branch [
        | then-q-c w ↦ walks_on c.shifted_alphabet-a.result c.args.k c.args.c c.loop-q.q c.loop-q.bits c.loop-q.later c.if-q-c.bits c.if-q-c.later (c.requires.size ∙ ap (λ (x : ℕ). choose x c.args.k) (sym c.shifted_alphabet-a.ensures)) (omega (arith, c.requires.narrow, c.shifted_alphabet-a.ensures)) (omega (arith, w.if-q-c.true)) c.loop-q.invariant.walks (w.bits-is ∙ w.successor-bits.ensures) (w.later-is ∙ w.next_later-later.ensures)
        | else-q-c w ↦ walks-past c.shifted_alphabet-a.result c.args.k c.args.c (c.loop-q.q + 1) c.if-q-c.bits c.if-q-c.later (omega (arith, w.if-q-c.false))
      ];
    }

pub shape_of-out : goal.shape_of-out
shape_of-out c = omega (arith, c.loop-q.invariant.written.long, c.requires.lent)

pub returns : goal.returns
returns c = written_all c.args.back c.args.family c.args.n c.args.k c.args.c c.shifted_alphabet-a.result c.args.from.now c.loop-q.out c.loop-q.q c.shifted_alphabet-a.ensures c.requires.size (omega (arith, c.loop-q-test.false, c.loop-q.auto.q-end)) c.loop-q.invariant.written
