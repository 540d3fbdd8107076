-- `image_lookup::lookup_at` meets its contract. Assumes nothing.
use mathlib.Core.Path.{◌≡◌, sym, ap, ◌∙◌}
use Prim.Native.Nat.{◌+◌, ◌*◌}
use native.Mathlib.Omega.{arith}
use borrow.Author.Tests.{le-ltb}
use lib.Dec.{ltb}
use lib.ListN.{length}
use Rattle.words.specs.Rank.{rank_of}
use Rattle.answers.specs.Says.{refused_if}
use Rattle.answers.specs.Terms.{word_of}
use Rattle.answers.proofs.Terms.{rank_of_word_lem}
use Rattle.taking.proofs.Accepted.{took}
use Rattle.image_lookup.specs.Lookup.{entry_says}
use Rattle.image_lookup.proofs.lookup_at.Goals as goal

pub returns : goal.returns
returns c =
    let u : (entry_says c.args.image.now c.args.t (rank_of c.args.x.family (word_of c.args.x))) ≡ (refused_if (ltb (length c.args.image.now) (c.args.t.offset + 8 * c.args.t.entries)) 7 (entry_says c.args.image.now c.args.t (rank_of c.args.x.family (word_of c.args.x)))) = simp (le-ltb (length c.args.image.now) (c.args.t.offset + 8 * c.args.t.entries) (omega arith)) in
    c.entry.ensures ∙ ap (entry_says c.args.image.now c.args.t) (sym (rank_of_word_lem c.args.x)) ∙ u ∙ took c.args.x (refused_if (ltb (length c.args.image.now) (c.args.t.offset + 8 * c.args.t.entries)) 7 (entry_says c.args.image.now c.args.t (rank_of c.args.x.family (word_of c.args.x)))) c.take.result _ c.take.ensures c.in_ok-take.was
