-- `wide_ranking::rank` meets its contract: with no number in the high half the rank is the narrow one. Assumes nothing.
use mathlib.Core.Path.{◌≡◌, sym, ap, ◌∙◌}
use Prim.Native.Nat.{ℕ, ◌*◌, ◌^◌, ◌<◌}
use native.Mathlib.Omega.{arith}
use borrow.Author.Rules.{rules}
use Rattle.words.specs.declared.Family.TheVariants.{Forbidden}
use Rattle.words.specs.Rank.{rank_of}
use Rattle.words.specs.Bits.{set_bits}
use Rattle.seam.specs.Joined.{joined}
use Rattle.widths.specs.Rules.{held_says}
use Rattle.widths.proofs.Counting.{held_gives}
use Rattle.wide_ranking.proofs.rank.Goals as goal

pub returns-then-high-eq0 : goal.returns-then-high-eq0
returns-then-high-eq0 c =
    let l : c.rank.result < 2 ^ 64 = search rules in
    let e : c.args.a.low ≡ joined 64 c.args.a.low c.args.a.high = omega (arith, ap (λ (h : ℕ). h * 2 ^ 64) c.if-high-eq0.true) in
    sym (held_gives c.rank.result l) ∙ ap held_says (c.rank.ensures ∙ ap (λ (b : ℕ). rank_of Forbidden (set_bits b)) e)
