use mathlib.Core.Path.{ap, ◌∙◌}
use Rattle.permutation_order.specs.Rules.{arrangement_unrank_says}
use Rattle.boundary.specs.Boundary.{status, stored}
use Rattle.capi.proofs.Entries.{status-recorded, stored-part}
use Rattle.capi.proofs.permutations.gudrenoss_permutation_unrank.Goals as goal

pub returns : goal.returns
returns c =
    let s = arrangement_unrank_says c.args.n c.args.r in
    let e = c.unrank.ensures in
    record {
      back = c.arranged.ensures.back ∙ ap (λ t. status t) e ∙ status-recorded s;
      holds = c.arranged.ensures.holds ∙ ap (λ t. stored (λ p. p.entries) t c.args.entries.now) e ∙ stored-part (λ p. p.entries) s c.args.entries.now;
      long = c.arranged.ensures.long ∙ ap (λ t. stored (λ p. p.len) t c.args.len.now) e ∙ stored-part (λ p. p.len) s c.args.len.now;
    }
