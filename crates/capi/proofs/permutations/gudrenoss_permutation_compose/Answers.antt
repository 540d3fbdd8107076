use mathlib.Core.Path.{ap, ap₂, ◌∙◌}
use Rattle.permutation.specs.Record.{recorded}
use Rattle.permutation_group.specs.Rules.{compose_says}
use Rattle.boundary.specs.Boundary.{status, stored}
use Rattle.capi.specs.Permutations.{lent_as}
use Rattle.capi.proofs.Entries.{status-recorded, stored-part}
use Rattle.capi.proofs.permutations.gudrenoss_permutation_compose.Goals as goal

pub returns : goal.returns
returns c =
    let s = compose_says (lent_as c.args.p.now c.args.n) (lent_as c.args.q.now c.args.m) in
    let e = c.compose.ensures ∙ ap₂ (λ p q. recorded (compose_says p q)) c.lent.ensures c.lent-2.ensures in
    record {
      back = c.arranged.ensures.back ∙ ap (λ t. status t) e ∙ status-recorded s;
      holds = c.arranged.ensures.holds ∙ ap (λ t. stored (λ p. p.entries) t c.args.entries.now) e ∙ stored-part (λ p. p.entries) s c.args.entries.now;
      long = c.arranged.ensures.long ∙ ap (λ t. stored (λ p. p.len) t c.args.len.now) e ∙ stored-part (λ p. p.len) s c.args.len.now;
    }
