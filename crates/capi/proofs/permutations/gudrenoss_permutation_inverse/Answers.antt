use mathlib.Core.Path.{sym, ap, ◌∙◌}
use borrow.Author.Rules.{rules}
use Rattle.permutation.proofs.Taken.{verdict-gives}
use Rattle.permutation_group.specs.Rules.{inverse_says}
use Rattle.boundary.specs.Boundary.{status, stored}
use Rattle.capi.specs.Permutations.{entries_of, length_of}
use Rattle.capi.proofs.Entries.{inverse-refuses, inverse-gives}
use Rattle.capi.proofs.permutations.gudrenoss_permutation_inverse.Goals as goal

pub inverted-requires : goal.inverted-requires
inverted-requires c = verdict-gives _ _ c.checked.ensures _ c.in-Ok.is (search rules)

pub returns-in-Ok : goal.returns-in-Ok
returns-in-Ok c =
    let e = ap inverse_says (sym c.lent-q.ensures) ∙ inverse-gives _ (verdict-gives _ _ c.checked.ensures _ c.in-Ok.is (search rules)) in
    record {
      back = c.handed.ensures.back ∙ sym (ap (λ t. status t) e);
      holds = c.handed.ensures.holds ∙ ap (λ r. r.entries) c.inverted.ensures ∙ sym (ap (λ t. stored entries_of t c.args.entries.now) e);
      long = c.handed.ensures.long ∙ ap (λ r. r.len) c.inverted.ensures ∙ sym (ap (λ t. stored length_of t c.args.len.now) e);
    }

pub returns-in-Err : goal.returns-in-Err
returns-in-Err c =
    let e = ap inverse_says (sym c.lent-q.ensures) ∙ inverse-refuses _ _ c.checked.ensures _ c.in-Err.is in
    record {
      back = c.refused.ensures ∙ sym (ap (λ t. status t) e);
      holds = sym (ap (λ t. stored entries_of t c.args.entries.now) e);
      long = sym (ap (λ t. stored length_of t c.args.len.now) e);
    }
