-- `permutation_group::sign` meets its contract: the refusal of the check is passed on, and the sign is the parity of the inversions. Assumes nothing.
use mathlib.Core.Path.{◌≡◌, sym, ap, ◌∙◌}
use borrow.Author.Rules.{rules}
use Rattle.words.specs.Inversions.{inversions, parity}
use Rattle.answers.proofs.Says.{passed_on}
use Rattle.permutation.specs.Record.{arrangement_of}
use Rattle.permutation.proofs.Taken.{taken_holds, verdict-refuses, verdict-gives}
use Rattle.permutation_group.proofs.sign.Goals as goal

pub returns-in_err-checked : goal.returns-in_err-checked
returns-in_err-checked c =
    passed_on c.from_residual.result _ c.from_residual.ensures.1
    ∙ sym (simp (verdict-refuses c.args.p _ c.checked.ensures _ c.in_err-checked.was))

pub odd_inversions-requires : goal.odd_inversions-requires
odd_inversions-requires c = verdict-gives c.args.p _ c.checked.ensures _ c.in_ok-checked.was (search rules)

pub returns : goal.returns
returns c =
    let h = verdict-gives c.args.p _ c.checked.ensures _ c.in_ok-checked.was (search rules) in
    let e : parity c.count_ones.result ≡ parity (inversions (arrangement_of c.args.p)) = ap parity c.count_ones.ensures ∙ c.odd_inversions.ensures in
    simp (taken_holds c.args.p h, c.from_parity-s.ensures, e)
