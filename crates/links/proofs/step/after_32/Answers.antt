-- `links::step::after_32` meets its contract: a set of no numbers is 0. Assumes nothing.
use mathlib.Core.Path.{ap, ◌∙◌}
use mathlib.Core.Logic.{⊎_elim}
use native.Mathlib.Nat.{eq-zero-or-pos}
use native.Mathlib.Omega.{arith}
use borrow.Author.Rules.{rules}
use Rattle.words.proofs.Digits.{rank-set-zero, ones_turn}
use Rattle.links.specs.Weight.{weight}
use Rattle.links.proofs.step.after_32.Goals as goal

pub returns : goal.returns
returns c =
    ⊎_elim (λ z. omega (arith, ap (weight 32) z ∙ rank-set-zero 32)) (λ p. omega (arith, ones_turn 64 c.args.a p (search rules))) (eq-zero-or-pos c.args.a)
