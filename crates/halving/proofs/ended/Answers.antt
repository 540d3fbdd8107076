-- `halving::ended` meets its contract. Assumes nothing.
use mathlib.Core.Path.{sym, ap, ◌∙◌}
use Prim.Native.Nat.{ℕ}
use native.Mathlib.Nat.{zero-add}
use Rattle.halving.specs.Search.{value}
use Rattle.halving.proofs.ended.Goals as goal

pub returns : goal.returns
returns c = c.requires.0 ∙ zero-add _ ∙ ap (λ (x : ℕ). value x c.args.r) (sym c.requires.1)
