-- `derivative::size` meets its contract. Assumes nothing.
use mathlib.Core.Path.{ap, ◌∙◌}
use Prim.Native.Nat.{ℕ}
use native.Mathlib.Omega.{arith}
use Rattle.pascal.specs.Choose.{choose}
use Rattle.pascal.proofs.Row.{entry_is_choose}
use Rattle.derivative.proofs.Passes.{alphabet-narrow}
use Rattle.derivative.proofs.size.Goals as goal

pub shifted_alphabet-requires : goal.shifted_alphabet-requires
shifted_alphabet-requires c = (c.requires.1, omega (arith, c.requires.2))

pub at-requires : goal.at-requires
at-requires c = omega (arith, c.shifted_alphabet.ensures, alphabet-narrow c.args.n c.args.k c.requires.0 c.requires.1)

pub returns : goal.returns
returns c =
    c.at.ensures ∙ entry_is_choose c.shifted_alphabet.result c.args.k
    ∙ ap (λ (a : ℕ). choose a c.args.k) c.shifted_alphabet.ensures
