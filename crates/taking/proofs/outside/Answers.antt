-- `taking::outside` meets its contract: the bits are held against the shifted alphabet. Assumes nothing.
use mathlib.Core.Path.{refl, ap, ◌∙◌}
use Prim.Native.Nat.{ℕ}
use Rattle.words.specs.Bits.{set_bits}
use Rattle.bits.specs.Member.{reaches}
use Rattle.taking.proofs.Accepted.{outside_is_reaches, narrow-alphabet}
use Rattle.taking.proofs.outside.Goals as goal

pub top-top-requires : goal.top-top-requires
top-top-requires c = narrow-alphabet c.args.x c.requires

pub returns : goal.returns
returns c =
    c.reaches.ensures ∙ ap (λ (a : ℕ). reaches a (set_bits c.args.x.bits)) c.top-top.ensures ∙ outside_is_reaches c.args.x c.args.x.alphabet _ refl
