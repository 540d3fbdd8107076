-- `spelling::positive` meets its contract: a number below 2 ^ 63 is its own reading. Assumes nothing.
use mir.Syntax.{w64}
use mir.ValLaws.{to_z_pos}
use Rattle.spelling.proofs.positive.Goals as goal

pub returns : goal.returns
returns c = to_z_pos w64 c.args.n c.requires
