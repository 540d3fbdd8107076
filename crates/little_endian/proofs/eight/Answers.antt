-- `little_endian::eight` meets its contract. Assumes nothing.
use native.Mathlib.Omega.{arith}
use Rattle.little_endian.proofs.Numbers.{number-eight}
use Rattle.little_endian.proofs.eight.Goals as goal

pub returns : goal.returns
returns c = omega (arith, number-eight c.args.s.now c.args.at)
