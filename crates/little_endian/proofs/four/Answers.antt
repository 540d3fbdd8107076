-- `little_endian::four` meets its contract. Assumes nothing.
use native.Mathlib.Omega.{arith}
use Rattle.little_endian.proofs.Numbers.{number_four}
use Rattle.little_endian.proofs.four.Goals as goal

pub returns : goal.returns
returns c = (omega (arith, number_four c.args.s.now c.args.at), omega arith)
