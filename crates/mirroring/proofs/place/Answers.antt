-- `mirroring::place` meets its contract, by the laws of `Places`. Assumes nothing.
use native.Mathlib.Omega.{arith}
use Rattle.words.proofs.Word.{alphabet_least}
use Rattle.mirroring.proofs.Places.{placed}
use Rattle.mirroring.proofs.place.Goals as goal

pub shifted_alphabet-a-requires : goal.shifted_alphabet-a-requires
shifted_alphabet-a-requires c = (omega (arith, alphabet_least c.args.family c.args.n c.args.k, c.requires.1), omega (arith, c.requires.0))

pub at-requires : goal.at-requires
at-requires c = omega (arith, c.requires.1, c.shifted_alphabet-a.ensures)

pub overflow_sub-result : goal.overflow_sub-result
overflow_sub-result c = omega (arith, (placed c.args.family c.args.n c.args.k c.args.bits c.shifted_alphabet-a.result c.shifted_alphabet-a.ensures c.requires.2).sum, c.at.ensures)

pub mirrored-requires : goal.mirrored-requires
mirrored-requires c = (omega (arith, c.requires.1, c.shifted_alphabet-a.ensures), (placed c.args.family c.args.n c.args.k c.args.bits c.shifted_alphabet-a.result c.shifted_alphabet-a.ensures c.requires.2).fits)

pub overflow_sub-result-2 : goal.overflow_sub-result-2
overflow_sub-result-2 c = omega (arith, (placed c.args.family c.args.n c.args.k c.args.bits c.shifted_alphabet-a.result c.shifted_alphabet-a.ensures c.requires.2).sum, c.at.ensures, c.rank.ensures, (placed c.args.family c.args.n c.args.k c.args.bits c.shifted_alphabet-a.result c.shifted_alphabet-a.ensures c.requires.2).rank c.mirrored.result c.mirrored.ensures)

pub returns : goal.returns
returns c = omega (arith, (placed c.args.family c.args.n c.args.k c.args.bits c.shifted_alphabet-a.result c.shifted_alphabet-a.ensures c.requires.2).is, (placed c.args.family c.args.n c.args.k c.args.bits c.shifted_alphabet-a.result c.shifted_alphabet-a.ensures c.requires.2).sum, c.at.ensures, c.rank.ensures, (placed c.args.family c.args.n c.args.k c.args.bits c.shifted_alphabet-a.result c.shifted_alphabet-a.ensures c.requires.2).rank c.mirrored.result c.mirrored.ensures)
