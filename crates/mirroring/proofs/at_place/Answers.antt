-- `mirroring::at_place` meets its contract, by the laws of `Places`. Assumes nothing.
use mathlib.Core.Path.{ap, ◌∙◌}
use native.Mathlib.Omega.{arith}
use Prim.Native.Nat.{ℕ, ◌-◌}
use Rattle.words.specs.Bits.{bits_of}
use Rattle.words.specs.declared.Family.TheVariants.{Forbidden}
use Rattle.words.specs.Unrank.{unrank_of}
use Rattle.words.proofs.Word.{alphabet_least}
use Rattle.mirroring.proofs.Places.{at_place}
use Rattle.mirroring.proofs.at_place.Goals as goal

pub shifted_alphabet-a-requires : goal.shifted_alphabet-a-requires
shifted_alphabet-a-requires c = (omega (arith, alphabet_least c.args.family c.args.n c.args.k, c.requires.1), omega (arith, c.requires.0))

pub at-requires : goal.at-requires
at-requires c = omega (arith, c.requires.1, c.shifted_alphabet-a.ensures)

pub overflow_sub-at : goal.overflow_sub-at
overflow_sub-at c = omega (arith, (at_place c.args.family c.args.n c.args.k c.args.r c.shifted_alphabet-a.result c.shifted_alphabet-a.ensures c.requires.2).some, c.at.ensures)

pub overflow_sub-at-2 : goal.overflow_sub-at-2
overflow_sub-at-2 c = omega (arith, (at_place c.args.family c.args.n c.args.k c.args.r c.shifted_alphabet-a.result c.shifted_alphabet-a.ensures c.requires.2).some, c.at.ensures)

pub word-requires : goal.word-requires
word-requires c = (omega (arith, c.requires.1, c.shifted_alphabet-a.ensures), omega (arith, (at_place c.args.family c.args.n c.args.k c.args.r c.shifted_alphabet-a.result c.shifted_alphabet-a.ensures c.requires.2).column, c.at.ensures))

pub mirrored-requires : goal.mirrored-requires
mirrored-requires c = (omega (arith, c.requires.1, c.shifted_alphabet-a.ensures), (at_place c.args.family c.args.n c.args.k c.args.r c.shifted_alphabet-a.result c.shifted_alphabet-a.ensures c.requires.2).fits c.word.result (c.word.ensures ∙ ap (λ (x : ℕ). bits_of (unrank_of Forbidden c.args.k (x - 1 - c.args.r))) c.at.ensures))

pub returns : goal.returns
returns c = (at_place c.args.family c.args.n c.args.k c.args.r c.shifted_alphabet-a.result c.shifted_alphabet-a.ensures c.requires.2).word c.word.result c.mirrored.result (c.word.ensures ∙ ap (λ (x : ℕ). bits_of (unrank_of Forbidden c.args.k (x - 1 - c.args.r))) c.at.ensures) c.mirrored.ensures
