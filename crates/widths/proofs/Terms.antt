-- A set and its word. Assumes nothing.
--   word_in_long, word_in_monotone, shifted_word_in, rank_word_in    the length of the word of a set, its rule, its shifted word, its rank
--   bits_word_in    the bits of the word are the set again
use mathlib.Core.Path.{◌≡◌, ap, ◌∙◌}
use Prim.Native.Nat.{ℕ}
use lib.ListN.{length}
use Rattle.words.specs.declared.Family.{Family}
use Rattle.words.specs.declared.Family.TheVariants.{Forbidden}
use Rattle.words.specs.Word.{Monotone, shifted}
use Rattle.words.specs.Rank.{rank_of}
use Rattle.words.specs.Bits.{bits_of, set_bits}
use Rattle.words.proofs.Shifted.{rank-shifted, shifted-unshifted, unshifted-monotone, unshifted_long}
use Rattle.words.proofs.Bits.{bits_of_set, set-bits-monotone}
use Rattle.widths.specs.Rules.{word_in}

pub word_in_long : (F : Family) (a : ℕ) → length (word_in F a) ≡ length (set_bits a)
word_in_long F a = unshifted_long F (set_bits a)

pub word_in_monotone : (F : Family) (a : ℕ) → Monotone F (word_in F a)
word_in_monotone F a = unshifted-monotone F (set_bits a) (set-bits-monotone a)

pub shifted_word_in : (F : Family) (a : ℕ) → shifted F (word_in F a) ≡ set_bits a
shifted_word_in F a = shifted-unshifted F (set_bits a) (set-bits-monotone a)

pub rank_word_in : (F : Family) (a : ℕ) → rank_of F (word_in F a) ≡ rank_of Forbidden (set_bits a)
rank_word_in F a = rank-shifted F (word_in F a) ∙ ap (rank_of Forbidden) (shifted_word_in F a)

pub bits_word_in : (F : Family) (a : ℕ) → bits_of (shifted F (word_in F a)) ≡ a
bits_word_in F a = ap bits_of (shifted_word_in F a) ∙ bits_of_set a
