-- What the successor of a term is, for all inputs, in document 01's numbers: its checks in 01's order, and then the value. Assumes nothing.
--   next_says x    4 if the word is empty or the next one has a symbol that is not below its alphabet; the index of the next word
--   successor_says x    taken (02 §8: 1, 7); then so
use Rattle.std.specs.Prelude.{eqb, length}
use Rattle.words.specs.Next.{next}
use Rattle.bits.specs.Member.{reaches}
use Rattle.answers.specs.declared.Index.{Index}
use Rattle.answers.specs.Says.{Says, gives, refused_if}
use Rattle.answers.specs.Terms.{index_of, word_of}
use Rattle.taking.specs.Taken.{taken}

abbrev pub next_says : Index → Says Index
next_says x =
    refused_if (eqb (length (word_of x)) 0) 4
    (refused_if (reaches x.alphabet (next x.family (word_of x))) 4 (gives (index_of x.family x.alphabet (next x.family (word_of x)))))

abbrev pub successor_says : Index → Says Index
successor_says x = taken x (next_says x)
