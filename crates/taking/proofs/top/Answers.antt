-- `taking::top` meets its contract: a Forbidden record does not depend on its degree, which otherwise is how many bits are set. Assumes nothing.
use mathlib.Core.Path.{sym, ap, ◌∙◌}
use native.Mathlib.Omega.{arith}
use borrow.Author.Rules.{rules}
use lib.ListN.{length}
use Rattle.words.specs.declared.Family.{Family}
use Rattle.words.specs.Word.{shifted_alphabet}
use Rattle.answers.specs.Terms.{word_of}
use Rattle.answers.proofs.Terms.{word_long}
use Rattle.taking.proofs.Accepted.{few_bits}
use Rattle.taking.proofs.top.Goals as goal

pub returns-in-Forbidden : goal.returns-in-Forbidden
returns-in-Forbidden c =
    sym (ap (λ (F : Family). shifted_alphabet F c.args.x.alphabet (length (word_of c.args.x))) c.in-Forbidden.is)

pub shifted_alphabet-requires : goal.shifted_alphabet-requires
shifted_alphabet-requires c =
    (search rules, omega (arith, few_bits c.args.x.bits c.count_ones.result (search rules) c.count_ones.ensures))

pub returns : goal.returns
returns c =
    c.shifted_alphabet.ensures ∙ ap (shifted_alphabet c.args.x.family c.args.x.alphabet) (c.count_ones.ensures ∙ sym (word_long c.args.x))
