-- `taking::too_wide` meets its contract. Assumes nothing.
use mathlib.Core.Path.{sym, ap}
use native.Mathlib.Omega.{arith}
use borrow.Author.Tests.{lt-ltb}
use lib.Dec.{ltb}
use Rattle.words.specs.Word.{shifted_alphabet}
use Rattle.words.proofs.Word.{alphabet_least}
use Rattle.taking.proofs.too_wide.Goals as goal

pub returns-then-n-gt64 : goal.returns-then-n-gt64
returns-then-n-gt64 c =
    sym (lt-ltb 64 (shifted_alphabet c.args.family c.args.n c.args.k) (omega (arith, c.if-n-gt64.true, alphabet_least c.args.family c.args.n c.args.k)))

pub returns : goal.returns
returns c = ap (ltb 64) c.shifted_alphabet.ensures
