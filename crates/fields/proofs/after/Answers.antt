-- `fields::after` meets its contract. The invariant: the texts begin with those of the pattern exactly if the texts ahead begin with those of the letters ahead. Assumes nothing.
use native.Mathlib.Omega.{arith}
use Rattle.fields.proofs.Letters.{letter-missing, letter-passed, letter-back, letters_passed, told_not}
use Rattle.fields.proofs.after.Goals as goal

pub loop-letter-init : goal.loop-letter-init
loop-letter-init c = (λ rest s. s, λ rest s. s)

pub returns-then-at-line : goal.returns-then-at-line
returns-then-at-line c = λ rest s. letter-missing c.args.pattern.now c.args.line.now c.loop-letter.at c.loop-letter.letter-index (omega arith) rest (omega arith) (c.loop-letter.invariant.0 rest s)

pub returns-then-not-stands : goal.returns-then-not-stands
returns-then-not-stands c = λ rest s. told_not c.stands.ensures.1 (c.if-not-stands.true) (letter-passed c.args.pattern.now c.args.line.now c.loop-letter.at c.loop-letter.letter-index (omega arith) rest _ (omega arith) c.find-end.ensures (c.loop-letter.invariant.0 rest s)).0

pub loop-letter-preserved : goal.loop-letter-preserved
loop-letter-preserved c = (λ rest s. (letter-passed c.args.pattern.now c.args.line.now c.loop-letter.at c.loop-letter.letter-index (omega arith) rest _ (omega arith) c.find-end.ensures (c.loop-letter.invariant.0 rest s)).1, λ rest s. c.loop-letter.invariant.1 rest (letter-back c.args.pattern.now c.args.line.now c.loop-letter.at c.loop-letter.letter-index (omega arith) rest _ (omega arith) c.find-end.ensures (c.stands.ensures.0 (c.if-not-stands.false)) s))

pub returns : goal.returns
returns c = c.loop-letter.invariant.1 _ (letters_passed c.args.pattern.now _ c.loop-letter.letter-index (omega arith))
