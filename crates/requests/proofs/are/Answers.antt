-- `requests::are` meets its contract: at each letter, what is left of the pattern is to fit the words from the place reached. Assumes nothing.
use Rattle.requests.proofs.Fitting.{no-letter-passed, letter-passed, letters_passed}
use Rattle.requests.proofs.are.Goals as goal

pub loop-letter-init : goal.loop-letter-init
loop-letter-init c = no-letter-passed _ _

pub loop-letter-preserved : goal.loop-letter-preserved
loop-letter-preserved c = letter-passed _ _ _ _ _ c.loop-letter.invariant c.loop-letter-test.true c.after-i.ensures

pub returns : goal.returns
returns c = letters_passed _ _ _ _ c.loop-letter.invariant c.loop-letter-test.false
