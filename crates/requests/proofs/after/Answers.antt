-- `requests::after` meets its contract: by the letter, and by the word at the place. Assumes nothing.
use mathlib.Core.Path.{sym, subst, ◌∙◌}
use Rattle.requests.proofs.Fitting.{short_list, long_list, list-passed, word-passed, word-differs, word-missing}
use Rattle.requests.specs.Patterns.{After}
use Prim.Native.Nat.{ℕ}
use Rattle.requests.proofs.after.Goals as goal

pub returns-then-letter-eq42 : goal.returns-then-letter-eq42
returns-then-letter-eq42 c = subst (λ (l : ℕ). After c.args.kinds.now c.args.i l c.after_list.result) (sym c.if-letter-eq42.true) (list-passed c.args.kinds.now c.args.i 80 42 short_list _ c.after_list.ensures)

pub returns-then-letter-eq87 : goal.returns-then-letter-eq87
returns-then-letter-eq87 c = subst (λ (l : ℕ). After c.args.kinds.now c.args.i l c.after_list-then-letter-eq87.result) (sym c.if-letter-eq87.true) (list-passed c.args.kinds.now c.args.i 140 87 long_list _ c.after_list-then-letter-eq87.ensures)

pub returns-then-i-kinds : goal.returns-then-i-kinds
returns-then-i-kinds c = word-missing c.args.kinds.now c.args.i c.args.letter c.if-letter-eq42.false c.if-letter-eq87.false c.if-i-kinds.true

pub returns-then-is_for : goal.returns-then-is_for
returns-then-is_for c = word-passed c.args.kinds.now c.args.i c.args.letter c.if-letter-eq42.false c.if-letter-eq87.false c.if-i-kinds.false (sym c.is_for.ensures ∙ c.if-is_for.true)

pub returns : goal.returns
returns c = word-differs c.args.kinds.now c.args.i c.args.letter c.if-letter-eq42.false c.if-letter-eq87.false c.if-i-kinds.false (sym c.is_for.ensures ∙ c.if-is_for.false)
