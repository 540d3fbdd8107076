-- `permutation_order::unrank` meets its contract: each return by the tests that led there. Assumes nothing.
use mathlib.Core.Path.{◌≡◌, ap, ◌∙◌}
use mathlib.Core.Bool.{Bool}
use Prim.Native.Nat.{ℕ, ◌≤◌, ◌<◌}
use native.Mathlib.Omega.{arith}
use borrow.Author.Tests.{lt-ltb, le-ltb, le-leb, lt-leb}
use Rattle.words.specs.Pick.{pick}
use Rattle.words.specs.Factorial.{factorial}
use Rattle.count.specs.Factorial.{factorial_of}
use Rattle.permutation.specs.Record.{record_of}
use Rattle.permutation_order.specs.Rules.{longest_numbered}
use Rattle.permutation_order.proofs.Making.{made, made_all}
use Rattle.permutation_order.proofs.unrank.Goals as goal

-- up to the greatest length that is numbered the table has the factorial
in_table : (n : ℕ) → n ≤ longest_numbered → factorial_of n ≡ factorial n
in_table n h = ap (λ (t : Bool). pick t (factorial n) 0) (le-leb n longest_numbered h)

pub returns-then-n-gt-LONGEST : goal.returns-then-n-gt-LONGEST
returns-then-n-gt-LONGEST c = simp (lt-ltb _ _ c.if-n-gt-LONGEST.true)

pub returns-then-r-factorial : goal.returns-then-r-factorial
returns-then-r-factorial c =
    let f = c.factorial.ensures ∙ in_table c.args.n c.if-n-gt-LONGEST.false in
    simp (le-ltb _ _ c.if-n-gt-LONGEST.false, le-leb (factorial c.args.n) c.args.r (omega (arith, f, c.if-r-factorial.true)))

pub returns : goal.returns
unfolding made
returns c =
    let f = c.factorial.ensures ∙ in_table c.args.n c.if-n-gt-LONGEST.false in
    let h : c.args.r < factorial c.args.n = omega (arith, f, c.if-r-factorial.false) in
    simp (le-ltb _ _ c.if-n-gt-LONGEST.false, lt-leb (factorial c.args.n) c.args.r h, c.unranked.ensures ∙ ap record_of (made_all c.args.n c.args.r h))
