-- `wide_count::count` meets its contract. Assumes nothing.
use mathlib.Core.Path.{◌≡◌, sym, ap, ◌∙◌}
use native.Mathlib.Omega.{arith}
use borrow.Author.Tests.{lt-ltb}
use Prim.Native.Nat.{ℕ, ◌^◌, ◌≤◌, ◌<◌}
use Rattle.words.specs.Word.{count}
use Rattle.pascal.specs.Choose.{choose}
use Rattle.words.proofs.Word.{alphabet_least}
use Rattle.answers.specs.Says.{and_then, gives}
use Rattle.widths.specs.Rules.{held_says}
use Rattle.wide_pascal.proofs.Told.{told-big, told-held}
use Rattle.widths.proofs.Counting.{held_gives, held-refuses, count_in_gives, count_in_wide}
use borrow.Author.Rules.{rules}
use Rattle.wide_count.proofs.count.Goals as goal

pub returns-then-k-gt128 : goal.returns-then-k-gt128
returns-then-k-gt128 c = simp (lt-ltb _ _ c.if-k-gt128.true)

pub returns-then-n-gt128 : goal.returns-then-n-gt128
returns-then-n-gt128 c =
    sym (ap (λ s. and_then s held_says) (count_in_wide 128 c.args.family c.args.n c.args.k (omega arith) (omega (arith, alphabet_least c.args.family c.args.n c.args.k))))

pub returns-then-alphabet-gt128 : goal.returns-then-alphabet-gt128
returns-then-alphabet-gt128 c =
    sym (ap (λ s. and_then s held_says) (count_in_wide 128 c.args.family c.args.n c.args.k (omega arith) (omega arith)))

pub returns-then-c : goal.returns-then-c
returns-then-c c =
    let big : 2 ^ 64 ≤ count c.args.family c.args.n c.args.k = omega (arith, told-big c.shifted_alphabet-alphabet.result c.args.k _ (omega arith) c.at-c.ensures c.if-c.true, ap (λ (s : ℕ). choose s c.args.k) c.shifted_alphabet-alphabet.ensures) in
    sym (ap (λ s. and_then s held_says) (count_in_gives 128 c.args.family c.args.n c.args.k (omega arith) (omega arith)) ∙ held-refuses (count c.args.family c.args.n c.args.k) big)

pub returns : goal.returns
returns c =
    let e : c.at-c.result ≡ count c.args.family c.args.n c.args.k = told-held c.shifted_alphabet-alphabet.result c.args.k _ c.at-c.ensures c.if-c.false ∙ ap (λ (s : ℕ). choose s c.args.k) c.shifted_alphabet-alphabet.ensures in
    let l : c.at-c.result < 2 ^ 64 = search rules in
    ap gives e ∙ sym (ap (λ s. and_then s held_says) (count_in_gives 128 c.args.family c.args.n c.args.k (omega arith) (omega arith)) ∙ held_gives (count c.args.family c.args.n c.args.k) (omega arith))
