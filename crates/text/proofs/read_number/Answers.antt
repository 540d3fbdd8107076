-- `text::read_number` meets its contract. The invariant: what was passed are digits, and n with the digits that are left is the word's number.
-- Assumes nothing.
use mathlib.Core.Path.{◌≡◌, refl, sym, ap, ◌∙◌}
use mathlib.Core.List.{List}
use Prim.Native.Nat.{ℕ, ◌+◌, ◌-◌, ◌*◌, ◌^◌, ◌≤◌, ◌<◌}
use native.Mathlib.Omega.{arith}
use lib.ListN.{length, get_or, drop}
use lib.Seq.{drop-length}
use borrow.Author.Count.{below_more}
use Rattle.text.specs.Numeral.{IsDigit, value_from}
use Rattle.text.proofs.Value.{value_grows, value_step}
use Rattle.text.proofs.read_number.Goals as goal
use Rattle.text.proofs.read_number.Goals.{then-word-eq48+else-word-gt1, else-word-eq48}

-- a word whose digits so far are worth n does not write a number below 2 ^ 64, if n with the next digit is not below it
too_big_lem : (word : List ℕ) (n i m : ℕ) → i < length word → 2 ^ 64 ≤ n * 10 + (get_or word i 0 - 48) → value_from n (drop i word) ≡ value_from 0 word → m < 2 ^ 64 → value_from 0 word ≡ m → ⊥
too_big_lem word n i m h big e l v =
    omega (arith, value_grows (n * 10 + (get_or word i 0 - 48)) (drop (i + 1) word), value_step n word i h, e, v)

-- one more digit is read
read_on : (word : List ℕ) (n i b : ℕ) → i < length word → b ≡ get_or word i 0 → value_from (n * 10 + (b - 48)) (drop (i + 1) word) ≡ value_from n (drop i word)
read_on word n i b h e = ap (λ (x : ℕ). value_from (n * 10 + (x - 48)) (drop (i + 1) word)) e ∙ sym (value_step n word i h)

-- no digit is left
read_all : (word : List ℕ) (n i : ℕ) → i ≡ length word → value_from n (drop i word) ≡ n
unfolding value_from
read_all word n i e = ap (λ (k : ℕ). value_from n (drop k word)) e ∙ ap (value_from n) (drop-length word)

pub returns-then-word-eq0 : goal.returns-then-word-eq0
returns-then-word-eq0 c = λ n h o. omega (arith, o.some)

pub returns-then-word-gt1 : goal.returns-then-word-gt1
returns-then-word-gt1 c = λ n h o. o.plain c.if-word-gt1.true c.if-word-eq48.true

pub loop-b-init : goal.loop-b-init
loop-b-init c = (omega arith, elim c.if-word-eq48.branch [ then-word-eq48+else-word-gt1 w ↦ λ l e. omega arith | else-word-eq48 w ↦ λ l e. w.if-word-eq48.false e ], λ k l. absurd (omega arith), refl)

pub returns-then-b-lt48 : goal.returns-then-b-lt48
returns-then-b-lt48 c = λ n h o. omega (arith, o.digits c.loop-b.b-index (omega arith))

pub returns-then-b-gt57 : goal.returns-then-b-gt57
returns-then-b-gt57 c = λ n h o. omega (arith, o.digits c.loop-b.b-index (omega arith))

pub returns-then-n-d : goal.returns-then-n-d
returns-then-n-d c = λ n h o. too_big_lem _ _ c.loop-b.b-index n (omega arith) (omega arith) c.loop-b.invariant.3 h o.value

pub loop-b-preserved : goal.loop-b-preserved
loop-b-preserved c = (
  omega arith,
  c.loop-b.invariant.1,
  below_more (λ k. IsDigit (get_or c.args.word.now k 0)) _ c.loop-b.invariant.2 (omega arith, omega arith),
  read_on c.args.word.now _ c.loop-b.b-index _ (omega arith) c.wide-d.ensures ∙ c.loop-b.invariant.3,
)

pub returns : goal.returns
returns c =
    let all : c.loop-b.b-index ≡ length c.args.word.now = omega arith in (
      record {
        some = omega arith;
        digits = λ k l. c.loop-b.invariant.2 k (omega arith);
        plain = c.loop-b.invariant.1;
        value = sym c.loop-b.invariant.3 ∙ read_all c.args.word.now _ c.loop-b.b-index all;
      },
      c.loop-b.invariant.0,
    )
