-- What an answer of the count tells of its arguments, and the other way round: the count over the number of bits, at 64. Assumes nothing.
--   Counted F n k c    the width limits hold, and c is the count
--   count_given, count_gives    what `count_says` gives, and when
--   start-bits    the k lowest bits are the first word
use mathlib.Core.Path.{◌≡◌, ap, ◌∙◌}
use Prim.Native.Nat.{ℕ, ◌^◌, ◌≤◌, suc}
use native.Mathlib.Omega.{arith}
use Rattle.words.specs.declared.Family.{Family}
use Rattle.words.specs.Word.{shifted, shifted_alphabet, count}
use Rattle.words.specs.Bits.{bits_of}
use Rattle.answers.specs.Says.{gives}
use Rattle.widths.proofs.Counting.{CountedIn, count_in_given, count_in_gives}
use Rattle.monotone_count.specs.Rules.{count_says}
use Rattle.words.specs.Next.{first}
use Rattle.words.proofs.Ends.{first_bits}
use Rattle.words.proofs.Shifted.{shifted_first}
use Rattle.bits.specs.Mask.{clamped}
use Rattle.bits.proofs.Mask.{clamped_within}

abbrev pub Counted : Family → ℕ → ℕ → ℕ → Type 0
Counted F n k c = CountedIn 64 F n k c

pub count_given : (F : Family) (n k c : ℕ) → count_says F n k ≡ gives c → Counted F n k c
count_given F n k c e = count_in_given 64 F n k c e

pub count_gives : (F : Family) (n k : ℕ) → k ≤ 64 → shifted_alphabet F n k ≤ 64 → count_says F n k ≡ gives (count F n k)
count_gives F n k h l = count_in_gives 64 F n k h l

pub start-bits : (F : Family) (k r : ℕ) → k ≤ 64 → suc r ≡ 2 ^ clamped k → r ≡ bits_of (shifted F (first F k))
start-bits F k r h e = omega (arith, e ∙ ap (λ (j : ℕ). 2 ^ j) (clamped_within k h), first_bits k, ap bits_of (shifted_first F k))
