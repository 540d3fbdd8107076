-- What the wide count answers, and what its answers tell. Assumes nothing.
--   wide_count_gives, wide_count_too_big, wide_count_too_wide    when it answers, and its refusals 9 and 1
--   wide_count_given    what an answer tells: the width limits, and that the count has 64 digits
use mathlib.Core.Path.{◌≡◌, sym, ap, ◌∙◌}
use Prim.Native.Nat.{ℕ, ◌^◌, ◌≤◌, ◌<◌}
use native.Mathlib.Omega.{arith}
use Rattle.words.specs.declared.Family.{Family}
use Rattle.words.specs.Word.{shifted_alphabet, count}
use Rattle.answers.specs.Says.{refuses, gives, and_then}
use Rattle.answers.proofs.Says.{then_gave}
use Rattle.widths.specs.Rules.{count_in, held_says}
use Rattle.widths.proofs.Counting.{CountedIn, held_gives, held-refuses, held_given, count_in_gives, count_in_wide, count_in_given}
use Rattle.wide.specs.Rules.{wide_count_says}

pub wide_count_gives : (F : Family) (n k : ℕ) → k ≤ 128 → shifted_alphabet F n k ≤ 128 → count F n k < 2 ^ 64 → wide_count_says F n k ≡ gives (count F n k)
wide_count_gives F n k h l f = ap (λ s. and_then s held_says) (count_in_gives 128 F n k h l) ∙ held_gives (count F n k) f

pub wide_count_too_big : (F : Family) (n k : ℕ) → k ≤ 128 → shifted_alphabet F n k ≤ 128 → 2 ^ 64 ≤ count F n k → wide_count_says F n k ≡ refuses 9
wide_count_too_big F n k h l f = ap (λ s. and_then s held_says) (count_in_gives 128 F n k h l) ∙ held-refuses (count F n k) f

pub wide_count_too_wide : (F : Family) (n k : ℕ) → k ≤ 128 → 128 < shifted_alphabet F n k → wide_count_says F n k ≡ refuses 1
wide_count_too_wide F n k h l = ap (λ s. and_then s held_says) (count_in_wide 128 F n k h l)

pub wide_count_given : (F : Family) (n k c : ℕ) → wide_count_says F n k ≡ gives c → CountedIn 128 F n k c × (c < 2 ^ 64)
wide_count_given F n k c e = go (then_gave (count_in 128 F n k) held_says c e)
  where
    go : (a : ℕ) × (count_in 128 F n k ≡ gives a) × (held_says a ≡ gives c) → CountedIn 128 F n k c × (c < 2 ^ 64)
    go t = on (held_given t.0 c t.2) (count_in_given 128 F n k t.0 t.1)
      where
        on : (t.0 < 2 ^ 64) × (t.0 ≡ c) → CountedIn 128 F n k t.0 → CountedIn 128 F n k c × (c < 2 ^ 64)
        on p d = (record { degree = d.degree; alphabet = d.alphabet; is = sym p.1 ∙ d.is }, omega arith)
