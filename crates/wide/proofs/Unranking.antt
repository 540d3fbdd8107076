-- Wide unranking, by the count. Assumes nothing.
--   Ready F n k r    what the walk asks, where r is below a count that 64 digits hold
--   ready    so it is
--   unranked, none_such    the answers below the count, and from it up
use mathlib.Core.Path.{◌≡◌, sym, ap, ◌∙◌}
use mathlib.Core.Bool.{true, false}
use Prim.Native.Nat.{ℕ, ◌^◌, ◌≤◌, ◌<◌}
use native.Mathlib.Nat.{le_trans}
use native.Mathlib.Omega.{arith}
use borrow.Author.Tests.{lt-leb, le-leb}
use lib.Dec.{leb}
use Rattle.words.specs.declared.Family.{Family}
use Rattle.words.specs.declared.Family.TheVariants.{Forbidden}
use Rattle.pascal.specs.Choose.{choose}
use Rattle.words.specs.Word.{shifted, shifted_alphabet, count}
use Rattle.words.specs.Unrank.{unrank_of}
use Rattle.words.specs.Bits.{bits_of}
use Rattle.words.proofs.Word.{alphabet_least}
use Rattle.words.proofs.Shifted.{shifted_unrank}
use Rattle.answers.specs.Says.{refuses, gives, refused_if, and_then}
use Rattle.widths.proofs.Counting.{CountedIn}
use Rattle.wide.specs.Answers.{wide_of}
use Rattle.wide.specs.Rules.{as_wide, wide_count_says, wide_unrank_over_says}
use Rattle.wide.proofs.Counting.{wide_count_given}

pub record Ready (F : Family) (n k r : ℕ) : Type 0 where
  pub degree : k ≤ 128
  pub symbols : n ≤ 128
  pub alphabet : shifted_alphabet F n k ≤ 128
  pub fits : r < choose (shifted_alphabet F n k) k
  pub held : choose (shifted_alphabet F n k) k < 2 ^ 64
  pub bits : bits_of (unrank_of Forbidden k r) ≡ bits_of (shifted F (unrank_of F k r))

pub ready : (F : Family) (n k c r : ℕ) → wide_count_says F n k ≡ gives c → r < c → Ready F n k r
ready F n k c r e h = go (wide_count_given F n k c e)
  where
    go : CountedIn 128 F n k c × (c < 2 ^ 64) → Ready F n k r
    go d =
        let b : r < count F n k = omega (arith, d.0.is) in
        record {
          degree = d.0.degree;
          symbols = le_trans (alphabet_least F n k) d.0.alphabet;
          alphabet = d.0.alphabet;
          fits = b;
          held = omega (arith, d.0.is, d.1);
          bits = ap bits_of (sym (shifted_unrank F n k r b));
        }

pub unranked : (F : Family) (n k c r : ℕ) → wide_count_says F n k ≡ gives c → r < c → wide_unrank_over_says F n k r ≡ gives (wide_of F (bits_of (shifted F (unrank_of F k r))))
unranked F n k c r e h =
    ap (λ s. as_wide F (and_then s (λ d. refused_if (leb d r) 3 (gives (bits_of (shifted F (unrank_of F k r))))))) e
    ∙ ap (λ t. as_wide F (refused_if t 3 (gives (bits_of (shifted F (unrank_of F k r)))))) (lt-leb c r h)

pub none_such : (F : Family) (n k c r : ℕ) → wide_count_says F n k ≡ gives c → c ≤ r → wide_unrank_over_says F n k r ≡ refuses 3
none_such F n k c r e h =
    ap (λ s. as_wide F (and_then s (λ d. refused_if (leb d r) 3 (gives (bits_of (shifted F (unrank_of F k r))))))) e
    ∙ ap (λ t. as_wide F (refused_if t 3 (gives (bits_of (shifted F (unrank_of F k r)))))) (le-leb c r h)
