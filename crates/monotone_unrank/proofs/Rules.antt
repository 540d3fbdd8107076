-- What an answer of unranking tells of its arguments, and the other way round. Assumes nothing.
--   Unranked F n k r w    the width limits hold, r is below the count, and w is the word of rank r
--   unrank_given, unrank_gives    what unranking to a word gives, and when
--   unrank_none    a rank at or above the count is refused with 3
use mathlib.Core.Path.{◌≡◌, refl, sym}
use mathlib.Core.Bool.{false}
use mathlib.Core.List.{List}
use Prim.Native.Nat.{ℕ, ◌≤◌, ◌<◌}
use native.Mathlib.Omega.{arith}
use borrow.Author.Tests.{ltb-false, leb-false, le-ltb, lt-leb, le-leb}
use lib.Dec.{leb, ltb}
use Rattle.words.specs.declared.Family.{Family}
use Rattle.words.specs.Word.{shifted_alphabet, count}
use Rattle.words.specs.Unrank.{unrank_of}
use Rattle.answers.specs.Says.{refuses, gives, refused_if}
use Rattle.answers.proofs.Says.{gives_same, passed, then_gave}
use Rattle.monotone_count.specs.Rules.{count_says}
use Rattle.monotone_unrank.specs.Rules.{unrank_says}
use Rattle.monotone_count.proofs.Rules.{Counted, count_given, count_gives}

pub record Unranked (F : Family) (n k r : ℕ) (w : List ℕ) : Type 0 where
  pub counted : Counted F n k (count F n k)
  pub below : r < count F n k
  pub is : w ≡ unrank_of F k r

pub unrank_given : (F : Family) (n k r room : ℕ) (w : List ℕ) → unrank_says F n k r room ≡ gives w → Unranked F n k r w × (k ≤ room)
unrank_given F n k r room w e = go (then_gave (count_says F n k) (λ c. refused_if (leb c r) 3 (refused_if (ltb room k) 8 (gives (unrank_of F k r)))) w e)
  where
    go : (c : ℕ) × (count_says F n k ≡ gives c) × (refused_if (leb c r) 3 (refused_if (ltb room k) 8 (gives (unrank_of F k r))) ≡ gives w)
        → Unranked F n k r w × (k ≤ room)
    go t = on (count_given F n k t.0 t.1) (passed (leb t.0 r) 3 (refused_if (ltb room k) 8 (gives (unrank_of F k r))) w t.2)
      where
        on : Counted F n k t.0 → (leb t.0 r ≡ false) × (refused_if (ltb room k) 8 (gives (unrank_of F k r)) ≡ gives w) → Unranked F n k r w × (k ≤ room)
        on d p = last (passed (ltb room k) 8 (gives (unrank_of F k r)) w p.1)
          where
            last : (ltb room k ≡ false) × (gives (unrank_of F k r) ≡ gives w) → Unranked F n k r w × (k ≤ room)
            last q = (
              record {
                counted = record { degree = d.degree; alphabet = d.alphabet; is = refl };
                below = omega (arith, leb-false t.0 r p.0, d.is);
                is = sym (gives_same (unrank_of F k r) w q.1);
              },
              ltb-false room k q.0,
            )

pub unrank_gives : (F : Family) (n k r room : ℕ) → k ≤ 64 → shifted_alphabet F n k ≤ 64 → r < count F n k → k ≤ room
    → unrank_says F n k r room ≡ gives (unrank_of F k r)
unrank_gives F n k r room h l b m = simp (count_gives F n k h l, lt-leb (count F n k) r b, le-ltb room k m)

pub unrank_none : (F : Family) (n k r room : ℕ) → k ≤ 64 → shifted_alphabet F n k ≤ 64 → count F n k ≤ r → unrank_says F n k r room ≡ refuses 3
unrank_none F n k r room h l b = simp (count_gives F n k h l, le-leb (count F n k) r b)
