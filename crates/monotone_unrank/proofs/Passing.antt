-- Unranking goes on with another call's answer, in the definitions: the refusals that it passes on are its own. Assumes nothing.
--   unrank_accepted    what unranking gives is accepted
--   unrank_by_index    unranking to a word is unranking to an index, and unpacking it
--   unrank_bits    the bits of the word of a rank, and that the rank is one of the shifted alphabet
use mathlib.Core.Path.{◌≡◌, refl, sym, ap, ◌∙◌}
use mathlib.Core.Bool.{Bool, true, false}
use mathlib.Core.List.{List}
use Prim.Native.Nat.{ℕ, ◌≤◌, ◌<◌}
use native.Mathlib.Omega.{arith}
use borrow.Author.Tests.{leb-false}
use lib.Dec.{leb, ltb}
use lib.ListN.{length}
use Rattle.pascal.specs.Row.{entry}
use Rattle.pascal.proofs.Row.{entry_is_choose}
use Rattle.words.specs.declared.Family.{Family}
use Rattle.words.specs.declared.Family.TheVariants.{Forbidden}
use Rattle.words.specs.Word.{shifted, shifted_alphabet, count}
use Rattle.words.specs.Unrank.{unrank_of}
use Rattle.words.specs.Bits.{bits_of}
use Rattle.words.proofs.Word.{alphabet_least}
use Rattle.words.proofs.Unrank.{unrank_long, unrank_monotone, unrank_is_a_word}
use Rattle.words.proofs.Shifted.{shifted_unrank}
use Rattle.answers.specs.Says.{Says, refuses_with, gives, refused_if, and_then}
use Rattle.answers.specs.Terms.{index_of, word_of}
use Rattle.answers.proofs.Terms.{word_of_index}
use Rattle.taking.specs.Taken.{Accepted}
use Rattle.taking.proofs.Accepted.{index-accepted, taken-accepted}
use Rattle.monotone_count.specs.Rules.{count_says}
use Rattle.monotone.specs.Rules.{unpack_says}
use Rattle.monotone_unrank.specs.Rules.{unrank_over_says, unrank_says}
use Rattle.monotone_count.proofs.Rules.{Counted, count_given}

-- what unranking gives is accepted
pub unrank_accepted : (F : Family) (n k c r : ℕ) → count_says F n k ≡ gives c → r < c → Accepted (index_of F n (unrank_of F k r))
unrank_accepted F n k c r e h =
    let d : Counted F n k c = count_given F n k c e in
    index-accepted F n k (unrank_of F k r) d.alphabet (unrank_is_a_word F n k r (omega (arith, d.is)))

pub unrank_by_index : (F : Family) (n k r room : ℕ) → unrank_says F n k r room ≡ and_then (unrank_over_says F n k r) (λ x. unpack_says x room)
unrank_by_index F n k r room = on (count_says F n k) refl
  where
    same : word_of (index_of F n (unrank_of F k r)) ≡ unrank_of F k r
    same = word_of_index F n (unrank_of F k r) (unrank_monotone F k r)

    told : Accepted (index_of F n (unrank_of F k r)) → refused_if (ltb room k) 8 (gives (unrank_of F k r)) ≡ unpack_says (index_of F n (unrank_of F k r)) room
    told a =
        ap (λ (j : ℕ). refused_if (ltb room j) 8 (gives (unrank_of F k r))) (sym (ap length same ∙ unrank_long F k r))
        ∙ ap (λ (u : List ℕ). refused_if (ltb room (length (word_of (index_of F n (unrank_of F k r))))) 8 (gives u)) (sym same)
        ∙ sym (taken-accepted (index_of F n (unrank_of F k r)) (refused_if (ltb room (length (word_of (index_of F n (unrank_of F k r))))) 8 (gives (word_of (index_of F n (unrank_of F k r))))) a)

    by : (c : ℕ) → count_says F n k ≡ gives c → (t : Bool) → leb c r ≡ t → refused_if t 3 (refused_if (ltb room k) 8 (gives (unrank_of F k r)))
        ≡ and_then (refused_if t 3 (gives (index_of F n (unrank_of F k r)))) (λ x. unpack_says x room)
    by c e true q = refl
    by c e false q = told (unrank_accepted F n k c r e (leb-false c r q))

    on : (s : Says ℕ) → count_says F n k ≡ s → and_then s (λ c. refused_if (leb c r) 3 (refused_if (ltb room k) 8 (gives (unrank_of F k r))))
        ≡ and_then (and_then s (λ c. refused_if (leb c r) 3 (gives (index_of F n (unrank_of F k r))))) (λ x. unpack_says x room)
    on (refuses_with e p) q = refl
    on (gives c) q = by c q (leb c r) refl

-- c is the count, and r is below it
pub record Within (F : Family) (n k r : ℕ) : Type 0 where
  pub narrow : (n ≤ 64) × (k ≤ 64)
  pub fits : (shifted_alphabet F n k ≤ 64) × (r < entry (shifted_alphabet F n k) k)
  pub bits : bits_of (unrank_of Forbidden k r) ≡ bits_of (shifted F (unrank_of F k r))

pub unrank_bits : (F : Family) (n k c r : ℕ) → gives c ≡ count_says F n k → r < c → Within F n k r
unrank_bits F n k c r e h =
    let d : Counted F n k c = count_given F n k c (sym e) in
    let b : r < count F n k = omega (arith, d.is) in
    record {
      narrow = (omega (arith, d.alphabet, alphabet_least F n k), d.degree);
      fits = (d.alphabet, omega (arith, b, entry_is_choose (shifted_alphabet F n k) k));
      bits = ap bits_of (sym (shifted_unrank F n k r b));
    }
