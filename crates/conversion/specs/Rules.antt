-- What the converter answers (02 §11), for all inputs: its checks in order, and then the value. Assumes nothing.
--   place_of back F n k r    the place that the entry at place r comes from: `lex_of` to the new order, `colex_of` back to the old
--   converted back F n k l    the entries of l in the other order: `new_body`, or `old_body`
--   convert_says back F n k l room    the count's refusal; 8 unless both buffers have exactly the count of 8-byte entries; the converted body
--   place_in colex c q later    the place of a set of c that has the colex rank q and later sets that stand lexicographically later: in colex order, or in lexicographic order
--   Exact F n k c l m    what the writing of it needs: both buffers have the count of entries
use Rattle.std.specs.Prelude.{◌≡◌, ℕ, ◌-◌, ◌*◌, ◌≤◌, Bool, true, false, not, List, length, ◌==◌}
use Rattle.words.specs.declared.Family.{Family}
use Rattle.words.specs.Pick.{pick}
use Rattle.words.specs.Word.{shifted_alphabet, count}
use Rattle.answers.specs.Says.{Says, gives, refused_if, and_then}
use Rattle.monotone_count.specs.Rules.{count_says}
use Rattle.lexicographic.specs.Entries.{rearranged}
use Rattle.lexicographic.specs.Bodies.{lex_of, colex_of}

abbrev pub place_of : Bool → Family → ℕ → ℕ → ℕ → ℕ
place_of false = lex_of
place_of true = colex_of

abbrev pub converted : Bool → Family → ℕ → ℕ → List ℕ → List ℕ
converted back F n k l = rearranged (place_of back F n k) (count F n k) l

abbrev pub convert_says : Bool → Family → ℕ → ℕ → List ℕ → ℕ → Says (List ℕ)
convert_says back F n k l room =
    and_then (count_says F n k) (λ c. refused_if (not (length l == 8 * c)) 8 (refused_if (not (room == 8 * c)) 8 (gives (converted back F n k l))))

abbrev pub place_in : Bool → ℕ → ℕ → ℕ → ℕ
place_in colex c q later = pick colex q (c - 1 - later)

pub record Exact (F : Family) (n k c : ℕ) (l m : List ℕ) : Type 0 where
  pub degree : k ≤ 64
  pub narrow : shifted_alphabet F n k ≤ 64
  pub size : c ≡ count F n k
  pub given : length l ≡ 8 * c
  pub lent : length m ≡ 8 * c
