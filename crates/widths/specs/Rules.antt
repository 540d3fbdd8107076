-- The rules of terms over the number of bits: w is how many bits an index has, 64 or 128, and t the greatest shifted symbol, 63 or 127. The rules of both widths are these,
-- read at their numbers. Assumes nothing.
--   word_in F a    the word whose shifted symbols are the set a
--   count_in w F n k    1 if k or the shifted alphabet is above w; the count
--   held_says x    9 if x is 2 ^ 64 or more; x (02, §9: "refuses 9, last, if its rank is 2^64 or more, judged exactly")
--   checked_in t F u s    the checks of a given word: 1 if its length is above t + 1; 2, with the position where it breaks its rule; 1 if its last shifted symbol is above t; otherwise s
--   widest_in w F k    the alphabet whose shifted alphabet is w
--   next_bits F a    the set of the next word
--   successor_in w F a    4 if the word is empty or the next one has no room in w bits; the set of the next word
--   bits_says_in t F u    1 if the last shifted symbol of u is above t; the set of its shifted symbols
--   Gap    a sign, a symbol and the set of what is left
--   delete_in F a p    7 if the word has no position p; the sign, the symbol there, and the set of the word without it
use Rattle.std.specs.Prelude.{not, List, ℕ, zero, suc, ◌-◌, ◌^◌, leb, ltb, eqb, length, get_or}
use Rattle.words.specs.declared.Family.{Family}
use Rattle.words.specs.declared.Family.TheVariants.{Forbidden, Allowed}
use Rattle.words.specs.Word.{shifted, unshifted, shifted_alphabet, count}
use Rattle.words.specs.Next.{next}
use Rattle.words.specs.Bits.{bits_of, set_bits}
use Rattle.words.specs.Without.{without}
use Rattle.answers.specs.declared.Sign.{Sign}
use Rattle.answers.specs.Says.{Says, gives, refused_if, refused_at_if}
use Rattle.answers.specs.Signs.{sign_in}
use Rattle.packing.specs.Checks.{rises, break_at, last_shifted}

abbrev pub word_in : Family → ℕ → List ℕ
word_in F a = unshifted F (set_bits a)

-- ---- counting, ranking, unranking

abbrev pub count_in : ℕ → Family → ℕ → ℕ → Says ℕ
count_in w F n k = refused_if (ltb w k) 1 (refused_if (ltb w (shifted_alphabet F n k)) 1 (gives (count F n k)))

abbrev pub held_says : ℕ → Says ℕ
held_says x = refused_if (leb (2 ^ 64) x) 9 (gives x)

abbrev pub checked_in : {A : Type 0} → ℕ → Family → List ℕ → Says A → Says A
checked_in t F u s = refused_if (ltb (suc t) (length u)) 1 (refused_at_if (not (rises F u)) 2 (break_at F u) (refused_if (ltb t (last_shifted F u)) 1 s))

abbrev pub widest_in : ℕ → Family → ℕ → ℕ
widest_in w Forbidden k = w
widest_in w Allowed zero = w
widest_in w Allowed (suc k) = w - k

-- ---- the next term

abbrev pub next_bits : Family → ℕ → ℕ
next_bits F a = bits_of (shifted F (next F (word_in F a)))

abbrev pub successor_in : ℕ → Family → ℕ → Says ℕ
successor_in w F a = refused_if (eqb (length (word_in F a)) 0) 4 (refused_if (leb (2 ^ w) (next_bits F a)) 4 (gives (next_bits F a)))

-- ---- merging and deletion

abbrev pub bits_says_in : ℕ → Family → List ℕ → Says ℕ
bits_says_in t F u = refused_if (ltb t (last_shifted F u)) 1 (gives (bits_of (shifted F u)))

pub record Gap : Type 0 where
  pub sign : Sign
  pub symbol : ℕ
  pub bits : ℕ

abbrev pub delete_in : Family → ℕ → ℕ → Says Gap
delete_in F a p =
    refused_if (leb (length (word_in F a)) p) 7
    (gives (record { sign = sign_in F p; symbol = get_or (word_in F a) p 0; bits = bits_of (shifted F (without p (word_in F a))) }))
