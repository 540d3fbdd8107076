-- The texts of a line, found by its spaces. Assumes nothing.
--   texts_at    the text that begins at a place ends at the next space, and the others begin after it
--   no_texts_past    past the end there are none
--   some_text    up to the end there is one
use mathlib.Core.Bool.{Bool, true, false}
use mathlib.Core.Path.{◌≡◌, refl, ap, subst}
use mathlib.Core.List.{List, [], ◌∷◌}
use Prim.Native.Nat.{ℕ, zero, suc, ◌+◌, ◌-◌, ◌≤◌, ◌<◌}
use native.Mathlib.Nat.{le_of_suc-le-suc, sub-zero}
use native.Mathlib.Numerals.{unary_clauses}
use native.Mathlib.Omega.{arith}
use lib.Dec.{eqb}
use lib.ListN.{length, take, drop}
use borrow.Author.Tests.{eq-eqb, ne_eqb}
use Rattle.words.specs.Pick.{pick}
use Rattle.text.specs.Text.{Found}
use Rattle.requests.specs.Protocol.{onto, texts_of, texts_from}

-- a search past the first byte is a search of the others
found-tail : (b : ℕ) (s : List ℕ) (from r : ℕ) → Found (b ∷ s) (suc from) 32 (suc r) → Found s from 32 r
found-tail b s from r f =
    record {
      within = le_of_suc-le-suc f.within;
      after = omega (arith, f.after);
      none = λ k l g q. f.none (suc k) (omega arith) (omega arith) q;
      there = λ l. f.there (omega arith);
    }

-- and so is a search at the first byte that is no space
found_on : (b : ℕ) (s : List ℕ) (r : ℕ) → Found (b ∷ s) 0 32 (suc r) → Found s 0 32 r
found_on b s r f =
    record {
      within = le_of_suc-le-suc f.within;
      after = omega arith;
      none = λ k l g q. f.none (suc k) (omega arith) (omega arith) q;
      there = λ l. f.there (omega arith);
    }

first_text : (s : List ℕ) (r : ℕ) → Found s 0 32 r → texts_of s ≡ take r s ∷ texts_from s (suc r)
unfolding texts_of texts_from
first_text [] zero f = refl
first_text [] (suc r) f = absurd (omega (arith, f.within))
first_text (b ∷ s) zero f = simp (eq-eqb b 32 (f.there (omega arith)))
first_text (b ∷ s) (suc r) f =
    simp (ne_eqb b 32 (λ q. f.none 0 (omega arith) (omega arith) q)) (ap (onto b) (first_text s r (found_on b s r f)))

texts-suc : (s : List ℕ) (from r : ℕ) → from ≤ length s → from ≤ r → Found s from 32 r → texts_from s from ≡ take (r - from) (drop from s) ∷ texts_from s (suc r)
unfolding texts_from
texts-suc s zero r h l f = rw sub-zero (first_text s r f)
texts-suc [] (suc from) r h l f = absurd (omega arith)
texts-suc (b ∷ s) (suc from) zero h l f = absurd (omega arith)
texts-suc (b ∷ s) (suc from) (suc r) h l f = simp unary_clauses (texts-suc s from r (le_of_suc-le-suc h) (le_of_suc-le-suc l) (found-tail b s from r f))

pub texts_at : (s : List ℕ) (from r : ℕ) → from ≤ length s → Found s from 32 r → texts_from s from ≡ take (r - from) (drop from s) ∷ texts_from s (r + 1)
texts_at s from r h f =
    let e : suc r ≡ r + 1 = omega arith in
    subst (λ (k : ℕ). texts_from s from ≡ take (r - from) (drop from s) ∷ texts_from s k) e (texts-suc s from r h (omega (arith, f.after)) f)

pub no_texts_past : (s : List ℕ) (from : ℕ) → length s < from → texts_from s from ≡ []
unfolding texts_from
no_texts_past s zero h = absurd (omega arith)
no_texts_past [] (suc from) h = refl
no_texts_past (b ∷ s) (suc from) h = no_texts_past s from (le_of_suc-le-suc h)

pub some_text : (s : List ℕ) (from : ℕ) → from ≤ length s → 0 < length (texts_from s from)
unfolding texts_from texts_of
some_text [] zero h = omega arith
some_text (b ∷ s) zero h = go (eqb b 32) (texts_of s)
  where
    go : (t : Bool) (ts : List (List ℕ)) → 0 < length (pick t ([] ∷ ts) (onto b ts))
    go true ts = omega arith
    go false [] = omega arith
    go false (u ∷ us) = omega arith
some_text [] (suc from) h = absurd (omega arith)
some_text (b ∷ s) (suc from) h = some_text s from (le_of_suc-le-suc h)
