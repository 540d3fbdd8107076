-- How a line opens: `room` and a number where it has them, and the verb. Assumes nothing.
--   verb-is, no-verb    a text is a verb, unless it is `room`
--   no_number_past, no-verb-after, no_number    a line that ends at `room`, or after the number, or has none there, does not open
--   number-then-verb    the number and the verb after it
--   opens-with-room, opens-with-verb    a line whose first text is `room`, and another
use Rattle.std.specs.Prelude.{Option, Some, None}
use mathlib.Core.Path.{◌≡◌, refl, sym, ap, subst, ◌∙◌}
use mathlib.Core.List.{List, [], ◌∷◌}
use Prim.Native.Nat.{ℕ, ◌+◌, ◌-◌, ◌^◌, ◌≤◌, ◌<◌}
use native.Mathlib.Omega.{arith}
use lib.ListN.{length, take, drop}
use Rattle.text.specs.Text.{Found}
use Rattle.text.specs.Numeral.{Numeral, Reads}
use Rattle.requests.specs.Protocol.{texts_of, texts_from, Lent, enough, places, room_name, Opens}
use Rattle.requests.specs.Parts.{BeginsAt, Begins, VerbIs, VerbAt, AfterRoom}
use Rattle.requests.proofs.Texts.{texts_at, no_texts_past}
use Rattle.requests.specs.declared.Verb.{Verb}

-- an empty list has no first text
none_first : {A : Type 0} (t : A) (ts : List A) → ◌≡◌ {A = List A} [] (t ∷ ts) → ⊥
none_first t ts e = let z : ◌≡◌ {A = ℕ} 0 1 = cc in omega arith

module _ (line : List ℕ) (from end : ℕ) (h : from ≤ length line) (f : Found line from 32 end) where
  abbrev first : List ℕ
  first = take (end - from) (drop from line)

  first-is : (t : List ℕ) (ts : List (List ℕ)) → texts_from line from ≡ t ∷ ts → t ≡ first
  first-is t ts e = let q = texts_at line from end h f in cc

  others-are : (t : List ℕ) (ts : List (List ℕ)) → texts_from line from ≡ t ∷ ts → texts_from line (end + 1) ≡ ts
  others-are t ts e = let q = texts_at line from end h f in cc

  pub verb-is : (first ≡ room_name → ⊥) → VerbIs line from end
  verb-is d = record { texts = texts_at line from end h f; once = d; ordered = omega (arith, f.after); within = f.within }

  pub no-verb : first ≡ room_name → (room : ℕ) → VerbAt line room from None
  no-verb e room verb rest q d = d (first-is verb rest q ∙ e)

  pub no-verb-after : end ≡ length line → AfterRoom line from None
  no-verb-after e numeral verb rest n q w g d =
      none_first verb rest (sym (no_texts_past line (end + 1) (omega arith)) ∙ others-are numeral (verb ∷ rest) q)

  pub no_number : (r : Option ℕ) → r ≡ None → Reads first r → AfterRoom line from None
  no_number r e o numeral verb rest n q w g d =
      subst (Reads first) e o n g (subst (λ (t : List ℕ). Numeral t n) (first-is numeral (verb ∷ rest) q) w)

  pub number-then-verb : (x : Option ℕ) (room : ℕ) (r : Option Verb) → x ≡ Some room → Reads first x → VerbAt line room (end + 1) r → AfterRoom line from r
  number-then-verb x room (Some w) e o v =
      let says = subst (Reads first) e o in
      record {
        numeral = first;
        texts = texts_at line from end h f ∙ ap (λ (k : ℕ). first ∷ texts_from line k) (sym v.1.0);
        writes = subst (Numeral first) (sym v.0) says.0;
        fits = subst (λ (n : ℕ). n < 2 ^ 64) (sym v.0) says.1;
        verb = v.1.1;
      }
  number-then-verb x room None e o v = λ numeral verb rest n q w g d. v verb rest (others-are numeral (verb ∷ rest) q) d

pub no_number_past : (line : List ℕ) (from : ℕ) → length line < from → AfterRoom line from None
no_number_past line from h numeral verb rest n q w g d = none_first numeral (verb ∷ rest) (sym (no_texts_past line from h) ∙ q)

-- ---- the first text of a line

module _ (line : List ℕ) (end : ℕ) (short : length line ≤ 262144) (f : Found line 0 32 end) where
  first_text : texts_of line ≡ take (end - 0) line ∷ texts_from line (end + 1)
  unfolding texts_from
  first_text = texts_at line 0 end (omega arith) f

  pub opens-with-room : (r : Option Verb) → take (end - 0) line ≡ room_name → AfterRoom line (end + 1) r → Begins line r
  opens-with-room (Some v) e a =
      record {
        lent = places v.room;
        room_is = refl;
        opens = record {
          short = short;
          lends = record { numeral = a.numeral; whole = let q = a.texts in let v = a.verb.texts in let t = first_text in cc; writes = a.writes; fits = a.fits };
          once = a.verb.once;
        };
        ordered = a.verb.ordered;
        within = a.verb.within;
      }
  opens-with-room None e a = λ lent verb rest o. bad lent verb rest o
    where
      bad : (lent : Lent) (verb : List ℕ) (rest : List (List ℕ)) → Opens line lent verb rest → ⊥
      bad enough verb rest o = o.once (let t = first_text in let q = o.lends in cc)
      bad (places n) verb rest o =
          let p = o.lends in
          a p.numeral verb rest n (let t = first_text in let q = p.whole in cc) p.writes p.fits o.once

  pub opens-with-verb : (take (end - 0) line ≡ room_name → ⊥) → BeginsAt line (2 ^ 64 - 1) 0 end
  opens-with-verb d =
      record { lent = enough; room_is = refl; opens = record { short = short; lends = first_text; once = d }; ordered = omega arith; within = f.within }
