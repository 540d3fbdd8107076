-- Converting and returning, over what the converter says (02, section 11). Assumes nothing.
--   Converts back F n k l room m    what an answer m tells: the count answers, both buffers have its entries, and m is the converted body
--   convert_given    so it does
--   converting_and_returning    what was converted, either way, and is converted the other way into a buffer as long as it had, is the same bytes
use Rattle.std.proofs.Common.{◌≡◌, ℕ, ◌*◌, Bool, true, false, not, eqb, List, length, sym, ap, ◌∙◌, eq-eqb, eqb-true}
use borrow.Author.Tests.{not-false}
use Rattle.words.specs.declared.Family.{Family}
use Rattle.words.specs.Word.{count}
use Rattle.answers.specs.Says.{gives, refused_if}
use Rattle.answers.proofs.Says.{gives_same, passed, then_gave}
use Rattle.monotone_count.specs.Rules.{count_says}
use Rattle.monotone_count.proofs.Rules.{Counted, count_given}
use Rattle.lexicographic.specs.Bodies.{new_body, old_body}
use Rattle.lexicographic.proofs.Bodies.{new-body-long, old-body-long, there_and_back, back-and-there}
use Rattle.conversion.specs.Rules.{converted, convert_says}
use Rattle.conversion.proofs.Writing.{convert_gives}

pub record Converts (back : Bool) (F : Family) (n k : ℕ) (l : List ℕ) (room : ℕ) (m : List ℕ) : Type 0 where
  pub counted : count_says F n k ≡ gives (count F n k)
  pub given : length l ≡ 8 * count F n k
  pub lent : room ≡ 8 * count F n k
  pub is : m ≡ converted back F n k l

pub convert_given : (back : Bool) (F : Family) (n k : ℕ) (l : List ℕ) (room : ℕ) (m : List ℕ) → convert_says back F n k l room ≡ gives m
    → Converts back F n k l room m
convert_given back F n k l room m e =
    go (then_gave (count_says F n k) (λ c. refused_if (not (eqb (length l) (8 * c))) 8 (refused_if (not (eqb room (8 * c))) 8 (gives (converted back F n k l)))) m e)
  where
    go : (c : ℕ) × (count_says F n k ≡ gives c) × (refused_if (not (eqb (length l) (8 * c))) 8 (refused_if (not (eqb room (8 * c))) 8 (gives (converted back F n k l))) ≡ gives m)
        → Converts back F n k l room m
    go t =
        let c : ℕ = t.0 in
        let p = passed (not (eqb (length l) (8 * c))) 8 (refused_if (not (eqb room (8 * c))) 8 (gives (converted back F n k l))) m t.2 in
        let q = passed (not (eqb room (8 * c))) 8 (gives (converted back F n k l)) m p.1 in
        let d : Counted F n k c = count_given F n k c t.1 in
        let size : 8 * c ≡ 8 * count F n k = ap (λ (i : ℕ). 8 * i) d.is in
        record {
          counted = t.1 ∙ ap gives d.is;
          given = eqb-true (length l) (8 * c) (not-false (eqb (length l) (8 * c)) p.0) ∙ size;
          lent = eqb-true room (8 * c) (not-false (eqb room (8 * c)) q.0) ∙ size;
          is = sym (gives_same (converted back F n k l) m q.1);
        }

pub converting_and_returning : (back : Bool) (F : Family) (n k : ℕ) (l m : List ℕ) (room : ℕ) → convert_says back F n k l room ≡ gives m
    → convert_says (not back) F n k m (length l) ≡ gives l
converting_and_returning back F n k l m room e =
    convert_gives (not back) F n k m (length l) (count F n k) x.counted (eq-eqb (length m) (8 * count F n k) (long back x.is)) (eq-eqb (length l) (8 * count F n k) x.given)
    ∙ ap gives (same back x.is)
  where
    x : Converts back F n k l room m
    x = convert_given back F n k l room m e

    long : (way : Bool) → m ≡ converted way F n k l → length m ≡ 8 * count F n k
    long false s = ap length s ∙ new-body-long F n k l x.given ∙ x.given
    long true s = ap length s ∙ old-body-long F n k l x.given ∙ x.given

    same : (way : Bool) → m ≡ converted way F n k l → converted (not way) F n k m ≡ l
    same false s = ap (old_body F n k) s ∙ there_and_back F n k l x.given
    same true s = ap (new_body F n k) s ∙ back-and-there F n k l x.given
