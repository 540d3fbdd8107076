-- However an image is cut, the verdict at the end is that of the whole (02, section 13). Assumes nothing.
--   Reached p l    the state p after the bytes l: it waits and holds the first 772 of them and their number, or it has a refusal that no further byte changes
--   start_reached, fed_reached    so it is before the first piece and after each
--   told_so_far    while more may come, the verdict is the refusal of all that has come where no further byte can change it, and open otherwise
--   open_says    at the end an open state says what the check says of its bytes
--   cut_anyhow    at the end the verdict on the pieces is that of the check of all of them joined
--   told-stays, closed-told, fed_after_end, end_after_end    after a refusal or the end, further pieces and a second end change nothing
use mathlib.Core.Path.{◌≡◌, refl, sym, ap, subst, ◌∙◌}
use mathlib.Core.Bool.{Bool, true, false}
use mathlib.Core.Logic.{◌⊎◌, inl, inr, ⊎_elim}
use mathlib.Core.List.{List, [], ◌∷◌, ◌++◌, append_assoc, append-nil}
use Prim.Native.Nat.{ℕ, ◌+◌, ◌-◌, ◌≤◌, ◌<◌}
use native.Mathlib.Omega.{arith}
use borrow.Author.Tests.{lt-ltb, le-ltb, ltb-true, ltb-false}
use lib.Dec.{ltb}
use lib.ListN.{length, get_or, take, drop, length-append, length-replicate, get_or-append}
use lib.Seq.{paste, paste-zero, length-paste, length-take-le, get_or-append-add, get_or-take}
use Rattle.words.specs.Pick.{pick}
use Rattle.answers.specs.Says.{Says, refuses_with, refuses_at, gives}
use Rattle.image_rules.specs.Image.{check_says}
use Rattle.image_rules.specs.Image.{image_says}
use Rattle.image_rules.proofs.Good.{tables_short}
use Rattle.image_rules.proofs.Local.{Same, check_same, check_later, check_over, Shape, good, bad, check_shape}
use Rattle.pieces.specs.declared.Verdict.{Verdict}
use Rattle.pieces.specs.declared.Verdict.TheVariants.{Open, Good, Bad}
use Rattle.pieces.specs.declared.Pieces.{Pieces}
use Rattle.pieces.specs.Pieces.{room, more, told, ended, start, taking, if_open, fed, closed, fed_all, joined, verdict_says}

pub record Waiting (p : Pieces) (l : List ℕ) : Type 0 where
  pub waits : p.verdict ≡ Open
  pub seen : p.seen ≡ length l
  pub low : length l ≤ 65536
  pub long : length p.bytes ≡ 772
  pub same : Same p.bytes l (length l)
  pub still : told (image_says l) (length l) ≡ Open

pub record Stopped (p : Pieces) (l : List ℕ) : Type 0 where
  pub at : ℕ
  pub below : at < length l
  pub is : p.verdict ≡ Bad at
  pub stays : (m : List ℕ) → image_says (l ++ m) ≡ refuses_at 11 at

abbrev pub Reached : Pieces → List ℕ → Type 0
Reached p l = Waiting p l ⊎ Stopped p l

pub start_reached : Reached start []
start_reached = inl (record { waits = refl; seen = refl; low = omega arith; long = length-replicate {A = ℕ} 772 0; same = λ j a b. absurd (omega arith); still = ap (λ (s : Says ℕ). told s 0) (tables_short [] 0 (omega arith)) })

-- ---- the bytes after one more piece

room_all : (at n : ℕ) (j : ℕ) → at ≤ j → j < 772 → j < at + n → j < at + room at n
room_all at n j a b d = go (ltb (772 - at) n) refl
  where
    go : (t : Bool) → ltb (772 - at) n ≡ t → j < at + pick t (772 - at) n
    go true e = omega arith
    go false e = omega arith

room_le : (at n : ℕ) → room at n ≤ n
room_le at n = go (ltb (772 - at) n) refl
  where
    go : (t : Bool) → ltb (772 - at) n ≡ t → pick t (772 - at) n ≤ n
    go true e = omega (arith, ltb-true (772 - at) n e)
    go false e = omega arith

room_below : (at n : ℕ) → at ≤ 772 → at + room at n ≤ 772
room_below at n h = go (ltb (772 - at) n) refl
  where
    go : (t : Bool) → ltb (772 - at) n ≡ t → at + pick t (772 - at) n ≤ 772
    go true e = omega arith
    go false e = omega (arith, ltb-false (772 - at) n e)

room-past : (at n : ℕ) → 772 < at → room at n ≡ 0
room-past at n h = go (ltb (772 - at) n) refl
  where
    go : (t : Bool) → ltb (772 - at) n ≡ t → pick t (772 - at) n ≡ 0
    go true e = omega arith
    go false e = omega (arith, ltb-false (772 - at) n e)

below_or : (a b : ℕ) → (a < b) ⊎ (b ≤ a)
below_or a b = go (ltb a b) refl
  where
    go : (t : Bool) → ltb a b ≡ t → (a < b) ⊎ (b ≤ a)
    go true e = inl (ltb-true a b e)
    go false e = inr (ltb-false a b e)

-- a pasted list by its places
paste_before : (d s : List ℕ) (at n j : ℕ) → at ≤ length d → j < at → get_or (paste d at s n) j 0 ≡ get_or d j 0
paste_before d s at n j h a =
    ap (λ (x : List ℕ). get_or x j 0) (append_assoc (take at d) (take n s) (drop (at + n) d))
    ∙ get_or-append (take at d) (take n s ++ drop (at + n) d) 0 j (omega (arith, length-take-le at d h)) ∙ get_or-take at d j 0 a

paste_in : (d s : List ℕ) (at n i : ℕ) → at ≤ length d → n ≤ length s → i < n → get_or (paste d at s n) (at + i) 0 ≡ get_or s i 0
paste_in d s at n i h g a =
    ap (λ (x : List ℕ). get_or x (at + i) 0) (append_assoc (take at d) (take n s) (drop (at + n) d))
    ∙ ap (λ (k : ℕ). get_or (take at d ++ (take n s ++ drop (at + n) d)) (k + i) 0) (sym (length-take-le at d h))
    ∙ get_or-append-add (take at d) (take n s ++ drop (at + n) d) i 0
    ∙ get_or-append (take n s) (drop (at + n) d) 0 i (omega (arith, length-take-le n s g))
    ∙ get_or-take n s i 0 a

module _ (b l s : List ℕ) (h : length b ≡ 772) (same : Same b l (length l)) where
  pasted : List ℕ
  pasted = paste b (length l) s (room (length l) (length s))

  pasted-long : length pasted ≡ 772
  unfolding pasted
  pasted-long =
      ⊎_elim
      (λ (q : length l < 773). length-paste b (length l) s (room (length l) (length s)) (omega (arith, room_below (length l) (length s) (omega arith))) (room_le (length l) (length s)) ∙ h)
      (λ (q : 773 ≤ length l). ap (λ (n : ℕ). length (paste b (length l) s n)) (room-past (length l) (length s) (omega arith)) ∙ ap length (sym (paste-zero b (length l) s)) ∙ h)
      (below_or (length l) 773)

  pasted-same : Same pasted (l ++ s) (length (l ++ s))
  unfolding pasted
  pasted-same j a c =
      let n : length (l ++ s) ≡ length l + length s = length-append l s in
      ⊎_elim
      (λ (q : j < length l). old q (below_or (length l) 773) ∙ same j q c ∙ sym (get_or-append l s 0 j q))
      (λ (q : length l ≤ j).
      let e : length l + (j - length l) ≡ j = omega arith in
      let r : j < length l + room (length l) (length s) = room_all (length l) (length s) j q c (omega arith) in
      subst (λ (k : ℕ). get_or pasted k 0 ≡ get_or (l ++ s) k 0) e
      (paste_in b s (length l) (room (length l) (length s)) (j - length l) (omega arith) (room_le (length l) (length s)) (omega arith) ∙ sym (get_or-append-add l s (j - length l) 0)))
      (below_or j (length l))
    where
      old : j < length l → (length l < 773) ⊎ (773 ≤ length l) → get_or (paste b (length l) s (room (length l) (length s))) j 0 ≡ get_or b j 0
      old q (inl x) = paste_before b s (length l) (room (length l) (length s)) j (omega arith) q
      old q (inr x) = ap (λ (n : ℕ). get_or (paste b (length l) s n) j 0) (room-past (length l) (length s) (omega arith)) ∙ ap (λ (y : List ℕ). get_or y j 0) (sym (paste-zero b (length l) s))

  -- a refusal inside the bytes that are there stays
  stays_of : (n off : ℕ) → n ≤ length (l ++ s) → off < n → check_says pasted n ≡ refuses_at 11 off → (m : List ℕ) → image_says ((l ++ s) ++ m) ≡ refuses_at 11 off
  stays_of n off a o e m =
      check_later pasted ((l ++ s) ++ m) n (length ((l ++ s) ++ m)) off (λ j x y. pasted-same j (omega arith) y ∙ sym (get_or-append (l ++ s) m 0 j (omega arith)))
      (omega (arith, length-append (l ++ s) m)) o e

  -- the state after the piece
  taken-within : length (l ++ s) ≤ 65536 → Reached (taking pasted (length (l ++ s))) (l ++ s)
  taken-within g = by (check_shape pasted (length (l ++ s)))
    where
      n : ℕ
      n = length (l ++ s)

      waiting : told (check_says pasted (length (l ++ s))) (length (l ++ s)) ≡ Open → Reached (taking pasted (length (l ++ s))) (l ++ s)
      waiting o =
          inl (record {
            waits = o;
            seen = refl;
            low = g;
            long = pasted-long;
            same = pasted-same;
            still = ap (λ (x : Says ℕ). told x (length (l ++ s))) (sym (check_same pasted (l ++ s) (length (l ++ s)) pasted-same)) ∙ o;
          })

      by : Shape (check_says pasted (length (l ++ s))) → Reached (taking pasted (length (l ++ s))) (l ++ s)
      by (good t e) = waiting (ap (λ (x : Says ℕ). told x (length (l ++ s))) e)
      by (bad off e) = on (ltb off (length (l ++ s))) refl
        where
          on : (b : Bool) → ltb off (length (l ++ s)) ≡ b → Reached (taking pasted (length (l ++ s))) (l ++ s)
          on true q =
              inr (record {
                at = off;
                below = ltb-true off (length (l ++ s)) q;
                is = ap (λ (x : Says ℕ). told x (length (l ++ s))) e ∙ ap (λ (b : Bool). pick b (Bad off) Open) q;
                stays = stays_of (length (l ++ s)) off (omega arith) (ltb-true off (length (l ++ s)) q) e;
              })
          on false q = waiting (ap (λ (x : Says ℕ). told x (length (l ++ s))) e ∙ ap (λ (b : Bool). pick b (Bad off) Open) q)

  taken-over : 65536 < length (l ++ s) → Reached (taking pasted 65537) (l ++ s)
  taken-over g =
      let c = check_over pasted 65537 (omega arith) in
      inr (record {
        at = c.0;
        below = omega (arith, c.1);
        is = ap (λ (x : Says ℕ). told x 65537) c.2 ∙ ap (λ (b : Bool). pick b (Bad c.0) Open) (lt-ltb c.0 65537 c.1);
        stays = stays_of 65537 c.0 (omega arith) c.1 c.2;
      })

  taken-reached : Reached (taking pasted (more (length l) (length s))) (l ++ s)
  taken-reached =
      let n : length (l ++ s) ≡ length l + length s = length-append l s in
      ⊎_elim
      (λ (q : 65536 < length l + length s). subst (λ (k : ℕ). Reached (taking pasted k) (l ++ s)) (sym (ap (λ (b : Bool). pick b 65537 (length l + length s)) (lt-ltb 65536 (length l + length s) q))) (taken-over (omega arith)))
      (λ (q : length l + length s ≤ 65536).
      subst (λ (k : ℕ). Reached (taking pasted k) (l ++ s)) (n ∙ sym (ap (λ (b : Bool). pick b 65537 (length l + length s)) (le-ltb 65536 (length l + length s) q))) (taken-within (omega arith)))
      (below_or 65536 (length l + length s))

-- ---- pieces

open_fed : (p : Pieces) (s : List ℕ) → p.verdict ≡ Open → fed p s ≡ taking (paste p.bytes p.seen s (room p.seen (length s))) (more p.seen (length s))
open_fed p s e = ap (λ (v : Verdict). if_open v p (taking (paste p.bytes p.seen s (room p.seen (length s))) (more p.seen (length s)))) e

pub told-stays : (p : Pieces) (at : ℕ) (s : List ℕ) → p.verdict ≡ Bad at → fed p s ≡ p
told-stays p at s e = ap (λ (v : Verdict). if_open v p (taking (paste p.bytes p.seen s (room p.seen (length s))) (more p.seen (length s)))) e

pub fed_reached : (p : Pieces) (l s : List ℕ) → Reached p l → Reached (fed p s) (l ++ s)
unfolding pasted
fed_reached p l s (inl w) =
    subst (λ (q : Pieces). Reached q (l ++ s))
    (sym (open_fed p s w.waits ∙ ap (λ (n : ℕ). taking (paste p.bytes n s (room n (length s))) (more n (length s))) w.seen))
    (taken-reached p.bytes l s w.long w.same)
fed_reached p l s (inr w) =
    inr (record {
      at = w.at;
      below = omega (arith, w.below, length-append l s);
      is = ap (λ (q : Pieces). q.verdict) (told-stays p w.at s w.is) ∙ w.is;
      stays = λ m. ap image_says (append_assoc l s m) ∙ w.stays (s ++ m);
    })

all_reached : (p : Pieces) (l : List ℕ) (ss : List (List ℕ)) → Reached p l → Reached (fed_all p ss) (l ++ joined ss)
unfolding fed_all joined
all_reached p l [] r = subst (λ (m : List ℕ). Reached p m) (sym (append-nil l)) r
all_reached p l (s ∷ ss) r = subst (λ (m : List ℕ). Reached (fed_all (fed p s) ss) m) (append_assoc l s (joined ss)) (all_reached (fed p s) (l ++ s) ss (fed_reached p l s r))

-- the verdict so far is that of the check of all that has come, as far as it cannot change any more
pub told_so_far : (ss : List (List ℕ)) → (fed_all start ss).verdict ≡ told (image_says (joined ss)) (length (joined ss))
told_so_far ss = go (all_reached start [] ss start_reached)
  where
    go : Reached (fed_all start ss) (joined ss) → (fed_all start ss).verdict ≡ told (image_says (joined ss)) (length (joined ss))
    go (inl w) = w.waits ∙ sym w.still
    go (inr w) =
        w.is
        ∙ sym (ap (λ (s : Says ℕ). told s (length (joined ss))) (ap image_says (sym (append-nil (joined ss))) ∙ w.stays [])
        ∙ ap (λ (b : Bool). pick b (Bad w.at) Open) (lt-ltb w.at (length (joined ss)) w.below))

-- ---- the end

ended-says : (s : Says ℕ) → Shape s → verdict_says (ended s) ≡ s
ended-says s (good t e) = ap (λ (x : Says ℕ). verdict_says (ended x)) e ∙ sym e
ended-says s (bad off e) = ap (λ (x : Says ℕ). verdict_says (ended x)) e ∙ sym e

closed_open : (p : Pieces) → p.verdict ≡ Open → (closed p).verdict ≡ ended (check_says p.bytes p.seen)
closed_open p e = ap (λ (v : Verdict). (if_open v p (record { bytes = p.bytes; seen = p.seen; verdict = ended (check_says p.bytes p.seen) })).verdict) e

pub open_says : (p : Pieces) → p.verdict ≡ Open → verdict_says (closed p).verdict ≡ check_says p.bytes p.seen
open_says p e = ap verdict_says (closed_open p e) ∙ ended-says (check_says p.bytes p.seen) (check_shape p.bytes p.seen)

pub closed-told : (p : Pieces) (at : ℕ) → p.verdict ≡ Bad at → closed p ≡ p
closed-told p at e = ap (λ (v : Verdict). if_open v p (record { bytes = p.bytes; seen = p.seen; verdict = ended (check_says p.bytes p.seen) })) e

pub closed-says : (p : Pieces) (l : List ℕ) → Reached p l → verdict_says (closed p).verdict ≡ image_says l
closed-says p l (inl w) =
    open_says p w.waits ∙ ap (check_says p.bytes) w.seen ∙ check_same p.bytes l (length l) w.same
closed-says p l (inr w) =
    ap (λ (q : Pieces). verdict_says q.verdict) (closed-told p w.at w.is) ∙ ap verdict_says w.is ∙ sym (ap image_says (sym (append-nil l)) ∙ w.stays [])

pub cut_anyhow : (ss : List (List ℕ)) → verdict_says (closed (fed_all start ss)).verdict ≡ image_says (joined ss)
cut_anyhow ss = closed-says (fed_all start ss) (joined ss) (all_reached start [] ss start_reached)

-- ---- after the end

ended-stays : (s : Says ℕ) (p q : Pieces) → p.verdict ≡ ended s → if_open p.verdict p q ≡ p
ended-stays (gives t) p q e = ap (λ (v : Verdict). if_open v p q) e
ended-stays (refuses_with d c) p q e = ap (λ (v : Verdict). if_open v p q) e

pub end_stays : (p : Pieces) (q : Pieces) → if_open (closed p).verdict (closed p) q ≡ closed p
end_stays p q = go p.verdict refl
  where
    go : (v : Verdict) → p.verdict ≡ v → if_open (closed p).verdict (closed p) q ≡ closed p
    go Open e = ended-stays (check_says p.bytes p.seen) (closed p) q (closed_open p e)
    go (Good t) e = ap (λ (v : Verdict). if_open v (closed p) q) (ap (λ (v : Verdict). (if_open v p (record { bytes = p.bytes; seen = p.seen; verdict = ended (check_says p.bytes p.seen) })).verdict) e ∙ e)
    go (Bad at) e = ap (λ (v : Verdict). if_open v (closed p) q) (ap (λ (v : Verdict). (if_open v p (record { bytes = p.bytes; seen = p.seen; verdict = ended (check_says p.bytes p.seen) })).verdict) e ∙ e)

pub fed_after_end : (p : Pieces) (s : List ℕ) → fed (closed p) s ≡ closed p
fed_after_end p s = end_stays p (taking (paste (closed p).bytes (closed p).seen s (room (closed p).seen (length s))) (more (closed p).seen (length s)))

pub end_after_end : (p : Pieces) → closed (closed p) ≡ closed p
end_after_end p = end_stays p (record { bytes = (closed p).bytes; seen = (closed p).seen; verdict = ended (check_says (closed p).bytes (closed p).seen) })
