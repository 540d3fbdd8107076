-- The mirrored word. Assumes nothing.
--   mirror_long, mirror_at    it is as long, and its symbol at j is what the symbol as far from the other end leaves of n - 1
--   mirror_below, mirror-monotone, mirror-word    it is a word of the same family over n
--   mirror-mirror    mirrored twice, a word over n is itself again
--   lex_mirrored, colex_mirrored    mirroring turns the lexicographic order into the colexicographic one, and round
--   mirror-shifted    mirroring over n, then shifting, is shifting, then mirroring over the shifted alphabet
use mathlib.Core.Path.{◌≡◌, refl, sym, ap, subst, ◌∙◌}
use mathlib.Core.Logic.{◌⊎◌, inl, inr}
use mathlib.Core.List.{List, [], ◌∷◌, ◌++◌}
use Prim.Native.Nat.{ℕ, zero, suc, ◌+◌, ◌-◌, ◌≤◌, ◌<◌}
use native.Mathlib.Nat.{not-suc-le-zero, le_of_suc-le-suc}
use native.Mathlib.Decide.{dec_lt}
use native.Mathlib.Omega.{arith}
use lib.ListN.{length, get_or, length-append, get_or-append, get_or-eq_default}
use lib.Seq.{get_or_at, ext_get_or}
use Rattle.words.specs.declared.Family.{Family}
use Rattle.words.specs.declared.Family.TheVariants.{Forbidden, Allowed}
use Rattle.words.specs.Word.{Step, Monotone, Below, Word, shift, shifted, shifted_alphabet}
use Rattle.words.specs.Colex.{ColexLt}
use Rattle.words.proofs.Word.{alphabet_some}
use Rattle.words.proofs.Positions.{below_at, monotone_at}
use Rattle.words.proofs.Shifted.{shifted_long, shifted_at}
use Rattle.lexicographic.specs.Order.{LexLt, mirror}

pub mirror_long : (n : ℕ) (w : List ℕ) → length (mirror n w) ≡ length w
unfolding mirror
mirror_long n [] = refl
mirror_long n (x ∷ xs) = omega (arith, length-append (mirror n xs) ((n - suc x) ∷ []), mirror_long n xs)

-- i and j are as far from the two ends
pub mirror_at : (n : ℕ) (w : List ℕ) (i j : ℕ) → suc (i + j) ≡ length w → get_or (mirror n w) j 0 ≡ n - suc (get_or w i 0)
unfolding mirror
mirror_at n [] i j e = absurd (omega arith)
mirror_at n (x ∷ xs) zero j e = get_or_at (mirror n xs) (n - suc x) [] 0 j (omega (arith, mirror_long n xs))
mirror_at n (x ∷ xs) (suc i) j e =
    get_or-append (mirror n xs) ((n - suc x) ∷ []) 0 j (omega (arith, mirror_long n xs)) ∙ mirror_at n xs i j (omega arith)

-- the symbol at j, with its counterpart named by a difference
mirror_get_d : (n : ℕ) (w : List ℕ) (j : ℕ) → j < length w → get_or (mirror n w) j 0 ≡ n - suc (get_or w (length w - suc j) 0)
mirror_get_d n w j h = mirror_at n w (length w - suc j) j (omega arith)

pub mirror_below : (n : ℕ) (w : List ℕ) → Below n w → Below n (mirror n w)
mirror_below n w b = (below_at n (mirror n w)).1 (λ j h. at j (subst (λ (m : ℕ). j < m) (mirror_long n w) h))
  where
    at : (j : ℕ) → j < length w → get_or (mirror n w) j 0 < n
    at j h = omega (arith, mirror_get_d n w j h, (below_at n w).0 b (length w - suc j) (omega arith))

turned : (F : Family) (n : ℕ) {x y : ℕ} → x < n → y < n → Step F x y → Step F (n - suc y) (n - suc x)
turned Forbidden n h l s = omega arith
turned Allowed n h l s = omega arith

pub mirror-monotone : (F : Family) (n : ℕ) (w : List ℕ) → Below n w → Monotone F w → Monotone F (mirror n w)
mirror-monotone F n w b m = (monotone_at F (mirror n w)).1 (λ j h. at j (subst (λ (l : ℕ). suc j < l) (mirror_long n w) h))
  where
    at : (j : ℕ) → suc j < length w → Step F (get_or (mirror n w) j 0) (get_or (mirror n w) (suc j) 0)
    at j h =
        let i : ℕ = length w - suc (suc j) in
        rw (mirror_at n w (suc i) j (omega arith), mirror_at n w i (suc j) (omega arith))
        (turned F n ((below_at n w).0 b i (omega arith)) ((below_at n w).0 b (suc i) (omega arith)) ((monotone_at F w).0 m i (omega arith)))

pub mirror-word : (F : Family) (n k : ℕ) (w : List ℕ) → Word F n k w → Word F n k (mirror n w)
mirror-word F n k w h =
    record { long = mirror_long n w ∙ h.long; monotone = mirror-monotone F n w h.below h.monotone; below = mirror_below n w h.below }

pub mirror-mirror : (n : ℕ) (w : List ℕ) → Below n w → mirror n (mirror n w) ≡ w
mirror-mirror n w b =
    ext_get_or 0 (mirror n (mirror n w)) w (mirror_long n (mirror n w) ∙ mirror_long n w)
    (λ j h. at j (subst (λ (l : ℕ). j < l) (mirror_long n (mirror n w) ∙ mirror_long n w) h))
  where
    at : (j : ℕ) → j < length w → get_or (mirror n (mirror n w)) j 0 ≡ get_or w j 0
    at j h =
        let i : ℕ = length w - suc j in
        omega (arith, mirror_at n (mirror n w) i j (omega (arith, mirror_long n w)), mirror_at n w j i (omega arith), (below_at n w).0 b j h)

-- ---- the order

pub lex_mirrored : (n : ℕ) (u v : List ℕ) → Below n u → Below n v → LexLt u v → ColexLt (mirror n v) (mirror n u)
lex_mirrored n u v b d c =
    let q : ℕ = length u - suc c.place in
    record {
      same_length = mirror_long n v ∙ sym c.same_length ∙ sym (mirror_long n u);
      place = q;
      within = omega (arith, mirror_long n v, c.same_length, c.within);
      smaller = omega (
        arith,
        c.smaller,
        c.same_length,
        mirror_at n u c.place q (omega (arith, c.within)),
        mirror_at n v c.place q (omega (arith, c.within, c.same_length)),
        (below_at n v).0 d c.place (omega (arith, c.within, c.same_length)),
      );
      above = above;
    }
  where
    above : (j : ℕ) → length u - suc c.place < j → get_or (mirror n v) j 0 ≡ get_or (mirror n u) j 0
    above j h = go (dec_lt j (length u))
      where
        go : Dec (j < length u) → get_or (mirror n v) j 0 ≡ get_or (mirror n u) j 0
        go (yes l) =
            let i : ℕ = length u - suc j in
            mirror_at n v i j (omega (arith, c.same_length)) ∙ ap (λ (x : ℕ). n - suc x) (sym (c.below i (omega (arith, c.within)))) ∙ sym (mirror_at n u i j (omega arith))
        go (no l) =
            get_or-eq_default (mirror n v) 0 (omega (arith, mirror_long n v, c.same_length)) ∙ sym (get_or-eq_default (mirror n u) 0 (omega (arith, mirror_long n u)))

pub colex_mirrored : (n : ℕ) (u v : List ℕ) → Below n u → Below n v → ColexLt u v → LexLt (mirror n v) (mirror n u)
colex_mirrored n u v b d c =
    let q : ℕ = length u - suc c.place in
    record {
      same_length = mirror_long n v ∙ sym c.same_length ∙ sym (mirror_long n u);
      place = q;
      within = omega (arith, mirror_long n v, c.same_length, c.within);
      smaller = omega (
        arith,
        c.smaller,
        c.same_length,
        mirror_at n u c.place q (omega (arith, c.within)),
        mirror_at n v c.place q (omega (arith, c.within, c.same_length)),
        (below_at n v).0 d c.place (omega (arith, c.within, c.same_length)),
      );
      below = below;
    }
  where
    below : (j : ℕ) → j < length u - suc c.place → get_or (mirror n v) j 0 ≡ get_or (mirror n u) j 0
    below j h =
        let i : ℕ = length u - suc j in
        mirror_at n v i j (omega (arith, c.same_length)) ∙ ap (λ (x : ℕ). n - suc x) (sym (c.above i (omega (arith, c.within)))) ∙ sym (mirror_at n u i j (omega arith))

-- ---- the shift

shift-sum : (F : Family) (n i j : ℕ) {x : ℕ} → x < n → (n - suc x) + shift F j ≡ (n + shift F (i + j)) - suc (x + shift F i)
shift-sum Forbidden n i j h = omega arith
shift-sum Allowed n i j h = omega arith

pub mirror-shifted : (F : Family) (n k : ℕ) (w : List ℕ) → Word F n k w → shifted F (mirror n w) ≡ mirror (shifted_alphabet F n k) (shifted F w)
mirror-shifted F n k w h =
    ext_get_or 0 (shifted F (mirror n w)) (mirror a (shifted F w))
    (shifted_long F (mirror n w) ∙ mirror_long n w ∙ sym (mirror_long a (shifted F w) ∙ shifted_long F w))
    (λ j l. at j (subst (λ (m : ℕ). j < m) (shifted_long F (mirror n w) ∙ mirror_long n w) l))
  where
    a : ℕ
    a = shifted_alphabet F n k

    at : (j : ℕ) → j < length w → get_or (shifted F (mirror n w)) j 0 ≡ get_or (mirror a (shifted F w)) j 0
    at j l =
        let i : ℕ = length w - suc j in
        let e : n + shift F (i + j) ≡ a = ap (λ (m : ℕ). n + shift F m) (omega (arith, h.long)) ∙ sym (alphabet_some F n k (omega (arith, h.long))) in
        shifted_at F (mirror n w) j (omega (arith, mirror_long n w))
        ∙ ap (λ (x : ℕ). x + shift F j) (mirror_at n w i j (omega arith))
        ∙ shift-sum F n i j ((below_at n w).0 h.below i (omega arith))
        ∙ rw (e, ← shifted_at F w i (omega arith)) (sym (mirror_at a (shifted F w) i j (omega (arith, shifted_long F w))))
