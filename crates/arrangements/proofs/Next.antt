-- The next permutation (Knuth 7.2.1.2). Assumes nothing.
--   next_is_later, nothing-between    the permutation of the next rank is later, and nothing lies between
--   rises_on, rising_is_last    there is no next one where all entries rise
--   Falls n w i k    w rises below place k, and i is the lowest place there with an entry greater than that at k
--   found-falls    the places that the search for them finds
--   step_at, step_long, source_below    the entries of the step
--   step-has-room, step-is-next    then there is a next one, and the step at these places is it
use mathlib.Core.Path.{◌≡◌, refl, sym, ap, ap₂, subst, ◌∙◌}
use mathlib.Core.Bool.{Bool, true, false}
use mathlib.Core.List.{List}
use Prim.Native.Nat.{ℕ, suc, ◌+◌, ◌*◌, ◌-◌, ◌≤◌, ◌<◌}
use native.Mathlib.Nat.{add-sub_of_le}
use native.Mathlib.Decide.{dec_lt, ℕ_discrete}
use native.Mathlib.Omega.{arith}
use borrow.Author.Tests.{eq-eqb, ne_eqb, lt-ltb, le-ltb}
use lib.Dec.{ltb, eqb}
use lib.ListN.{length, get_or, take, length-map, length-take}
use lib.Seq.{get_or-take}
use Rattle.words.specs.Pick.{pick}
use Rattle.words.specs.Colex.{ColexLt}
use Rattle.words.specs.Factorial.{factorial}
use Rattle.words.specs.Inversions.{smaller_in}
use Rattle.arrangements.specs.Permutation.{Permutation, identity}
use Rattle.arrangements.specs.Rank.{digit, rank_up_to, arrangement_rank, arrangement_unrank}
use Rattle.arrangements.specs.Step.{turn, exchange, source, step, Rises, FirstFall, FirstGreater}
use Rattle.arrangements.proofs.Places.{ByPlaces, map_at, by_places, from_places}
use Rattle.arrangements.proofs.Smaller.{one_if, smaller_one_more, smaller-split}
use Rattle.arrangements.proofs.Rank.{falling_rank, rising_rank, same_left, same-weight-above, digit_with_itself, rank_rises}
use Rattle.arrangements.proofs.Unrank.{unrank_is_a_permutation, rank_of_unrank, unrank_of_rank}
use Rattle.arrangements.proofs.Counted.{rank_is_below, earlier_of_rank}
use Rattle.arrangements.proofs.Group.{identity_long, identity_at}

-- ---- the permutation of the next rank

module _ (n : ℕ) (p : List ℕ) (h : Permutation n p) (l : suc (arrangement_rank p) < factorial n) where
  pub next_is_later : ColexLt p (arrangement_unrank n (suc (arrangement_rank p)))
  next_is_later =
      earlier_of_rank n p (arrangement_unrank n (suc (arrangement_rank p))) h (unrank_is_a_permutation n (suc (arrangement_rank p)) l) (omega (arith, rank_of_unrank n (suc (arrangement_rank p)) l))

  pub nothing-between : (u : List ℕ) → Permutation n u → ColexLt p u → ColexLt u (arrangement_unrank n (suc (arrangement_rank p))) → ⊥
  nothing-between u k a b =
      omega (
        arith,
        rank_rises n p u h k a,
        rank_rises n u (arrangement_unrank n (suc (arrangement_rank p))) k (unrank_is_a_permutation n (suc (arrangement_rank p)) l) b,
        rank_of_unrank n (suc (arrangement_rank p)) l,
      )

-- ---- the places of the step

turn_low : (k j : ℕ) → j < k → turn k j ≡ k - 1 - j
turn_low k j h = ap (λ (t : Bool). pick t (k - 1 - j) j) (lt-ltb j k h)

turn_high : (k j : ℕ) → k ≤ j → turn k j ≡ j
turn_high k j h = ap (λ (t : Bool). pick t (k - 1 - j) j) (le-ltb j k h)

exchange-low : (i k j : ℕ) → j ≡ i → exchange i k j ≡ k
exchange-low i k j e = ap (λ (t : Bool). pick t k (pick (eqb j k) i j)) (eq-eqb j i e)

exchange-high : (i k j : ℕ) → i < k → j ≡ k → exchange i k j ≡ i
exchange-high i k j h e = ap₂ (λ (s t : Bool). pick s k (pick t i j)) (ne_eqb j i (λ f. omega arith)) (eq-eqb j k e)

exchange-other : (i k j : ℕ) → (j ≡ i → ⊥) → (j ≡ k → ⊥) → exchange i k j ≡ j
exchange-other i k j a b = ap₂ (λ (s t : Bool). pick s k (pick t i j)) (ne_eqb j i a) (ne_eqb j k b)

-- either, done twice, changes nothing, and none leads out of the places below n
turn_twice : (k j : ℕ) → turn k (turn k j) ≡ j
turn_twice k j = go (dec_lt j k)
  where
    go : Dec (j < k) → turn k (turn k j) ≡ j
    go (yes h) = ap (turn k) (turn_low k j h) ∙ turn_low k (k - 1 - j) (omega arith) ∙ omega arith
    go (no h) = let l : k ≤ j = omega arith in ap (turn k) (turn_high k j l) ∙ turn_high k j l

turn_below : (n k j : ℕ) → k ≤ n → j < n → turn k j < n
turn_below n k j l h = go (ltb j k)
  where
    go : (t : Bool) → pick t (k - 1 - j) j < n
    go true = omega arith
    go false = h

exchange-twice : (i k j : ℕ) → i < k → exchange i k (exchange i k j) ≡ j
exchange-twice i k j l = go (ℕ_discrete j i) (ℕ_discrete j k)
  where
    go : Dec (j ≡ i) → Dec (j ≡ k) → exchange i k (exchange i k j) ≡ j
    go (yes e) d = ap (exchange i k) (exchange-low i k j e) ∙ exchange-high i k k l refl ∙ sym e
    go (no a) (yes e) = ap (exchange i k) (exchange-high i k j l e) ∙ exchange-low i k i refl ∙ sym e
    go (no a) (no b) = ap (exchange i k) (exchange-other i k j a b) ∙ exchange-other i k j a b

exchange_below : (n i k j : ℕ) → i < n → k < n → j < n → exchange i k j < n
exchange_below n i k j a b c = go (eqb j i) (eqb j k)
  where
    go : (s t : Bool) → pick s k (pick t i j) < n
    go true t = b
    go false true = a
    go false false = c

-- ---- the step

-- one place more that rises
pub rises_on : (w : List ℕ) (k : ℕ) → 0 < k → Rises w k → get_or w (k - 1) 0 < get_or w k 0 → Rises w (k + 1)
rises_on w k z h l a b m c = go (ℕ_discrete b k) (ℕ_discrete a (k - 1))
  where
    go : Dec (b ≡ k) → Dec (a ≡ k - 1) → get_or w a 0 < get_or w b 0
    go (no e) d = h a b m (omega arith)
    go (yes e) (yes q) = omega (arith, ap (λ (x : ℕ). get_or w x 0) e, ap (λ (x : ℕ). get_or w x 0) q)
    go (yes e) (no q) = omega (arith, ap (λ (x : ℕ). get_or w x 0) e, h a (k - 1) (omega arith) (omega arith))

-- where all entries rise there is none
pub rising_is_last : (n : ℕ) (w : List ℕ) → length w ≡ n → Rises w n → suc (arrangement_rank w) ≡ factorial n
rising_is_last n w e h = ap (λ (k : ℕ). suc (rank_up_to w k)) e ∙ rising_rank w n (omega arith) h

-- w rises below place k, and i is the lowest place there with an entry greater than that at k
pub record Falls (n : ℕ) (w : List ℕ) (i k : ℕ) : Type 0 where
  pub within : k < n
  pub rises : Rises w k
  pub found : i < k
  pub greater : get_or w k 0 < get_or w i 0
  pub lowest : (j : ℕ) → j < i → get_or w j 0 < get_or w k 0

-- the places that a search finds
pub found-falls : (n : ℕ) (w : List ℕ) → Permutation n w → (i k : ℕ) → FirstFall n w k → k < n → FirstGreater w k i → Falls n w i k
found-falls n w p i k f l g =
    record {
      within = l;
      rises = f.rises;
      found = found;
      greater = g.greater found;
      lowest = λ j h. lowest j h (ℕ_discrete (get_or w j 0) (get_or w k 0));
    }
  where
    found : i < k
    found = go (dec_lt i k)
      where
        go : Dec (i < k) → i < k
        go (yes h) = h
        go (no h) = absurd (omega (arith, (f.falls l).0, (f.falls l).1, g.lower (k - 1) (omega (arith, (f.falls l).0))))

    lowest : (j : ℕ) → j < i → Dec (get_or w j 0 ≡ get_or w k 0) → get_or w j 0 < get_or w k 0
    lowest j h (yes e) = absurd (omega (arith, found, (by_places n w p).apart j k (omega (arith, found)) l e))
    lowest j h (no e) = omega (arith, g.lower j h)

pub step_at : (i k : ℕ) (w : List ℕ) (j : ℕ) → j < length w → get_or (step i k w) j 0 ≡ get_or w (source i k j) 0
step_at i k w j h =
    map_at (λ j. get_or w (source i k j) 0) (identity (length w)) j (omega (arith, identity_long (length w)))
    ∙ ap (λ (j : ℕ). get_or w (source i k j) 0) (identity_at (length w) j h)

pub step_long : (i k : ℕ) (w : List ℕ) → length (step i k w) ≡ length w
step_long i k w = length-map (identity (length w)) (λ j. get_or w (source i k j) 0) ∙ identity_long (length w)

-- the step leads out of no place
pub source_below : (n i k j : ℕ) → i < k → k < n → j < n → source i k j < n
unfolding source
source_below n i k j h l m = exchange_below n i k (turn k j) (omega arith) l (turn_below n k j (omega arith) m)

module _ (n : ℕ) (w : List ℕ) (p : Permutation n w) (i k : ℕ) (f : Falls n w i k) where
  v : List ℕ
  v = step i k w

  at : (j : ℕ) → j < n → get_or v j 0 ≡ get_or w (source i k j) 0
  unfolding v
  at j h = step_at i k w j (omega (arith, p.long))

  at-turned : (j : ℕ) → j < k → get_or v j 0 ≡ get_or w (exchange i k (k - 1 - j)) 0
  unfolding source
  at-turned j h = at j (omega (arith, f.within)) ∙ ap (λ (x : ℕ). get_or w (exchange i k x) 0) (turn_low k j h)

  at-k : get_or v k 0 ≡ get_or w i 0
  unfolding source
  at-k = at k f.within ∙ ap (λ (x : ℕ). get_or w (exchange i k x) 0) (turn_high k k (omega arith)) ∙ ap (λ (x : ℕ). get_or w x 0) (exchange-high i k k f.found refl)

  at_above : (j : ℕ) → k < j → j < n → get_or v j 0 ≡ get_or w j 0
  unfolding source
  at_above j h l =
      at j l ∙ ap (λ (x : ℕ). get_or w (exchange i k x) 0) (turn_high k j (omega arith))
      ∙ ap (λ (x : ℕ). get_or w x 0) (exchange-other i k j (λ e. omega (arith, f.found)) (λ e. omega arith))

  long : length v ≡ n
  unfolding v
  long = step_long i k w ∙ p.long

  step-is-a-permutation : Permutation n v
  unfolding source
  step-is-a-permutation =
      from_places n v
      (record {
        long = long;
        below = λ j h. subst (λ (x : ℕ). x < n) (sym (at j h)) (w'.below (source i k j) (inside j h));
        apart = λ a b h l e. back a b (w'.apart (source i k a) (source i k b) (inside a h) (inside b l) (sym (at a h) ∙ e ∙ at b l));
      })
    where
      w' : ByPlaces n w
      w' = by_places n w p

      inside : (j : ℕ) → j < n → source i k j < n
      inside j h = source_below n i k j f.found f.within h

      back : (a b : ℕ) → source i k a ≡ source i k b → a ≡ b
      back a b e =
          sym (turn_twice k a)
          ∙ ap (turn k) (sym (exchange-twice i k (turn k a) f.found) ∙ ap (exchange i k) e ∙ exchange-twice i k (turn k b) f.found)
          ∙ turn_twice k b

  -- with the entry at k in the place of that at i, the entries below k still rise; turned round they fall
  exchanged-rises : (a b : ℕ) → a < b → b < k → get_or w (exchange i k a) 0 < get_or w (exchange i k b) 0
  exchanged-rises a b h l = go (ℕ_discrete a i) (ℕ_discrete b i)
    where
      other : (j : ℕ) → j < k → (j ≡ i → ⊥) → get_or w (exchange i k j) 0 ≡ get_or w j 0
      other j m e = ap (λ (x : ℕ). get_or w x 0) (exchange-other i k j e (λ q. omega arith))

      low : (j : ℕ) → j ≡ i → get_or w (exchange i k j) 0 ≡ get_or w k 0
      low j e = ap (λ (x : ℕ). get_or w x 0) (exchange-low i k j e)

      go : Dec (a ≡ i) → Dec (b ≡ i) → get_or w (exchange i k a) 0 < get_or w (exchange i k b) 0
      go (yes e) (yes g) = absurd (omega arith)
      go (yes e) (no g) = omega (arith, low a e, other b l g, f.greater, f.rises i b (omega arith) l)
      go (no e) (yes g) = omega (arith, other a (omega arith) e, low b g, f.lowest a (omega arith))
      go (no e) (no g) = omega (arith, other a (omega arith) e, other b l g, f.rises a b h l)

  step_falls : (a b : ℕ) → a < b → b < k → get_or v b 0 < get_or v a 0
  step_falls a b h l =
      omega (arith, at-turned a (omega arith), at-turned b l, exchanged-rises (k - 1 - b) (k - 1 - a) (omega arith) (omega arith))

  -- the entries left of k that are smaller than that at k, and than that at i, stand below i
  left-of : (x : ℕ) → get_or w k 0 ≤ x → x ≤ get_or w i 0 → smaller_in x (take k w) ≡ i
  left-of x a b =
      smaller-split x i (take k w) (omega (arith, short, f.found))
      (λ j h. omega (arith, get_or-take k w j 0 (omega (arith, f.found)), f.lowest j h))
      (λ j h l. let m : j < k = omega (arith, short) in
      omega (arith, get_or-take k w j 0 m, from-i j m (ℕ_discrete i j) h))
    where
      short : length (take k w) ≡ k
      short = omega (arith, length-take k w, p.long, f.within)

      from-i : (j : ℕ) → j < k → Dec (i ≡ j) → i ≤ j → get_or w i 0 ≤ get_or w j 0
      from-i j m (yes e) h = omega (arith, ap (λ (x : ℕ). get_or w x 0) e)
      from-i j m (no e) h = omega (arith, f.rises i j (omega arith) m)

  step-rank : arrangement_rank v ≡ suc (arrangement_rank w)
  unfolding rank_up_to
  step-rank =
      omega (
        arith,
        same-weight-above n v w step-is-a-permutation p (suc k) at_above (n - suc k) (omega arith),
        ap (rank_up_to v) (long ∙ sym (add-sub_of_le f.within)),
        ap (rank_up_to w) (p.long ∙ sym (add-sub_of_le f.within)),
        falling_rank v k (omega (arith, long, f.within)) step_falls,
        rising_rank w k (omega (arith, p.long, f.within)) f.rises,
        ap (λ (d : ℕ). d * factorial k) (left-of (get_or w k 0) (omega arith) (omega (arith, f.greater))),
        ap (λ (d : ℕ). d * factorial k) digit-v,
      )
    where
      x : ℕ
      x = get_or w i 0

      digit-v : digit v k ≡ suc i
      digit-v =
          omega (
            arith,
            ap (λ (y : ℕ). smaller_in y (take k v)) at-k,
            digit_with_itself v k x (omega (arith, long, f.within)) at-k,
            same_left n v w step-is-a-permutation p (suc k) at_above (suc k) x (omega arith) (omega (arith, (by_places n w p).below i (omega (arith, f.found, f.within)))),
            smaller_one_more x w k (omega (arith, p.long, f.within)),
            ap one_if (lt-ltb (get_or w k 0) x f.greater),
            left-of x (omega (arith, f.greater)) (omega arith),
          )

  -- so there is a next one, and the step is it
  pub step-has-room : suc (arrangement_rank w) < factorial n
  step-has-room = omega (arith, step-rank, rank_is_below n v step-is-a-permutation)

  pub step-is-next : step i k w ≡ arrangement_unrank n (suc (arrangement_rank w))
  unfolding v
  step-is-next = sym (unrank_of_rank n (step i k w) step-is-a-permutation) ∙ ap (arrangement_unrank n) step-rank
