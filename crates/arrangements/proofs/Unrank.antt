-- The permutation of a rank: unranking inverts ranking both ways. Assumes nothing.
--   lastly_at, lastly_end, lastly_long    what the list with the last entry d holds
--   lastly-is-a-permutation, lastly-rank, parted    a permutation by its last entry: every one is made so
--   unrank_next, quotient_next    one entry more, from the digits of the rank, the lowest first
--   unrank_is_a_permutation, rank_of_unrank, unrank_of_rank    unranking below n!
use mathlib.Core.Path.{◌≡◌, refl, sym, ap, ap₂, subst, ◌∙◌}
use mathlib.Core.Logic.{◌⊎◌, inl, inr}
use mathlib.Core.Bool.{Bool, true, false}
use mathlib.Core.List.{List, [], ◌∷◌, ◌++◌, map}
use Prim.Native.Nat.{ℕ, zero, suc, ◌+◌, ◌*◌, ◌-◌, ◌/◌, ◌%◌, ◌≤◌, ◌<◌}
use native.Mathlib.Nat.{mod-lt, mod-eq_of_lt, div-eq_of_lt, div-add-mod', div-lt_iff_lt-mul, add-mul-div_right, add-mul-mod_self_right, eq-or-lt_of_le, suc-ne-zero, mul-le-mul_right, mul_comm, mod-mod, div-div-eq-div-mul}
use native.Mathlib.Numerals.{add-one}
use native.Mathlib.Omega.{arith}
use borrow.Author.Tests.{lt-ltb, le-ltb, ltb-true, ltb-false}
use lib.Dec.{ltb, leb-suc-suc}
use lib.ListN.{length, get_or, take, length-append, length-map, get_or-append}
use lib.Seq.{take-suc, take_all, length-take-le, get_or-take, get_or_at, ext_get_or}
use Rattle.words.specs.Pick.{pick}
use Rattle.words.specs.Factorial.{factorial}
use Rattle.words.proofs.Factorial.{factorial-positive}
use Rattle.arrangements.specs.Permutation.{Permutation}
use Rattle.arrangements.specs.Rank.{rank_up_to, arrangement_rank, raise, lastly, arrangement_unrank}
use Rattle.arrangements.proofs.Places.{ByPlaces, map_at, by_places, from_places}
use Rattle.arrangements.proofs.Smaller.{smaller-map, smaller_in_permutation}
use Rattle.arrangements.proofs.Rank.{rank_below_factorial, rank_snoc, rank-map}

-- ---- room for d

raise_keeps_order : (d x y : ℕ) → ltb (raise d x) (raise d y) ≡ ltb x y
raise_keeps_order d x y = go (ltb x d) refl (ltb y d) refl
  where
    go : (s : Bool) → ltb x d ≡ s → (t : Bool) → ltb y d ≡ t → ltb (pick s x (suc x)) (pick t y (suc y)) ≡ ltb x y
    go true a true b = refl
    go true a false b =
        let l : x < y = omega (arith, ltb-true x d a, ltb-false y d b) in
        lt-ltb x (suc y) (omega arith) ∙ sym (lt-ltb x y l)
    go false a true b =
        let l : y < x = omega (arith, ltb-false x d a, ltb-true y d b) in
        le-ltb (suc x) y (omega arith) ∙ sym (le-ltb x y (omega arith))
    go false a false b = leb-suc-suc (suc x) y

raise_over : (d x : ℕ) → ltb (raise d x) d ≡ ltb x d
raise_over d x = go (ltb x d) refl
  where
    go : (t : Bool) → ltb x d ≡ t → ltb (pick t x (suc x)) d ≡ ltb x d
    go true e = refl
    go false e = le-ltb (suc x) d (omega (arith, ltb-false x d e)) ∙ sym e

-- d itself is free, two numbers are not made one, and the bound grows by one
raise_frees : (d x : ℕ) → raise d x ≡ d → ⊥
raise_frees d x = go (ltb x d) refl
  where
    go : (t : Bool) → ltb x d ≡ t → pick t x (suc x) ≡ d → ⊥
    go true a e = omega (arith, ltb-true x d a)
    go false a e = omega (arith, ltb-false x d a)

raise_apart : (d x y : ℕ) → raise d x ≡ raise d y → x ≡ y
raise_apart d x y = go (ltb x d) refl (ltb y d) refl
  where
    go : (s : Bool) → ltb x d ≡ s → (t : Bool) → ltb y d ≡ t → pick s x (suc x) ≡ pick t y (suc y) → x ≡ y
    go true a true b e = e
    go true a false b e = omega (arith, ltb-true x d a, ltb-false y d b)
    go false a true b e = omega (arith, ltb-false x d a, ltb-true y d b)
    go false a false b e = omega arith

raise_below : (d x n : ℕ) → x < n → raise d x < suc n
raise_below d x n h = go (ltb x d)
  where
    go : (t : Bool) → pick t x (suc x) < suc n
    go true = omega arith
    go false = omega arith

-- the way back
lower : ℕ → ℕ → ℕ
lower d x = pick (ltb x d) x (x - 1)

raise_of_lower : (d x : ℕ) → (x ≡ d → ⊥) → raise d (lower d x) ≡ x
unfolding lower
raise_of_lower d x apart = go (ltb x d) refl
  where
    go : (t : Bool) → ltb x d ≡ t → raise d (pick t x (x - 1)) ≡ x
    go true a = ap (λ (t : Bool). pick t x (suc x)) a
    go false a = ap (λ (t : Bool). pick t (x - 1) (suc (x - 1))) (le-ltb (x - 1) d (omega (arith, ltb-false x d a))) ∙ omega (arith, ltb-false x d a)

lower_below : (d x n : ℕ) → d ≤ n → x < suc n → (x ≡ d → ⊥) → lower d x < n
unfolding lower
lower_below d x n l h apart = go (ltb x d) refl
  where
    go : (t : Bool) → ltb x d ≡ t → pick t x (x - 1) < n
    go true a = omega (arith, ltb-true x d a)
    go false a = omega (arith, ltb-false x d a)

-- ---- a permutation by its last entry

pub lastly_at : (d : ℕ) (u : List ℕ) (i : ℕ) → i < length u → get_or (lastly d u) i 0 ≡ raise d (get_or u i 0)
lastly_at d u i h = get_or-append (map (raise d) u) (d ∷ []) 0 i (omega (arith, length-map u (raise d))) ∙ map_at (raise d) u i h

pub lastly_end : (d : ℕ) (u : List ℕ) (i : ℕ) → i ≡ length u → get_or (lastly d u) i 0 ≡ d
lastly_end d u i e = get_or_at (map (raise d) u) d [] 0 i (length-map u (raise d) ∙ sym e)

pub lastly_long : (d : ℕ) (u : List ℕ) → length (lastly d u) ≡ suc (length u)
lastly_long d u = length-append (map (raise d) u) (d ∷ []) ∙ add-one (length (map (raise d) u)) ∙ ap suc (length-map u (raise d))

module _ (n d : ℕ) (u : List ℕ) (l : d ≤ n) (p : Permutation n u) where
  at_left : (i : ℕ) → i < n → get_or (lastly d u) i 0 ≡ raise d (get_or u i 0)
  at_left i h = lastly_at d u i (omega (arith, p.long))

  at_last : (i : ℕ) → i ≡ n → get_or (lastly d u) i 0 ≡ d
  at_last i e = lastly_end d u i (e ∙ sym p.long)

  lastly-is-a-permutation : Permutation (suc n) (lastly d u)
  lastly-is-a-permutation =
      from_places (suc n) (lastly d u)
      (record {
        long = lastly_long d u ∙ ap suc p.long;
        below = λ i h. below i (eq-or-lt_of_le h);
        apart = λ i j h k. apart i j (eq-or-lt_of_le h) (eq-or-lt_of_le k);
      })
    where
      below : (i : ℕ) → (suc i ≡ suc n) ⊎ (suc i < suc n) → get_or (lastly d u) i 0 < suc n
      below i (inl e) = omega (arith, at_last i (omega arith))
      below i (inr h) = omega (arith, at_left i (omega arith), raise_below d (get_or u i 0) n ((by_places n u p).below i (omega arith)))

      apart : (i j : ℕ) → (suc i ≡ suc n) ⊎ (suc i < suc n) → (suc j ≡ suc n) ⊎ (suc j < suc n) → get_or (lastly d u) i 0 ≡ get_or (lastly d u) j 0 → i ≡ j
      apart i j (inl e) (inl f) q = omega arith
      apart i j (inl e) (inr k) q = absurd (raise_frees d (get_or u j 0) (sym (at_left j (omega arith)) ∙ sym q ∙ at_last i (omega arith)))
      apart i j (inr h) (inl f) q = absurd (raise_frees d (get_or u i 0) (sym (at_left i (omega arith)) ∙ q ∙ at_last j (omega arith)))
      apart i j (inr h) (inr k) q =
          (by_places n u p).apart i j (omega arith) (omega arith)
          (raise_apart d (get_or u i 0) (get_or u j 0) (sym (at_left i (omega arith)) ∙ q ∙ at_left j (omega arith)))

  lastly-rank : arrangement_rank (lastly d u) ≡ arrangement_rank u + d * factorial n
  lastly-rank =
      rank_snoc (map (raise d) u) d
      ∙ ap₂ (λ (r m : ℕ). r + m) (rank-map (raise d) (raise_keeps_order d) u)
      (ap₂ (λ (s m : ℕ). s * factorial m) (smaller-map (raise d) d d (raise_over d) u ∙ smaller_in_permutation n u p d l) (length-map u (raise d) ∙ p.long))

-- every permutation of n + 1 entries is made so
record Parted (n : ℕ) (p : List ℕ) : Type 0 where
  last : ℕ
  rest : List ℕ
  small : last ≤ n
  permutation : Permutation n rest
  whole : p ≡ lastly last rest

parted : (n : ℕ) (p : List ℕ) → Permutation (suc n) p → Parted n p
unfolding lower
parted n p h =
    record {
      last = d;
      rest = map (lower d) (take n p);
      small = omega (arith, at.below n (omega arith));
      permutation = from_places n (map (lower d) (take n p)) (record { long = rest-long; below = below; apart = apart });
      whole = sym (take_all (suc n) p (omega (arith, h.long))) ∙ take-suc p n 0 (omega (arith, h.long)) ∙ ap (λ (w : List ℕ). w ++ d ∷ []) (sym back);
    }
  where
    at : ByPlaces (suc n) p
    at = by_places (suc n) p h

    d : ℕ
    d = get_or p n 0

    short : length (take n p) ≡ n
    short = length-take-le n p (omega (arith, h.long))

    other : (i : ℕ) → i < n → get_or p i 0 ≡ d → ⊥
    other i l e = omega (arith, at.apart i n (omega arith) (omega arith) e)

    rest-long : length (map (lower d) (take n p)) ≡ n
    rest-long = length-map (take n p) (lower d) ∙ short

    lowered : (i : ℕ) → i < n → get_or (map (lower d) (take n p)) i 0 ≡ lower d (get_or p i 0)
    lowered i l = map_at (lower d) (take n p) i (omega (arith, short)) ∙ ap (lower d) (get_or-take n p i 0 l)

    raised : (i : ℕ) → i < n → raise d (get_or (map (lower d) (take n p)) i 0) ≡ get_or p i 0
    raised i l = ap (raise d) (lowered i l) ∙ raise_of_lower d (get_or p i 0) (other i l)

    below : (i : ℕ) → i < n → get_or (map (lower d) (take n p)) i 0 < n
    below i l = subst (λ (x : ℕ). x < n) (sym (lowered i l)) (lower_below d (get_or p i 0) n (omega (arith, at.below n (omega arith))) (at.below i (omega arith)) (other i l))

    apart : (i j : ℕ) → i < n → j < n → get_or (map (lower d) (take n p)) i 0 ≡ get_or (map (lower d) (take n p)) j 0 → i ≡ j
    apart i j l k e = at.apart i j (omega arith) (omega arith) (sym (raised i l) ∙ ap (raise d) e ∙ raised j k)

    back : map (raise d) (map (lower d) (take n p)) ≡ take n p
    back =
        ext_get_or 0 (map (raise d) (map (lower d) (take n p))) (take n p) (length-map (map (lower d) (take n p)) (raise d) ∙ rest-long ∙ sym short)
        (λ i l. let k : i < n = omega (arith, length-map (map (lower d) (take n p)) (raise d), rest-long) in
        map_at (raise d) (map (lower d) (take n p)) i (omega (arith, rest-long)) ∙ raised i k ∙ sym (get_or-take n p i 0 k))

-- ---- unranking

last_digit : (n r : ℕ) → r < factorial (suc n) → r / factorial n ≤ n
unfolding factorial
last_digit n r h = omega (arith, (div-lt_iff_lt-mul (factorial-positive n)).1 h)

pub unrank_is_a_permutation : (n r : ℕ) → r < factorial n → Permutation n (arrangement_unrank n r)
unfolding arrangement_unrank
unrank_is_a_permutation zero r h = record { long = refl; below = tt; distinct = tt }
unrank_is_a_permutation (suc n) r h =
    lastly-is-a-permutation n (r / factorial n) (arrangement_unrank n (r % factorial n)) (last_digit n r h)
    (unrank_is_a_permutation n (r % factorial n) (mod-lt r (factorial-positive n)))

pub rank_of_unrank : (n r : ℕ) → r < factorial n → arrangement_rank (arrangement_unrank n r) ≡ r
unfolding arrangement_unrank rank_up_to factorial
rank_of_unrank zero r h = omega arith
rank_of_unrank (suc n) r h =
    omega (
      arith,
      lastly-rank n (r / factorial n) (arrangement_unrank n (r % factorial n)) (last_digit n r h) (unrank_is_a_permutation n (r % factorial n) (mod-lt r (factorial-positive n))),
      rank_of_unrank n (r % factorial n) (mod-lt r (factorial-positive n)),
      div-add-mod' r (factorial n),
    )

pub unrank_of_rank : (n : ℕ) (p : List ℕ) → Permutation n p → arrangement_unrank n (arrangement_rank p) ≡ p
unfolding arrangement_unrank
unrank_of_rank zero [] h = refl
unrank_of_rank zero (x ∷ xs) h = absurd (suc-ne-zero (length xs) h.long)
unrank_of_rank (suc n) p h = go (parted n p h) (unrank_of_rank n)
  where
    go : Parted n p → ((u : List ℕ) → Permutation n u → arrangement_unrank n (arrangement_rank u) ≡ u) → arrangement_unrank (suc n) (arrangement_rank p) ≡ p
    go a ih = ap₂ lastly digit rest ∙ sym a.whole
      where
        weight : arrangement_rank p ≡ arrangement_rank a.rest + a.last * factorial n
        weight = ap arrangement_rank a.whole ∙ lastly-rank n a.last a.rest a.small a.permutation

        fits : arrangement_rank a.rest < factorial n
        fits = subst (λ (k : ℕ). arrangement_rank a.rest < factorial k) a.permutation.long (rank_below_factorial a.rest (length a.rest))

        digit : arrangement_rank p / factorial n ≡ a.last
        digit =
            ap (λ (r : ℕ). r / factorial n) weight ∙ add-mul-div_right (arrangement_rank a.rest) a.last (factorial-positive n)
            ∙ ap (λ (q : ℕ). q + a.last) (div-eq_of_lt fits) ∙ omega arith

        rest : arrangement_unrank n (arrangement_rank p % factorial n) ≡ a.rest
        rest =
            ap (arrangement_unrank n) (ap (λ (r : ℕ). r % factorial n) weight ∙ add-mul-mod_self_right (arrangement_rank a.rest) a.last (factorial n) ∙ mod-eq_of_lt fits)
            ∙ ih a.rest a.permutation

-- ---- digit by digit, the lowest first

-- what is left of r below k times m is its last digit and what is left below m
mod_parts : (r m k : ℕ) → 0 < m → 0 < k → r % (k * m) ≡ r % m + r / m % k * m
mod_parts r m k a b =
    ap (λ (x : ℕ). x % (k * m)) whole ∙ add-mul-mod_self_right (r % m + r / m % k * m) (r / m / k) (k * m) ∙ mod-eq_of_lt small
  where
    whole : r ≡ r % m + r / m % k * m + r / m / k * (k * m)
    whole = omega (arith, div-add-mod' r m, ap (λ (x : ℕ). x * m) (div-add-mod' (r / m) k))

    small : r % m + r / m % k * m < k * m
    small = omega (arith, mod-lt r a, mul-le-mul_right m (mod-lt (r / m) b))

pub unrank_next : (n r : ℕ) → arrangement_unrank (suc n) (r % factorial (suc n)) ≡ lastly (r / factorial n % suc n) (arrangement_unrank n (r % factorial n))
unfolding arrangement_unrank factorial
unrank_next n r = ap₂ lastly digit (ap (arrangement_unrank n) rest)
  where
    m : ℕ
    m = factorial n

    parts : r % (suc n * m) ≡ r % m + r / m % suc n * m
    parts = mod_parts r m (suc n) (factorial-positive n) (omega arith)

    digit : r % (suc n * m) / m ≡ r / m % suc n
    digit =
        ap (λ (x : ℕ). x / m) parts ∙ add-mul-div_right (r % m) (r / m % suc n) (factorial-positive n)
        ∙ ap (λ (x : ℕ). x + r / m % suc n) (div-eq_of_lt (mod-lt r (factorial-positive n))) ∙ omega arith

    rest : r % (suc n * m) % m ≡ r % m
    rest = ap (λ (x : ℕ). x % m) parts ∙ add-mul-mod_self_right (r % m) (r / m % suc n) m ∙ mod-mod r m

-- the number whose digits are left
pub quotient_next : (n r : ℕ) → r / factorial n / suc n ≡ r / factorial (suc n)
unfolding factorial
quotient_next n r = div-div-eq-div-mul r (factorial n) (suc n) ∙ ap (λ (m : ℕ). r / m) (mul_comm (factorial n) (suc n))
