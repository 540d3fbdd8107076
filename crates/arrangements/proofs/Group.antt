-- The permutations of n entries are a group: identity, composition and inverse (DLMF 26.13). Assumes nothing.
--   identity_at, identity_long, identity_is_a_permutation    what the identity holds
--   compose_at, compose_is_a_permutation, compose_associative    p after q
--   compose-identity    p after the identity is p
--   inverse-long, inverse-place, inverse-is-a-permutation    the inverse
--   compose-inverse, inverse-compose    composed with p, either way round, it is the identity
use mathlib.Core.Path.{◌≡◌, refl, sym, ap, ap₂, subst, ◌∙◌}
use mathlib.Core.Logic.{inl, inr}
use mathlib.Core.Bool.{Bool, true, false}
use mathlib.Core.List.{List, [], ◌∷◌}
use Prim.Native.Nat.{ℕ, zero, suc, ◌+◌, ◌<◌, suc-le-suc}
use native.Mathlib.Nat.{not-suc-le-zero, le_of_suc-le-suc, zero-lt-suc, zero-add, add-zero, add-suc, suc-add}
use native.Mathlib.Omega.{arith}
use borrow.Author.Tests.{eqb-true, eqb-false}
use lib.Dec.{eqb}
use lib.ListN.{length, get_or, length-map}
use lib.Seq.{ext_get_or}
use Rattle.words.specs.Pick.{pick}
use Rattle.words.specs.Word.{Below}
use Rattle.words.specs.HowMany.{In}
use Rattle.arrangements.specs.Permutation.{Permutation, count_up, identity, compose, first_place_of, inverse}
use Rattle.arrangements.proofs.Places.{ByPlaces, map_at, by_places, from_places}
use Rattle.arrangements.proofs.Smaller.{permutation-has}

-- ---- the identity

count_up_long : (i n : ℕ) → length (count_up i n) ≡ n
count_up_long i zero = refl
count_up_long i (suc n) = ap suc (count_up_long (suc i) n)

count_up_at : (i n j : ℕ) → j < n → get_or (count_up i n) j 0 ≡ i + j
count_up_at i zero j h = absurd (not-suc-le-zero h)
count_up_at i (suc n) zero h = sym (add-zero i)
count_up_at i (suc n) (suc j) h = count_up_at (suc i) n j (le_of_suc-le-suc h) ∙ suc-add i j ∙ sym (add-suc i j)

pub identity_long : (n : ℕ) → length (identity n) ≡ n
identity_long n = count_up_long 0 n

pub identity_at : (n i : ℕ) → i < n → get_or (identity n) i 0 ≡ i
identity_at n i h = count_up_at 0 n i h ∙ zero-add i

pub identity_is_a_permutation : (n : ℕ) → Permutation n (identity n)
identity_is_a_permutation n =
    from_places n (identity n)
    (record {
      long = identity_long n;
      below = λ i h. omega (arith, identity_at n i h);
      apart = λ i j h k e. omega (arith, identity_at n i h, identity_at n j k);
    })

-- ---- composition

pub compose_at : (p q : List ℕ) (i : ℕ) → i < length q → get_or (compose p q) i 0 ≡ get_or p (get_or q i 0) 0
compose_at p q i h = map_at (λ j. get_or p j 0) q i h

pub compose_long : (p q : List ℕ) → length (compose p q) ≡ length q
compose_long p q = length-map q (λ j. get_or p j 0)

pub compose_is_a_permutation : (n : ℕ) (p q : List ℕ) → Permutation n p → Permutation n q → Permutation n (compose p q)
compose_is_a_permutation n p q f g =
    from_places n (compose p q)
    (record {
      long = compose_long p q ∙ g.long;
      below = λ i h. subst (λ (x : ℕ). x < n) (sym (there i h)) (f'.below (get_or q i 0) (g'.below i h));
      apart = λ i j h k e. g'.apart i j h k (f'.apart (get_or q i 0) (get_or q j 0) (g'.below i h) (g'.below j k) (sym (there i h) ∙ e ∙ there j k));
    })
  where
    f' : ByPlaces n p
    f' = by_places n p f

    g' : ByPlaces n q
    g' = by_places n q g

    there : (i : ℕ) → i < n → get_or (compose p q) i 0 ≡ get_or p (get_or q i 0) 0
    there i h = compose_at p q i (omega (arith, g.long))

pub compose_associative : (p q r : List ℕ) → Below (length q) r → compose (compose p q) r ≡ compose p (compose q r)
compose_associative p q [] b = refl
compose_associative p q (x ∷ xs) b = ap₂ (λ (y : ℕ) (l : List ℕ). y ∷ l) (compose_at p q x b.0) (compose_associative p q xs b.1)

pub compose-identity : (n : ℕ) (p : List ℕ) → length p ≡ n → compose p (identity n) ≡ p
compose-identity n p e =
    ext_get_or 0 (compose p (identity n)) p (compose_long p (identity n) ∙ identity_long n ∙ sym e)
    (λ i h. compose_at p (identity n) i (omega (arith, compose_long p (identity n)))
    ∙ ap (λ (j : ℕ). get_or p j 0) (identity_at n i (omega (arith, compose_long p (identity n), identity_long n))))

-- ---- the inverse

place_of : (v : ℕ) (p : List ℕ) → In v p → (first_place_of v p < length p) × (get_or p (first_place_of v p) 0 ≡ v)
place_of v [] h = absurd h
place_of v (x ∷ xs) h = go (eqb x v) refl h (place_of v xs)
  where
    go : (t : Bool) → eqb x v ≡ t → In v (x ∷ xs) → (In v xs → (first_place_of v xs < length xs) × (get_or xs (first_place_of v xs) 0 ≡ v))
        → (pick t 0 (suc (first_place_of v xs)) < suc (length xs)) × (get_or (x ∷ xs) (pick t 0 (suc (first_place_of v xs))) 0 ≡ v)
    go true e h ih = (zero-lt-suc (length xs), eqb-true x v e)
    go false e (inl q) ih = absurd (eqb-false x v e (sym q))
    go false e (inr h) ih = (suc-le-suc (ih h).0, (ih h).1)

module _ (n : ℕ) (p : List ℕ) (h : Permutation n p) where
  pub inverse-long : length (inverse p) ≡ n
  inverse-long = length-map (identity (length p)) (λ v. first_place_of v p) ∙ identity_long (length p) ∙ h.long

  inverse-at : (v : ℕ) → v < n → get_or (inverse p) v 0 ≡ first_place_of v p
  inverse-at v l =
      map_at (λ u. first_place_of u p) (identity (length p)) v (omega (arith, identity_long (length p), h.long))
      ∙ ap (λ (u : ℕ). first_place_of u p) (identity_at (length p) v (omega (arith, h.long)))

  -- the entry of p at the place that the inverse gives is v
  pub inverse-place : (v : ℕ) → v < n → (get_or (inverse p) v 0 < n) × (get_or p (get_or (inverse p) v 0) 0 ≡ v)
  inverse-place v l = (omega (arith, inverse-at v l, t.0, h.long), ap (λ (i : ℕ). get_or p i 0) (inverse-at v l) ∙ t.1)
    where
      t : (first_place_of v p < length p) × (get_or p (first_place_of v p) 0 ≡ v)
      t = place_of v p (permutation-has n p h v l)

  pub inverse-of-entry : (i : ℕ) → i < n → get_or (inverse p) (get_or p i 0) 0 ≡ i
  inverse-of-entry i l = at.apart (get_or (inverse p) (get_or p i 0) 0) i t.0 l t.1
    where
      at : ByPlaces n p
      at = by_places n p h

      t : (get_or (inverse p) (get_or p i 0) 0 < n) × (get_or p (get_or (inverse p) (get_or p i 0) 0) 0 ≡ get_or p i 0)
      t = inverse-place (get_or p i 0) (at.below i l)

  pub inverse-is-a-permutation : Permutation n (inverse p)
  inverse-is-a-permutation =
      from_places n (inverse p)
      (record {
        long = inverse-long;
        below = λ v l. (inverse-place v l).0;
        apart = λ u v k l e. sym (inverse-place u k).1 ∙ ap (λ (i : ℕ). get_or p i 0) e ∙ (inverse-place v l).1;
      })

  pub compose-inverse : compose p (inverse p) ≡ identity n
  compose-inverse =
      ext_get_or 0 (compose p (inverse p)) (identity n) (long ∙ sym (identity_long n))
      (λ i l. let k : i < n = omega (arith, long) in
      compose_at p (inverse p) i (omega (arith, inverse-long)) ∙ (inverse-place i k).1 ∙ sym (identity_at n i k))
    where
      long : length (compose p (inverse p)) ≡ n
      long = compose_long p (inverse p) ∙ inverse-long

  pub inverse-compose : compose (inverse p) p ≡ identity n
  inverse-compose =
      ext_get_or 0 (compose (inverse p) p) (identity n) (long ∙ sym (identity_long n))
      (λ i l. let k : i < n = omega (arith, long) in
      compose_at (inverse p) p i (omega (arith, h.long)) ∙ inverse-of-entry i k ∙ sym (identity_at n i k))
    where
      long : length (compose (inverse p) p) ≡ n
      long = compose_long (inverse p) p ∙ h.long
