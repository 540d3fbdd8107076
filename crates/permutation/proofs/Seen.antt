-- The search for a repeated entry, which marks in the digits of a number what it has seen. Assumes nothing.
--   Seen e n i seen    the first i entries of e are below n and differ, and the ones of seen stand at them
--   seen_none, seen_more    it holds where the search begins, and after one entry more
--   seen_all, seen-large, seen-again    what the search finds: a permutation, an entry that is too large, or a repeated one
use mathlib.Core.Path.{◌≡◌, refl, sym, ap, subst, ◌∙◌}
use mathlib.Core.Bool.{Bool, true, false}
use mathlib.Core.Logic.{inl, inr, ⊎_elim}
use mathlib.Core.List.{List}
use Prim.Native.Nat.{ℕ, ◌+◌, ◌^◌, ◌≤◌, ◌<◌}
use native.Mathlib.Decide.{ℕ_discrete}
use native.Mathlib.Omega.{arith}
use lib.ListN.{length, get_or, take}
use lib.Seq.{length-take-le, get_or-take}
use lib.Bits.{bit_and, bit_or}
use Rattle.words.specs.HowMany.{In}
use Rattle.words.specs.Bits.{ones_from, set_bits}
use Rattle.words.specs.Members.{stands_in}
use Rattle.words.proofs.Members.{in_or, and_zero_is_disjoint, stands_is_in, stands_is_not_in}
use Rattle.words.proofs.SetLaws.{set_of_one}
use Rattle.arrangements.specs.Permutation.{Permutation, is_permutation}
use Rattle.arrangements.proofs.Places.{by_places, from_places, test_passes, test_fails}

-- the set of the one number x
in_one : (x d : ℕ) → d ≡ 2 ^ x → In x (set_bits d)
in_one x d e = subst (In x) (sym (ap set_bits e ∙ set_of_one x)) (inl refl)

one_in : (x d v : ℕ) → d ≡ 2 ^ x → In v (set_bits d) → v ≡ x
one_in x d v e h = ⊎_elim (λ q. q) (λ z. absurd z) (subst (In v) (ap set_bits e ∙ set_of_one x) h)

pub record Seen (e : List ℕ) (n i seen : ℕ) : Type 0 where
  pub below : (k : ℕ) → k < i → get_or e k 0 < n
  pub apart : (j k : ℕ) → j < i → k < i → get_or e j 0 ≡ get_or e k 0 → j ≡ k
  pub marked : (k : ℕ) → k < i → In (get_or e k 0) (set_bits seen)
  pub only : (v : ℕ) → In v (set_bits seen) → (k : ℕ) × (k < i) × (get_or e k 0 ≡ v)

pub seen_none : (e : List ℕ) (n : ℕ) → Seen e n 0 0
unfolding ones_from
seen_none e n =
    record {
      below = λ k h. omega arith;
      apart = λ j k h. omega arith;
      marked = λ k h. absurd (omega arith);
      only = λ v h. absurd h;
    }

pub seen_more : (e : List ℕ) (n i seen d : ℕ) → Seen e n i seen → get_or e i 0 < n → d ≡ 2 ^ get_or e i 0 → bit_and seen d ≡ 0 → Seen e n (i + 1) (bit_or seen d)
seen_more e n i seen d s b p f =
    record {
      below = λ k h. below k (ℕ_discrete k i) h;
      apart = λ j k h g q. apart j k (ℕ_discrete j i) (ℕ_discrete k i) h g q;
      marked = λ k h. marked k (ℕ_discrete k i) h;
      only = λ v h. ⊎_elim (old v) (λ g. (i, omega arith, sym (one_in x d v p g))) ((in_or v seen d).0 h);
    }
  where
    x : ℕ
    x = get_or e i 0

    new : (k : ℕ) → k < i → get_or e k 0 ≡ x → ⊥
    new k h q = (and_zero_is_disjoint seen d).0 f x (subst (λ (v : ℕ). In v (set_bits seen)) q (s.marked k h)) (in_one x d p)

    below : (k : ℕ) → Dec (k ≡ i) → k < i + 1 → get_or e k 0 < n
    below k (yes q) h = subst (λ (j : ℕ). get_or e j 0 < n) (sym q) b
    below k (no q) h = s.below k (omega arith)

    apart : (j k : ℕ) → Dec (j ≡ i) → Dec (k ≡ i) → j < i + 1 → k < i + 1 → get_or e j 0 ≡ get_or e k 0 → j ≡ k
    apart j k (yes p) (yes q) h g r = p ∙ sym q
    apart j k (yes p) (no q) h g r = absurd (new k (omega arith) (sym r ∙ ap (λ (a : ℕ). get_or e a 0) p))
    apart j k (no p) (yes q) h g r = absurd (new j (omega arith) (r ∙ ap (λ (a : ℕ). get_or e a 0) q))
    apart j k (no p) (no q) h g r = s.apart j k (omega arith) (omega arith) r

    marked : (k : ℕ) → Dec (k ≡ i) → k < i + 1 → In (get_or e k 0) (set_bits (bit_or seen d))
    marked k (yes q) h = (in_or (get_or e k 0) seen d).1 (inr (subst (λ (a : ℕ). In (get_or e a 0) (set_bits d)) (sym q) (in_one x d p)))
    marked k (no q) h = (in_or (get_or e k 0) seen d).1 (inl (s.marked k (omega arith)))

    old : (v : ℕ) → In v (set_bits seen) → (k : ℕ) × (k < i + 1) × (get_or e k 0 ≡ v)
    old v h = up (s.only v h)
      where
        up : (k : ℕ) × (k < i) × (get_or e k 0 ≡ v) → (k : ℕ) × (k < i + 1) × (get_or e k 0 ≡ v)
        up t = (t.0, omega (arith, t.1), t.2)

-- a number that has digits in common with 2 ^ x has x
again : (seen x d : ℕ) → d ≡ 2 ^ x → (bit_and seen d ≡ 0 → ⊥) → In x (set_bits seen)
again seen x d p f = go (stands_in x (set_bits seen)) refl
  where
    go : (t : Bool) → stands_in x (set_bits seen) ≡ t → In x (set_bits seen)
    go true q = (stands_is_in x (set_bits seen)).0 q
    go false q = absurd (f ((and_zero_is_disjoint seen d).1 (λ s a b. (stands_is_not_in x (set_bits seen)).0 q (subst (λ (v : ℕ). In v (set_bits seen)) (one_in x d s p b) a))))

-- ---- what the search finds

module _ (e : List ℕ) (n : ℕ) (l : n ≤ length e) where
  at : (k : ℕ) → k < n → get_or (take n e) k 0 ≡ get_or e k 0
  at k h = get_or-take n e k 0 h

  pub seen_all : (i seen : ℕ) → Seen e n i seen → n ≤ i → is_permutation (take n e) ≡ true
  seen_all i seen s g =
      test_passes n (take n e)
      (from_places n (take n e)
      (record {
        long = length-take-le n e l;
        below = λ k h. omega (arith, at k h, s.below k (omega arith));
        apart = λ j k h f q. s.apart j k (omega arith) (omega arith) (sym (at j h) ∙ q ∙ at k f);
      }))

  pub seen-large : (i : ℕ) → i < n → n ≤ get_or e i 0 → is_permutation (take n e) ≡ false
  seen-large i h b = test_fails n (take n e) (length-take-le n e l) (λ p. omega (arith, at i h, (by_places n (take n e) p).below i h))

  pub seen-again : (i seen d : ℕ) → Seen e n i seen → i < n → d ≡ 2 ^ get_or e i 0 → (bit_and seen d ≡ 0 → ⊥) → is_permutation (take n e) ≡ false
  seen-again i seen d s h q f = test_fails n (take n e) (length-take-le n e l) (go (s.only (get_or e i 0) (again seen (get_or e i 0) d q f)))
    where
      go : (k : ℕ) × (k < i) × (get_or e k 0 ≡ get_or e i 0) → Permutation n (take n e) → ⊥
      go t p =
          omega (arith, t.1, (by_places n (take n e) p).apart t.0 i (omega (arith, t.1)) h (at t.0 (omega (arith, t.1)) ∙ t.2 ∙ sym (at i h)))
