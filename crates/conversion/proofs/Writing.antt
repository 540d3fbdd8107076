-- The loop of the converter. Assumes nothing.
--   place_in_below    a place is below the count
--   Written back a k c from out q    the entries of the first q sets are in their places
--   written_none, written_more, written_all    before the first, after one more, and at the end
--   Walks a k c q bits later    the walk stands at the set of rank q, unless it is past the last
--   walks_first, walks_stands, walks_on, walks-past    it begins at the first, stands as the step asks, and goes on
--   Converting back a k c from out bits later q    both together
--   later_within    how many sets stand later is below the count
--   exact, converted_long    where the checks pass both buffers have the count of entries, and so has the converted body
--   count-refused, given_refused, lent-refused, convert_gives    what the converter says, check by check
use Rattle.std.proofs.Common.{◌≡◌, ℕ, zero, suc, ◌+◌, ◌-◌, ◌*◌, ◌%◌, ◌^◌, ◌<◌, ◌≤◌, Bool, true, false, not, eqb, ◌⊎◌, List, length, sym, ap, ◌∙◌, subst, ap₂, inl, inr, eq-or-lt_of_le, arith, take_all, pow_mono, lt-ltb, eqb-true}
use Rattle.pascal.specs.Choose.{choose}
use Rattle.words.specs.declared.Family.{Family}
use Rattle.words.specs.declared.Family.TheVariants.{Forbidden}
use Rattle.words.specs.Pick.{pick}
use Rattle.words.specs.Word.{Word, shifted_alphabet, count}
use Rattle.words.specs.Rank.{rank_of}
use Rattle.words.specs.Unrank.{unrank_of}
use Rattle.words.specs.Next.{first, next}
use Rattle.words.specs.Bits.{set_bits}
use Rattle.pascal.proofs.Choose.{choose_none}
use Rattle.words.proofs.Unrank.{unrank_is_a_word, rank_of_unrank, unrank_of_rank}
use Rattle.words.proofs.Next.{next_rank, next_is_a_word}
use Rattle.words.proofs.Ends.{first_is_unrank_zero}
use Rattle.words.proofs.Bits.{bits_fit, set_of_bits}
use Rattle.bits.specs.Mask.{LowMask}
use Rattle.bits.proofs.Mask.{clamped_within}
use Rattle.seam.specs.Later.{following}
use Rattle.successor.specs.Later.{later}
use Rattle.lexicographic.specs.Later.{later_words, later_sets}
use Rattle.lexicographic.specs.Entries.{entry_at, rearranged}
use Rattle.lexicographic.specs.Bodies.{lex_of, colex_of}
use Rattle.lexicographic.proofs.Following.{later_of_set, later_below, first_later}
use Rattle.lexicographic.proofs.Rank.{lex_rank_sum}
use Rattle.lexicographic.proofs.Bodies.{colex-of-below, lex-of-colex, colex-of-lex, new-body-long, old-body-long}
use Rattle.lexicographic.proofs.Entries.{entry_long, rearranged_same}
use Rattle.following.specs.Stands.{Stands}
use Rattle.answers.specs.Says.{refuses_with, refuses, gives, refused_if, and_then}
use Rattle.monotone_count.specs.Rules.{count_says}
use Rattle.monotone_count.proofs.Rules.{Counted, count_given}
use Rattle.conversion.specs.Rules.{place_of, converted, convert_says, place_in, Exact}
use Rattle.conversion.proofs.Copying.{put, put-long, put-here, put-elsewhere}

-- ---- places

pub place_in_below : (colex : Bool) (c q m : ℕ) → q < c → m < c → place_in colex c q m < c
place_in_below true c q m h l = h
place_in_below false c q m h l = omega arith

-- the place in lexicographic order of the set of rank q
lex_place : (F : Family) (n k q : ℕ) → q < count F n k → count F n k - 1 - later_sets (shifted_alphabet F n k) k q ≡ lex_of F n k q
lex_place F n k q h =
    let l : lex_of F n k q ≡ count F n k - 1 - later_sets (shifted_alphabet F n k) k q =
    omega (arith, later_of_set F n k q h, lex_rank_sum F n k (unrank_of F k q) (unrank_is_a_word F n k q h)) in
    sym l

-- two sets have two places, in either order
places_apart : (a k c i j : ℕ) → c ≡ choose a k → i < j → j < c → (colex : Bool) → place_in colex c i (later_sets a k i) ≡ place_in colex c j (later_sets a k j) → ⊥
places_apart a k c i j e h l true s = omega arith
places_apart a k c i j e h l false s =
    let u : i < choose a k = omega (arith, e) in
    let v : j < choose a k = omega (arith, e) in
    let same : lex_of Forbidden a k i ≡ lex_of Forbidden a k j =
    sym (lex_place Forbidden a k i u)
    ∙ ap (λ (d : ℕ). d - 1 - later_sets a k i) (sym e)
    ∙ s
    ∙ ap (λ (d : ℕ). d - 1 - later_sets a k j) e
    ∙ lex_place Forbidden a k j v in
    let one : i ≡ j = sym (colex-of-lex Forbidden a k i u) ∙ ap (colex_of Forbidden a k) same ∙ colex-of-lex Forbidden a k j v in
    omega (arith, one)

-- ---- the entries that are written

-- a is the shifted alphabet: neither the family nor n is needed to say what is written
pub record Written (back : Bool) (a k c : ℕ) (from out : List ℕ) (q : ℕ) : Type 0 where
  pub long : length out ≡ 8 * c
  pub done : (j : ℕ) → j < q → entry_at out (place_in (not back) c j (later_sets a k j)) ≡ entry_at from (place_in back c j (later_sets a k j))

pub written_none : (back : Bool) (a k c : ℕ) (from out : List ℕ) → length out ≡ 8 * c → Written back a k c from out 0
written_none back a k c from out e = record { long = e; done = λ j h. absurd (omega arith) }

pub written_more : (back : Bool) (a k c : ℕ) (from out new : List ℕ) (q i t : ℕ) → length from ≡ 8 * c → c ≡ choose a k → q < c
    → i ≡ place_in back c q (later_sets a k q) → t ≡ place_in (not back) c q (later_sets a k q) → new ≡ put t (entry_at from i) out
    → Written back a k c from out q → Written back a k c from new (q + 1)
written_more back a k c from out new q i t f z h e u p w =
    record {
      long = ap length p ∙ put-long t (entry_at from i) out l b ∙ w.long;
      done = λ j m. ap (λ (o : List ℕ). entry_at o (place_in (not back) c j (later_sets a k j))) p ∙ at j (eq-or-lt_of_le (omega arith));
    }
  where
    few : later_sets a k q < c
    few = omega (arith, z, later_below a k (unrank_of Forbidden k q) (unrank_is_a_word Forbidden a k q (omega (arith, z))))

    b : 8 * t + 8 ≤ length out
    b = omega (arith, w.long, u, place_in_below (not back) c q (later_sets a k q) h few)

    l : length (entry_at from i) ≡ 8
    l = entry_long from i (omega (arith, f, e, place_in_below back c q (later_sets a k q) h few))

    at : (j : ℕ) → (j ≡ q) ⊎ (j < q) → entry_at (put t (entry_at from i) out) (place_in (not back) c j (later_sets a k j)) ≡ entry_at from (place_in back c j (later_sets a k j))
    at j (inl s) =
        ap (entry_at (put t (entry_at from i) out)) (ap (λ (m : ℕ). place_in (not back) c m (later_sets a k m)) s ∙ sym u)
        ∙ put-here t (entry_at from i) out l b
        ∙ ap (entry_at from) (e ∙ ap (λ (m : ℕ). place_in back c m (later_sets a k m)) (sym s))
    at j (inr s) =
        put-elsewhere t (entry_at from i) out l b (place_in (not back) c j (later_sets a k j)) (λ y. places_apart a k c j q z s h (not back) (y ∙ u))
        ∙ w.done j s

pub written_all : (back : Bool) (F : Family) (n k c a : ℕ) (from out : List ℕ) (q : ℕ) → a ≡ shifted_alphabet F n k → c ≡ count F n k → q ≡ c
    → Written back a k c from out q → out ≡ converted back F n k from
written_all back F n k c a from out q y z x w =
    sym
    (ap (λ (d : ℕ). rearranged (place_of back F n k) d from) (sym z)
    ∙ rearranged_same (place_of back F n k) c out from (λ r h. sym (at back w r h))
    ∙ take_all (8 * c) out (omega (arith, w.long)))
  where
    -- the lexicographic place of the set of rank j
    lex : (j : ℕ) → j < c → c - 1 - later_sets a k j ≡ lex_of F n k j
    lex j h = ap₂ (λ (d b : ℕ). d - 1 - later_sets b k j) z y ∙ lex_place F n k j (omega (arith, z))

    -- to the new order the set of rank r is written at r, and on the way back it is the one whose lexicographic place is r
    at : (way : Bool) → Written way a k c from out q → (r : ℕ) → r < c → entry_at out r ≡ entry_at from (place_of way F n k r)
    at false v r h = v.done r (omega (arith, x)) ∙ ap (entry_at from) (lex r h)
    at true v r h =
        let below : r < count F n k = omega (arith, z) in
        let g : colex_of F n k r < c = omega (arith, colex-of-below F n k r below, z) in
        ap (entry_at out) (sym (lex (colex_of F n k r) g ∙ lex-of-colex F n k r below)) ∙ v.done (colex_of F n k r) (omega (arith, g, x))

-- ---- the walk

pub record Walks (a k c q bits later : ℕ) : Type 0 where
  pub set : q < c → set_bits bits ≡ unrank_of Forbidden k q
  pub many : q < c → later ≡ later_sets a k q

pub walks_first : (a k c b m : ℕ) → c ≡ choose a k → k ≤ 64 → LowMask k b → m < 2 ^ 64 → (m + 1) % 2 ^ 64 ≡ c → Walks a k c 0 b m
walks_first a k c b m e h l f g =
    record {
      set = λ p. l.symbols ∙ ap (first Forbidden) (clamped_within k h) ∙ sym (first_is_unrank_zero Forbidden k);
      many = λ p. omega (arith, first_later a k (omega (arith, e)), e, g);
    }

pub walks_stands : (a k c q bits m : ℕ) → c ≡ choose a k → a ≤ 64 → suc q < c → Walks a k c q bits m → Stands a k c bits m
walks_stands a k c q bits m e h l w =
    let s : set_bits bits ≡ unrank_of Forbidden k q = w.set (omega arith) in
    record {
      narrow = h;
      word = subst (Word Forbidden a k) (sym s) (unrank_is_a_word Forbidden a k q (omega (arith, e)));
      more = omega (arith, ap (rank_of Forbidden) s, rank_of_unrank Forbidden a k q (omega (arith, e)), e);
      all = e;
      count = w.many (omega arith) ∙ ap (later_words Forbidden a) (sym s);
    }

-- the next set of a set that is not the last
next_set : (a k q : ℕ) → suc q < choose a k → (Word Forbidden a k (next Forbidden (unrank_of Forbidden k q))) × (next Forbidden (unrank_of Forbidden k q) ≡ unrank_of Forbidden k (suc q))
next_set a k q h =
    let s : List ℕ = unrank_of Forbidden k q in
    let w : Word Forbidden a k s = unrank_is_a_word Forbidden a k q (omega arith) in
    let r : rank_of Forbidden s ≡ q = rank_of_unrank Forbidden a k q (omega arith) in
    let p : 0 < k = some k h in
    let v : Word Forbidden a k (next Forbidden s) = next_is_a_word Forbidden a k s p w (omega (arith, r)) in
    let e : rank_of Forbidden (next Forbidden s) ≡ suc q = next_rank Forbidden s (omega (arith, w.long)) w.monotone ∙ ap suc r in
    (v, sym (ap₂ (unrank_of Forbidden) (sym v.long) (sym e) ∙ unrank_of_rank Forbidden (next Forbidden s) v.monotone))
  where
    some : (k : ℕ) → suc q < choose a k → 0 < k
    some zero l = absurd (omega (arith, choose_none a))
    some (suc k) l = omega arith

pub walks_on : (a k c q bits m b n : ℕ) → c ≡ choose a k → a ≤ 64 → suc q < c → Walks a k c q bits m → b ≡ later bits → n ≡ later_words Forbidden a (next Forbidden (set_bits bits))
    → Walks a k c (q + 1) b n
walks_on a k c q bits m b n e h l w f g =
    let s : set_bits bits ≡ unrank_of Forbidden k q = w.set (omega arith) in
    let t = next_set a k q (omega (arith, e)) in
    let u : next Forbidden (set_bits bits) ≡ unrank_of Forbidden k (q + 1) = ap (next Forbidden) s ∙ t.1 ∙ ap (unrank_of Forbidden k) (omega arith) in
    let v : Word Forbidden a k (next Forbidden (set_bits bits)) = subst (λ (x : List ℕ). Word Forbidden a k (next Forbidden x)) (sym s) t.0 in
    let z : following bits < 2 ^ 64 = omega (arith, bits_fit a (next Forbidden (set_bits bits)) v.monotone v.below, pow_mono h) in
    let y : b ≡ following bits = f ∙ ap (λ (x : Bool). pick x (following bits) 0) (lt-ltb (following bits) (2 ^ 64) z) in
    record {
      set = λ p. ap set_bits y ∙ set_of_bits (next Forbidden (set_bits bits)) v.monotone ∙ u;
      many = λ p. g ∙ ap (later_words Forbidden a) u;
    }

-- past the last set nothing is asked of the walk
pub walks-past : (a k c q bits m : ℕ) → c ≤ q → Walks a k c q bits m
walks-past a k c q bits m h = record { set = λ p. absurd (omega arith); many = λ p. absurd (omega arith) }

-- ---- both together

pub record Converting (back : Bool) (a k c : ℕ) (from out : List ℕ) (bits later q : ℕ) : Type 0 where
  pub written : Written back a k c from out q
  pub walks : Walks a k c q bits later

-- how many stand later is below the count
pub later_within : (a k c q bits m : ℕ) → c ≡ choose a k → q < c → Walks a k c q bits m → m < c
later_within a k c q bits m e h w =
    omega (arith, w.many h, e, later_below a k (unrank_of Forbidden k q) (unrank_is_a_word Forbidden a k q (omega (arith, e))))

-- ---- the lengths

pub exact : (F : Family) (n k c : ℕ) (l m : List ℕ) → count_says F n k ≡ gives c → eqb (length l) (8 * c) ≡ true → eqb (length m) (8 * c) ≡ true → Exact F n k c l m
exact F n k c l m e h g =
    let d : Counted F n k c = count_given F n k c e in
    record { degree = d.degree; narrow = d.alphabet; size = d.is; given = eqb-true (length l) (8 * c) h; lent = eqb-true (length m) (8 * c) g }

pub converted_long : (back : Bool) (F : Family) (n k c : ℕ) (l m : List ℕ) → Exact F n k c l m → length (converted back F n k l) ≡ length m
converted_long false F n k c l m x = new-body-long F n k l (x.given ∙ ap (λ (d : ℕ). 8 * d) x.size) ∙ x.given ∙ sym x.lent
converted_long true F n k c l m x = old-body-long F n k l (x.given ∙ ap (λ (d : ℕ). 8 * d) x.size) ∙ x.given ∙ sym x.lent

-- ---- what the converter says, check by check

module _ (back : Bool) (F : Family) (n k : ℕ) (l : List ℕ) (room : ℕ) where
  pub count-refused : (e : ℕ) (p : List ℕ) → count_says F n k ≡ refuses_with e p → convert_says back F n k l room ≡ refuses_with e p
  count-refused e p q =
      ap (λ s. and_then s (λ c. refused_if (not (eqb (length l) (8 * c))) 8 (refused_if (not (eqb room (8 * c))) 8 (gives (converted back F n k l))))) q

  pub given_refused : (c : ℕ) → count_says F n k ≡ gives c → eqb (length l) (8 * c) ≡ false → convert_says back F n k l room ≡ refuses 8
  given_refused c e h = simp (e, h)

  pub lent-refused : (c : ℕ) → count_says F n k ≡ gives c → eqb (length l) (8 * c) ≡ true → eqb room (8 * c) ≡ false → convert_says back F n k l room ≡ refuses 8
  lent-refused c e h g = simp (e, h, g)

  pub convert_gives : (c : ℕ) → count_says F n k ≡ gives c → eqb (length l) (8 * c) ≡ true → eqb room (8 * c) ≡ true
      → convert_says back F n k l room ≡ gives (converted back F n k l)
  convert_gives c e h g = simp (e, h, g)
