-- What a step of the walk needs of the bits. Assumes nothing.
--   begun    the start, from the mask of the lowest bits
--   Moving s b r m    the lowest bit is the first symbol, the next set is the next word, the bits below its lowest gap are its zeros, and both ways on are in place
--   moving    so it is where the walk can move
--   at_most    a number or 0 is at most the number
--   least_fits, moved-below, next_fits, row_fits, moved-above    the same of the numbers that the code finds, on either way
use mathlib.Core.Path.{◌≡◌, refl, sym, ap, ap₂, subst, ◌∙◌}
use mathlib.Core.Bool.{Bool, true, false}
use mathlib.Core.List.{List, [], ◌∷◌}
use Prim.Native.Nat.{ℕ, zero, suc, ◌+◌, ◌-◌, ◌^◌, ◌≤◌, ◌<◌}
use native.Mathlib.Nat.{zero-add, add-zero}
use native.Mathlib.Numerals.{add-one}
use native.Mathlib.Omega.{arith}
use borrow.Author.Tests.{lt-ltb}
use lib.Dec.{eqb}
use lib.ListN.{length, get_or}
use lib.Pow.{pow_mono}
use Rattle.pascal.specs.Choose.{choose}
use Rattle.pascal.specs.Row.{entry}
use Rattle.pascal.proofs.Choose.{choose_none, choose_below_power}
use Rattle.pascal.proofs.Row.{entry_is_choose}
use Rattle.words.specs.declared.Family.TheVariants.{Forbidden, Allowed}
use Rattle.words.specs.Pick.{pick}
use Rattle.words.specs.Word.{Monotone, Below, Word, shifted_from, shifted, unshifted, shifted_alphabet, count}
use Rattle.words.specs.Rank.{rank_of}
use Rattle.words.specs.Bits.{bits_of, set_bits}
use Rattle.words.specs.Next.{reset, first, next}
use Rattle.words.specs.Inversions.{multiplicity}
use Rattle.words.proofs.Rank.{rank_below_count}
use Rattle.words.proofs.Bits.{bits_fit, reset-bits, tail, bits_of_set, set_of_bits}
use Rattle.words.proofs.Shifted.{shifted-monotone, unshifted-shifted, word-shifted, shifted_first, shifted_next}
use Rattle.words.proofs.Next.{reset_long, next_long, next_is_a_word}
use Rattle.bits.specs.Mask.{clamped, LowMask}
use Rattle.seam.specs.Later.{following}
use Rattle.successor.specs.Later.{later}
use Rattle.merging.specs.Sorting.{insert}
use Rattle.derivatives.proofs.Inserted.{insert-word, insert-many, occurs_at_most}
use Rattle.derivatives.proofs.Walking.{Raised, raised, next_below, next-above, occurs_below, occurs-above, first_inserted, first_occurs}
use Rattle.adding.specs.Places.{spelled, Placed, Movable}

-- ---- the start

pub begun : (s k b r m : ℕ) → s + k < 64 → LowMask k b → r ≡ entry (s + k) (k + 1) → m ≡ 1 + pick (eqb s 0) k 0 → Placed s (first Allowed k) b r m
begun s k b r m h l e f =
    let c : clamped k ≡ k = rw (lt-ltb k 64 (omega arith)) in
    record {
      bits = sym (bits_of_set b) ∙ ap bits_of (l.symbols ∙ ap (first Forbidden) c ∙ sym (shifted_first Allowed k));
      rank = e ∙ entry_is_choose (s + k) (k + 1) ∙ ap (choose (s + k)) (add-one k) ∙ sym (first_inserted s k);
      times = f ∙ omega (arith, insert-many s (first Allowed k), first_occurs s k);
    }

-- ---- zeros at the front, shifted

shifted-reset : (k : ℕ) (w : List ℕ) → shifted Allowed (reset Allowed k w) ≡ reset Forbidden k (shifted_from Allowed k w)
unfolding reset
shifted-reset zero w = refl
shifted-reset (suc k) w = shifted-reset k (0 ∷ w) ∙ ap (λ (x : ℕ). reset Forbidden k (x ∷ shifted_from Allowed (suc k) w)) (zero-add k)

above_monotone : (k : ℕ) (w : List ℕ) → Monotone Forbidden (reset Forbidden k w) → Monotone Forbidden w
unfolding reset
above_monotone zero w m = m
above_monotone (suc k) w m = tail k w (above_monotone k (k ∷ w) m)

above_below : (n k : ℕ) (w : List ℕ) → Below n (reset Forbidden k w) → Below n w
unfolding reset
above_below n zero w b = b
above_below n (suc k) w b = (above_below n k (k ∷ w) b).1

-- the number after that of a word with k symbols at the bottom and y, which leaves a gap, above them
record Gap (k y : ℕ) (ys : List ℕ) : Type 0 where
  number : suc (bits_of (reset Forbidden k (y ∷ ys))) ≡ bits_of (k ∷ y ∷ ys)
  symbols : set_bits (suc (bits_of (reset Forbidden k (y ∷ ys)))) ≡ k ∷ y ∷ ys

gap : (k y : ℕ) (ys : List ℕ) → k < y → Monotone Forbidden (reset Forbidden k (y ∷ ys)) → Gap k y ys
unfolding bits_of
gap k y ys h m =
    let n : suc (bits_of (reset Forbidden k (y ∷ ys))) ≡ bits_of (k ∷ y ∷ ys) = reset-bits k (y ∷ ys) in
    record { number = n; symbols = ap set_bits n ∙ set_of_bits (k ∷ y ∷ ys) (h, above_monotone k (y ∷ ys) m) }

pub at_most : (t : Bool) (a : ℕ) → pick t a 0 ≤ a
at_most true a = omega arith
at_most false a = omega arith

-- ---- a step

alphabet_most : (n k : ℕ) → shifted_alphabet Allowed n k ≤ n + k
alphabet_most n zero = omega arith
alphabet_most n (suc k) = omega arith

record Moving (s b r m : ℕ) : Type 0 where
  least : ℕ
  zeros : ℕ
  symbol : get_or (set_bits b) 0 64 ≡ least
  room : later b + 1 < 2 ^ 64
  begins : get_or (set_bits (later b + 1)) 0 64 ≡ zeros
  row : s + zeros < 64
  few : m ≤ 64
  near : least < 64
  below : least < s → (r + 1 < 2 ^ 64) × Placed s (next Allowed (spelled b)) (later b) (r + 1) (m + pick (eqb (least + 1) s) 1 0)
  above : s ≤ least → (r + (choose (s + zeros) (zeros + 1) + (least - s) + 1) < 2 ^ 64)
      × Placed s (next Allowed (spelled b)) (later b) (r + (choose (s + zeros) (zeros + 1) + (least - s) + 1)) (1 + pick (eqb s 0) zeros 0)

module _ (s b r m n k x : ℕ) (xs : List ℕ) (p : Placed s (x ∷ xs) b r m) (l : Word Allowed n k (x ∷ xs)) (low : s < n) (width : n + k ≤ 64)
    (h : suc (rank_of Allowed (x ∷ xs)) < count Allowed n k) where
  set_is : set_bits b ≡ shifted Allowed (x ∷ xs)
  set_is = ap set_bits p.bits ∙ set_of_bits (shifted Allowed (x ∷ xs)) ((shifted-monotone Allowed (x ∷ xs)).0 l.monotone)

  word-is : spelled b ≡ x ∷ xs
  word-is = ap (unshifted Allowed) set_is ∙ unshifted-shifted Allowed (x ∷ xs)

  up_word : Word Allowed n k (next Allowed (x ∷ xs))
  up_word = next_is_a_word Allowed n k (x ∷ xs) (omega (arith, l.long)) l h

  up-shifted : Word Forbidden (shifted_alphabet Allowed n k) k (shifted Allowed (next Allowed (x ∷ xs)))
  up-shifted = (word-shifted Allowed n k (next Allowed (x ∷ xs))).0 up_word

  following-is : following b ≡ bits_of (shifted Allowed (next Allowed (x ∷ xs)))
  following-is = ap (λ (t : List ℕ). bits_of (next Forbidden t)) set_is ∙ ap bits_of (sym (shifted_next Allowed (x ∷ xs) l.monotone))

  power : 2 ^ shifted_alphabet Allowed n k ≤ 2 ^ 64
  power = pow_mono {i = shifted_alphabet Allowed n k} {j = 64} (omega (arith, alphabet_most n k))

  following-fits : following b < 2 ^ 64
  following-fits =
      omega (arith, following-is, power, bits_fit (shifted_alphabet Allowed n k) (shifted Allowed (next Allowed (x ∷ xs))) up-shifted.monotone up-shifted.below)

  later-is : later b ≡ bits_of (shifted Allowed (next Allowed (x ∷ xs)))
  later-is = simp (lt-ltb (following b) (2 ^ 64) following-fits) following-is

  abbrev rise : Raised 0 x xs
  rise = raised 0 x xs l.monotone

  -- the shifted symbols from the raised one up
  abbrev tops : List ℕ
  tops = shifted_from Allowed (suc rise.zeros) rise.rest

  up-reset : shifted Allowed (next Allowed (x ∷ xs)) ≡ reset Forbidden rise.zeros ((suc x + rise.zeros) ∷ tops)
  up-reset = ap (shifted Allowed) rise.is ∙ shifted-reset rise.zeros (suc x ∷ rise.rest)

  open-gap : Gap rise.zeros (suc x + rise.zeros) tops
  open-gap = gap rise.zeros (suc x + rise.zeros) tops (omega arith) (subst (Monotone Forbidden) up-reset up-shifted.monotone)

  later-next : later b + 1 ≡ suc (bits_of (reset Forbidden rise.zeros ((suc x + rise.zeros) ∷ tops)))
  later-next = add-one (later b) ∙ ap suc (later-is ∙ ap bits_of up-reset)

  tops-below : Below (shifted_alphabet Allowed n k) ((suc x + rise.zeros) ∷ tops)
  tops-below = above_below (shifted_alphabet Allowed n k) rise.zeros ((suc x + rise.zeros) ∷ tops) (subst (Below (shifted_alphabet Allowed n k)) up-reset up-shifted.below)

  room_is : later b + 1 < 2 ^ 64
  room_is =
      omega (
        arith,
        later-next,
        open-gap.number,
        power,
        bits_fit (shifted_alphabet Allowed n k) (rise.zeros ∷ (suc x + rise.zeros) ∷ tops)
            (omega arith, above_monotone rise.zeros ((suc x + rise.zeros) ∷ tops) (subst (Monotone Forbidden) up-reset up-shifted.monotone))
            (omega (arith, tops-below.0), tops-below),
      )

  zeros-few : rise.zeros < k
  zeros-few = omega (arith, ap length rise.is, reset_long Allowed rise.zeros (suc x ∷ rise.rest), next_long Allowed (x ∷ xs), l.long)

  rank_fits : rank_of Allowed (insert s (next Allowed (x ∷ xs))) < 2 ^ 64
  rank_fits =
      omega (
        arith,
        rank_below_count Allowed n (suc k) (insert s (next Allowed (x ∷ xs))) (insert-word n k s (next Allowed (x ∷ xs)) low up_word),
        choose_below_power (n + k) (suc k),
        pow_mono {i = n + k} {j = 64} width,
      )

  -- the next word, with a rank and a multiplicity that are found
  place : (q t : ℕ) → q ≡ rank_of Allowed (insert s (next Allowed (x ∷ xs))) → t ≡ suc (multiplicity s (next Allowed (x ∷ xs)))
      → (q < 2 ^ 64) × Placed s (next Allowed (spelled b)) (later b) q t
  place q t e f = (
    omega (arith, rank_fits),
    subst (λ (w : List ℕ). Placed s (next Allowed w) (later b) q t) (sym word-is)
        (record { bits = later-is; rank = e; times = f ∙ sym (insert-many s (next Allowed (x ∷ xs))) }),
  )

  moving-from : Moving s b r m
  moving-from =
      record {
        least = x;
        zeros = rise.zeros;
        symbol = ap (λ (t : List ℕ). get_or t 0 64) set_is ∙ add-zero x;
        room = room_is;
        begins = ap (λ (a : ℕ). get_or (set_bits a) 0 64) later-next ∙ ap (λ (t : List ℕ). get_or t 0 64) open-gap.symbols;
        row = omega (arith, zeros-few);
        few = omega (arith, p.times, occurs_at_most s (insert s (x ∷ xs)), (insert-word n k s (x ∷ xs) low l).long);
        near = omega (arith, l.below.0);
        below = λ d. place (r + 1) (m + pick (eqb (x + 1) s) 1 0)
            (omega (arith, p.rank, next_below s x xs d l.monotone))
            (omega (arith, p.times, insert-many s (x ∷ xs), occurs_below s x xs d l.monotone, ap {B = ℕ} (λ (a : ℕ). pick (eqb a s) 1 0) (add-one x)));
        above = λ d. place (r + (choose (s + rise.zeros) (rise.zeros + 1) + (x - s) + 1)) (1 + pick (eqb s 0) rise.zeros 0)
            (omega (arith, p.rank, next-above s x xs d l.monotone, ap (choose (s + rise.zeros)) (add-one rise.zeros)))
            (omega (arith, occurs-above s x xs d l.monotone));
      }

moving : (s b r m : ℕ) → Movable s b r m → Moving s b r m
moving s b r m v = go v.word v.placed v.is v.more
  where
    go : (w : List ℕ) → Placed s w b r m → Word Allowed v.alphabet v.degree w → suc (rank_of Allowed w) < count Allowed v.alphabet v.degree → Moving s b r m
    go [] p l h = absurd (omega (arith, ap (count Allowed v.alphabet) (sym l.long), choose_none v.alphabet))
    go (x ∷ xs) p l h = moving-from s b r m v.alphabet v.degree x xs p l v.low v.width h

-- ---- the same of the numbers that the code finds: least and zeros, the next set, the binomial and what is added to the multiplicity

module _ (s b r m : ℕ) (v : Movable s b r m) (a x : ℕ) (ea : a ≡ later b) (ex : x ≡ get_or (set_bits b) 0 64) where
  x-is : x ≡ (moving s b r m v).least
  x-is = ex ∙ (moving s b r m v).symbol

  replaced : (q t q' t' : ℕ) → Placed s (next Allowed (spelled b)) (later b) q t → q' ≡ q → t' ≡ t → Placed s (next Allowed (spelled b)) a q' t'
  replaced q t q' t' p e f = record { bits = ea ∙ p.bits; rank = e ∙ p.rank; times = f ∙ p.times }

  pub least_fits : x + 1 < 2 ^ 64
  least_fits = omega (arith, x-is, (moving s b r m v).near)

  pub moved-below : (t : ℕ) → t ≡ pick (eqb (x + 1) s) 1 0 → x < s → (r + 1 < 2 ^ 64) × (m + t < 2 ^ 64) × Placed s (next Allowed (spelled b)) a (r + 1) (m + t)
  moved-below t et h =
      let e : t ≡ pick (eqb ((moving s b r m v).least + 1) s) 1 0 = et ∙ ap {B = ℕ} (λ (y : ℕ). pick (eqb (y + 1) s) 1 0) x-is in
      let p = (moving s b r m v).below (omega (arith, x-is)) in
      (p.0, omega (arith, (moving s b r m v).few, et, at_most (eqb (x + 1) s) 1), replaced (r + 1) (m + pick (eqb ((moving s b r m v).least + 1) s) 1 0) (r + 1) (m + t) p.1 refl (ap (λ (y : ℕ). m + y) e))

  pub next_fits : a + 1 < 2 ^ 64
  next_fits = omega (arith, ea, (moving s b r m v).room)

  module _ (z : ℕ) (ez : z ≡ get_or (set_bits (a + 1)) 0 64) where
    z-is : z ≡ (moving s b r m v).zeros
    z-is = ez ∙ ap (λ (y : ℕ). get_or (set_bits (y + 1)) 0 64) ea ∙ (moving s b r m v).begins

    pub row_fits : s + z < 64
    row_fits = omega (arith, z-is, (moving s b r m v).row)

    pub moved-above : (g t : ℕ) → g ≡ entry (s + z) (z + 1) → t ≡ pick (eqb s 0) z 0 → s ≤ x
        → (r + (g + (x - s) + 1) < 2 ^ 64) × (1 + t < 2 ^ 64) × Placed s (next Allowed (spelled b)) a (r + (g + (x - s) + 1)) (1 + t)
    moved-above g t eg et h =
        let w = moving s b r m v in
        let p = w.above (omega (arith, x-is)) in
        let e : g ≡ choose (s + w.zeros) (w.zeros + 1) = eg ∙ entry_is_choose (s + z) (z + 1) ∙ ap (λ (y : ℕ). choose (s + y) (y + 1)) z-is in
        let f : t ≡ pick (eqb s 0) w.zeros 0 = et ∙ ap (λ (y : ℕ). pick (eqb s 0) y 0) z-is in
        let q : r + (g + (x - s) + 1) ≡ r + (choose (s + w.zeros) (w.zeros + 1) + (w.least - s) + 1) = ap₂ (λ (i j : ℕ). r + (i + (j - s) + 1)) e x-is in (
          omega (arith, q, p.0),
          omega (arith, et, at_most (eqb s 0) z, row_fits),
          replaced (r + (choose (s + w.zeros) (w.zeros + 1) + (w.least - s) + 1)) (1 + pick (eqb s 0) w.zeros 0) (r + (g + (x - s) + 1)) (1 + t) p.1 q (ap (λ (y : ℕ). 1 + y) f),
        )
