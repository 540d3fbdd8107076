-- The laws of the search by halving, over numbers of w binary digits. Assumes nothing.
--   window    where the search begins: in the rows from one that holds at most what is left
--   lowered    the numbers sought are below a row that holds more than what is left
--   index-small    a window's index is at most 64
--   upper, lower    a comparison with the row in the middle leaves one half of a window
--   found_below, found_fits, found    the row is found: its number joins the others, and what it weighs is taken off
--   below_width, one_fits, one_number    the number of rank r is r
--   value_fits    the set of a rank below a count is a number of so many digits as the count's alphabet
--   started    the search begins, with no number found
--   no_numbers    the set of no numbers is 0
use mathlib.Core.Path.{◌≡◌, sym, ap, subst, subst₂, ◌∙◌}
use mathlib.Core.List.{List, [], ◌∷◌}
use Prim.Native.Nat.{ℕ, zero, suc, ◌+◌, ◌-◌, ◌*◌, ◌%◌, ◌^◌, ◌≤◌, ◌<◌}
use native.Mathlib.Nat.{le_refl, le-mul_of_pos_right, not-suc-le-zero, add-mul, mul-add, one-mul, zero-add, add-zero, sub-zero}
use native.Mathlib.Omega.{arith}
use lib.Pow.{pow_mono, shl_exact}
use Rattle.words.specs.declared.Family.TheVariants.{Forbidden}
use Rattle.words.specs.declared.Family.{Family}
use Rattle.words.specs.Word.{Word, shift}
use Rattle.pascal.specs.Choose.{choose}
use Rattle.pascal.specs.Row.{entry}
use Rattle.words.specs.Unrank.{fill, top, unrank_of}
use Rattle.words.specs.Bits.{bits_of}
use Rattle.pascal.proofs.Choose.{pascal, choose_none, choose-few, choose_grows, choose-fewer}
use Rattle.pascal.proofs.Row.{entry_is_choose}
use Rattle.words.proofs.Unrank.{fill_step, unrank_is_a_word}
use Rattle.words.proofs.Bits.{bits_fit}
use Rattle.halving.specs.Search.{value, Sought, Among, Taken}

entry_grows : (k n m : ℕ) → n ≤ m → entry n k ≤ entry m k
entry_grows k n m h = subst₂ ◌≤◌ (sym (entry_is_choose n k)) (sym (entry_is_choose m k)) (choose_grows k h)

-- ---- where the search begins

pub window : {w k s r a b n c : ℕ} → Sought w k s r a → w ≤ 64 → c ≡ entry b k → b + n ≡ s → c ≤ r → Among b k r 0 n
window {k = k} {s} {b = b} {n} h u x e l =
    let p : b ≡ b + 0 * n = omega arith in
    let q : s ≡ b + (0 * n + n) = omega arith in
    record {
      room = omega (arith, h.low);
      low = omega (arith, x, ap (λ (t : ℕ). entry t k) p);
      high = omega (arith, h.fits, ap (λ (t : ℕ). entry t k) q);
    }

pub lowered : {w k s r a h c : ℕ} → Sought w k s r a → c ≡ entry h k → h ≤ s → r < c → Sought w k h r a
lowered q x l g = record { low = omega (arith, q.low); fits = omega (arith, x); room = q.room }

-- ---- a half

-- where the halves of a window begin and end
halves : (j n : ℕ) → ((j + j) * n ≡ j * (n + n)) × ((j + j + 1) * n ≡ j * (n + n) + n)
halves j n =
    let e : (j + j) * n ≡ j * (n + n) = add-mul j j n ∙ sym (mul-add j n n) in
    (e, add-mul (j + j) 1 n ∙ omega (arith, e, one-mul n))

pub index-small : {b k r j n : ℕ} → Among b k r j (n + n) → 0 < n → j ≤ 64
index-small {j = j} {n} d p = omega (arith, d.room, le-mul_of_pos_right {m = n + n} j (omega arith))

pub upper : {b k r j n t c : ℕ} → Among b k r j (n + n) → t ≡ b + (j * (n + n) + n) → c ≡ entry t k → c ≤ r → Among b k r (j + j + 1) n
upper {b} {k} {r} {j} {n} {t} d e x l =
    let m : (j + j + 1) * n ≡ j * (n + n) + n = (halves j n).1 in
    let p : t ≡ b + (j + j + 1) * n = omega arith in
    let q : b + (j * (n + n) + (n + n)) ≡ b + ((j + j + 1) * n + n) = omega arith in
    record {
      room = omega (arith, d.room);
      low = omega (arith, x, ap (λ (u : ℕ). entry u k) p);
      high = omega (arith, d.high, ap (λ (u : ℕ). entry u k) q);
    }

pub lower : {b k r j n t c : ℕ} → Among b k r j (n + n) → t ≡ b + (j * (n + n) + n) → c ≡ entry t k → r < c → Among b k r (j + j) n
lower {b} {k} {r} {j} {n} {t} d e x l =
    let m : (j + j) * n ≡ j * (n + n) = (halves j n).0 in
    let p : b + j * (n + n) ≡ b + (j + j) * n = omega arith in
    let q : t ≡ b + ((j + j) * n + n) = omega arith in
    record {
      room = omega (arith, d.room);
      low = omega (arith, d.low, ap (λ (u : ℕ). entry u k) p);
      high = omega (arith, x, ap (λ (u : ℕ). entry u k) q);
    }

-- ---- the row is found

-- what is filled in and what stood above it are added up
fill-bits : (F : Family) (i r : ℕ) (w : List ℕ) → bits_of (fill F i r w) ≡ bits_of (fill F i r []) + bits_of w
unfolding fill bits_of
fill-bits F zero r w = sym (zero-add (bits_of w))
fill-bits F (suc i) r w =
    let left : ℕ = r - choose (top i r) (suc i) in
    let x : ℕ = top i r - shift F i in
    omega (arith, fill-bits F i left (x ∷ w), fill-bits F i left (x ∷ []))

value_step : (i r t : ℕ) → choose t (suc i) ≤ r → r < choose (suc t) (suc i) → value (suc i) r ≡ 2 ^ t + value i (r - choose t (suc i))
unfolding bits_of
value_step i r t h l =
    ap bits_of (fill_step Forbidden i r [] t h l ∙ ap (λ (x : ℕ). fill Forbidden i (r - choose t (suc i)) (x ∷ [])) (sub-zero t))
    ∙ fill-bits Forbidden i (r - choose t (suc i)) (t ∷ []) ∙ omega arith

digit : (w t : ℕ) → t < w → 1 * 2 ^ t % 2 ^ w ≡ 2 ^ t
digit w t h = shl_exact {a = 1} 1 t w (le_refl 2) (omega arith) ∙ one-mul (2 ^ t)

pub found_below : {w b k s r a j t : ℕ} → Sought w k s r a → Among b k r j 1 → t ≡ b + j → t < s
found_below {b = b} {k} {s} {j = j} {t} h d e =
    let l : b + j * 1 ≡ t = omega arith in
    choose-fewer k t s
    (omega (arith, h.fits, d.low, ap (λ (z : ℕ). entry z k) l, entry_is_choose t k, entry_is_choose s k))

-- what the row that was found says of the set
record Placed (k r t c : ℕ) : Type 0 where
  weighs : c ≤ r
  left : r - c < entry t (k - 1)
  split : value k r ≡ 2 ^ t + value (k - 1) (r - c)

placed : {b k r j t c : ℕ} → Among b k r j 1 → t ≡ b + j → c ≡ entry t k → 0 < k → Placed k r t c
placed {k = zero} d e x p = absurd (not-suc-le-zero p)
placed {b} {k = suc i} {r} {j} {t} {c} d e x p =
    let y : c ≡ choose t (suc i) = x ∙ entry_is_choose t (suc i) in
    let l : b + j * 1 ≡ t = omega arith in
    let u : b + (j * 1 + 1) ≡ suc t = omega arith in
    let g : c ≤ r = omega (arith, x, d.low, ap (λ (z : ℕ). entry z (suc i)) l) in
    let o : r < choose (suc t) (suc i) = omega (arith, d.high, ap (λ (z : ℕ). entry z (suc i)) u, entry_is_choose (suc t) (suc i)) in
    let v : suc i - 1 ≡ i = omega arith in
    record {
      weighs = g;
      left = rw v (omega (arith, pascal t i, entry_is_choose t i));
      split = rw (v, y) (value_step i r t (omega arith) o);
    }

pub found_fits : {w b k s r a j t c : ℕ} → Sought w k s r a → Among b k r j 1 → t ≡ b + j → c ≡ entry t k → 0 < k → a + 1 * 2 ^ t % 2 ^ w < 2 ^ w
found_fits {w} {t = t} h d e x p =
    omega (arith, h.room, digit w t (omega (arith, h.low, found_below h d e)), (placed d e x p).split)

pub found : {w b k s r a j t c : ℕ} → Sought w k s r a → Among b k r j 1 → t ≡ b + j → c ≡ entry t k → 0 < k
    → Taken w k s r a c (a + 1 * 2 ^ t % 2 ^ w)
found {w} {k = k} {s} {a = a} {t = t} {c} h d e x p =
    let y = placed d e x p in
    let q : t < s = found_below h d e in
    rw (digit w t (omega (arith, h.low)))
    (record {
      weighs = y.weighs;
      next = record {
        low = h.low;
        fits = omega (arith, y.left, entry_grows (k - 1) t s (omega arith));
        room = omega (arith, h.room, y.split);
      };
      sum = omega (arith, y.split);
    })

-- ---- the last position

choose_one : (n : ℕ) → choose n 1 ≡ n
choose_one zero = choose-few 0 1 (le_refl 1)
choose_one (suc n) = omega (arith, pascal n 0, choose_none n, choose_one n)

pub below_width : {w s r a : ℕ} → Sought w 1 s r a → r < s
below_width {s = s} h = omega (arith, h.fits, entry_is_choose s 1, choose_one s)

value_one : (r : ℕ) → value 1 r ≡ 2 ^ r
unfolding fill bits_of
value_one r = value_step 0 r r (omega (arith, choose_one r)) (omega (arith, choose_one (suc r))) ∙ add-zero (2 ^ r)

pub one_fits : {w s r a : ℕ} → Sought w 1 s r a → a + 1 * 2 ^ r % 2 ^ w < 2 ^ w
one_fits {w} {r = r} h = omega (arith, h.room, digit w r (omega (arith, h.low, below_width h)), value_one r)

pub one_number : {w s r a : ℕ} → Sought w 1 s r a → a + 1 * 2 ^ r % 2 ^ w ≡ a + value 1 r
one_number {w} {r = r} {a} h = ap (λ (x : ℕ). a + x) (digit w r (omega (arith, h.low, below_width h)) ∙ sym (value_one r))

-- ---- the ends

-- the set of a rank below the count has only numbers that the count is over
pub value_fits : (n k r : ℕ) → r < choose n k → value k r < 2 ^ n
value_fits n k r h =
    let w : Word Forbidden n k (unrank_of Forbidden k r) = unrank_is_a_word Forbidden n k r h in
    bits_fit n (unrank_of Forbidden k r) w.monotone w.below

pub started : {w h j k s r : ℕ} → k ≡ j → s ≤ h → h ≤ w → r < entry s k → Sought w j h r 0
started {w} {h} {j} {k} {s} {r} e l m g =
    let f : r < entry h j = omega (arith, subst (λ (x : ℕ). r < entry s x) e g, entry_grows j s h l) in
    record {
      low = m;
      fits = f;
      room = omega (arith, value_fits h j r (omega (arith, f, entry_is_choose h j)), pow_mono m);
    }

pub no_numbers : (k r : ℕ) → k ≡ 0 → 0 ≡ value k r
unfolding fill bits_of
no_numbers k r e = ap (λ (x : ℕ). value x r) (sym e)
