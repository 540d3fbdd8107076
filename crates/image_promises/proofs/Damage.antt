-- What one wrong byte does to a good image (02, section 1). Assumes nothing.
--   damaged_anywhere    with any byte changed, the contents list's too, an image is refused, or every coefficient that it gives is the entry of the term's rank in the table
--                       that its own rows name
--   body_damaged_is_good    with a byte of a body changed, an image stays good, with the same tables
--   rows_stay    and every row call answers as before
--   other_entries_stay, that_entry_changes    an entry keeps its value exactly if the byte is not one of its eight
--   other-lookups-stay, that-lookup-changes    so does a coefficient that is looked up
--   one_entry_has_it    each byte of the bodies is one of exactly one entry's
use mathlib.Core.Path.{◌≡◌, refl, sym, ap, ◌∙◌}
use mathlib.Core.Bool.{Bool, true, false}
use mathlib.Core.Logic.{◌⊎◌, inl, inr, ⊎_elim}
use mathlib.Core.List.{List}
use Prim.Native.Nat.{ℕ, zero, suc, ◌+◌, ◌*◌, ◌-◌, ◌≤◌, ◌<◌}
use native.Mathlib.Nat.{eq-or-lt_of_le}
use native.Mathlib.Omega.{arith}
use borrow.Author.Tests.{ltb-true, ltb-false}
use lib.Dec.{ltb}
use lib.ListN.{length, get_or, set, length-set}
use lib.Seq.{get_or-set_same, get_or-set_other}
use Rattle.answers.specs.declared.Index.{Index}
use Rattle.words.specs.declared.Family.{Family}
use Rattle.words.specs.Rank.{rank_of}
use Rattle.bits.specs.Member.{reaches}
use Rattle.taking.specs.Taken.{taken}
use Rattle.taking.proofs.Accepted.{taken_gives}
use Rattle.answers.specs.Says.{Says, refuses_with, refuses_at, gives, refused_if, and_then}
use Rattle.answers.specs.Terms.{word_of}
use Rattle.answers.proofs.Says.{passed, gives_same}
use Rattle.little_endian.specs.Bytes.{number_at}
use Rattle.image_rules.specs.Image.{row_place, alphabet_at, offset_at, entries_at, body_place, check_says, image_says}
use Rattle.image_rules.proofs.Good.{Good, good_exactly, bodies_rise}
use Rattle.image_rules.proofs.Local.{Same, number_same, good_same, Shape, good, bad, check_shape}
use Rattle.image_reading.specs.declared.Table.{Table}
use Rattle.image_reading.specs.Reading.{number_of_family, find_row, table_at, row_says}
use Rattle.image_reading.proofs.Looking.{found_of}
use Rattle.image_lookup.specs.Lookup.{entry_of, coefficient_says, lookup_says}
use Rattle.image_lookup.proofs.Looking.{RowIs}
use Rattle.image_promises.proofs.Lookups.{Entry, lookup_is_entry_of_rank}

-- ---- any byte

pub damaged_anywhere : (l : List ℕ) (j v : ℕ)
    → ((off : ℕ) × (image_says (set l j v) ≡ refuses_at 11 off))
    ⊎ ((t : ℕ) × (image_says (set l j v) ≡ gives t) × ((x : Index) (c : ℕ) → lookup_says (set l j v) x ≡ gives c → Entry (set l j v) x c))
damaged_anywhere l j v = go (check_shape (set l j v) (length (set l j v)))
  where
    go : Shape (image_says (set l j v))
        → ((off : ℕ) × (image_says (set l j v) ≡ refuses_at 11 off))
        ⊎ ((t : ℕ) × (image_says (set l j v) ≡ gives t) × ((x : Index) (c : ℕ) → lookup_says (set l j v) x ≡ gives c → Entry (set l j v) x c))
    go (bad off e) = inl (off, e)
    go (good t e) = inr (t, e, λ x c q. lookup_is_entry_of_rank (set l j v) x c q)

-- ---- a byte of a body

pub body_damaged_is_good : (l : List ℕ) (t j v : ℕ) → image_says l ≡ gives t → row_place t ≤ j → image_says (set l j v) ≡ gives t
body_damaged_is_good l t j v e h =
    ap (λ (n : ℕ). checked n) (length-set l j v)
    ∙ (good_exactly (set l j v) (length l) t).1 (good_same l (set l j v) (length l) t ((good_exactly l (length l) t).0 e) (λ i a b. sym (get_or-set_other l j i v 0 (λ q. omega arith))))
  where
    checked : ℕ → Says ℕ
    checked n = check_says (set l j v) n

-- a byte that the contents list has not
read_same : (l : List ℕ) (t j v : ℕ) → row_place t ≤ j → Same (set l j v) l (row_place t)
read_same l t j v h i a b = get_or-set_other l j i v 0 (λ q. omega arith)

find_same : (l m : List ℕ) (f k n : ℕ) → Same m l (row_place n) → n ≤ 64 → find_row m f k n ≡ find_row l f k n
unfolding find_row
find_same l m f k zero h a = refl
find_same l m f k (suc n) h a =
    cc (h (row_place n) (omega arith) (omega arith), h (row_place n + 1) (omega arith) (omega arith), find_same l m f k n (λ i b c. h i (omega arith) c) (omega arith))

table_same : (l m : List ℕ) (t i : ℕ) → Same m l (row_place t) → t ≤ 64 → i < t → table_at m i ≡ table_at l i
table_same l m t i h a b =
    let x : alphabet_at m i ≡ alphabet_at l i = h (row_place i + 2) (omega arith) (omega arith) in
    let y : offset_at m i ≡ offset_at l i = number_same m l (row_place t) h (row_place i + 4) 4 (omega arith) (omega arith) in
    let z : entries_at m i ≡ entries_at l i = number_same m l (row_place t) h (row_place i + 8) 4 (omega arith) (omega arith) in
    ap (λ (n : ℕ). record { alphabet = n; offset = offset_at m i; entries = entries_at m i }) x
    ∙ ap (λ (n : ℕ). record { alphabet = alphabet_at l i; offset = n; entries = entries_at m i }) y
    ∙ ap (λ (n : ℕ). record { alphabet = alphabet_at l i; offset = offset_at l i; entries = n }) z

pub rows_stay : (l : List ℕ) (t j v : ℕ) (F : Family) (k : ℕ) → image_says l ≡ gives t → row_place t ≤ j → row_says (set l j v) F k ≡ row_says l F k
rows_stay l t j v F k e h =
    ap (λ (s : Says ℕ). and_then (and_then s (λ (n : ℕ). find_row (set l j v) f k n)) (λ (i : ℕ). gives (table_at (set l j v) i))) (body_damaged_is_good l t j v e h)
    ∙ ap (λ (s : Says ℕ). and_then s (λ (i : ℕ). gives (table_at (set l j v) i))) (find_same l (set l j v) f k t (read_same l t j v h) few)
    ∙ go (find_row l f k t) refl
    ∙ sym (ap (λ (s : Says ℕ). and_then (and_then s (λ (n : ℕ). find_row l f k n)) (λ (i : ℕ). gives (table_at l i))) e)
  where
    f : ℕ
    f = number_of_family F

    few : t ≤ 64
    few = ((good_exactly l (length l) t).0 e).few

    go : (s : Says ℕ) → find_row l (number_of_family F) k t ≡ s → and_then s (λ (i : ℕ). gives (table_at (set l j v) i)) ≡ and_then s (λ (i : ℕ). gives (table_at l i))
    go (refuses_with d c) q = refl
    go (gives i) q = ap gives (table_same l (set l j v) t i (read_same l t j v h) few (found_of l (number_of_family F) k t i q).below)

-- ---- the numbers around one byte

number_below : (l : List ℕ) (j v at w : ℕ) → j < at → number_at (set l j v) at w ≡ number_at l at w
unfolding number_at
number_below l j v at zero h = refl
number_below l j v at (suc w) h = omega (arith, get_or-set_other l j at v 0 (λ e. omega arith), number_below l j v (suc at) w (omega arith))

number_above : (l : List ℕ) (j v at w : ℕ) → at + w ≤ j → number_at (set l j v) at w ≡ number_at l at w
unfolding number_at
number_above l j v at zero h = refl
number_above l j v at (suc w) h = omega (arith, get_or-set_other l j at v 0 (λ e. omega arith), number_above l j v (suc at) w (omega arith))

number_tells : (l : List ℕ) (j v at w : ℕ) → j < length l → at ≤ j → j < at + w → number_at (set l j v) at w ≡ number_at l at w → v ≡ get_or l j 0
unfolding number_at
number_tells l j v at zero n a b e = absurd (omega arith)
number_tells l j v at (suc w) n a b e =
    ⊎_elim
    (λ (q : at ≡ j).
    let x : get_or (set l j v) at 0 ≡ v = ap (λ (i : ℕ). get_or (set l j v) i 0) q ∙ get_or-set_same l j v 0 n in
    let y : get_or l at 0 ≡ get_or l j 0 = ap (λ (i : ℕ). get_or l i 0) q in
    let z : number_at (set l j v) (suc at) w ≡ number_at l (suc at) w = number_below l j v (suc at) w (omega arith) in
    let r : v ≡ get_or l j 0 = omega arith in
    r)
    (λ (q : at < j). number_tells l j v (suc at) w n (omega arith) (omega arith) (let z : number_at (set l j v) (suc at) w ≡ number_at l (suc at) w = omega (arith, get_or-set_other l j at v 0 (λ s. omega arith)) in z))
    (eq-or-lt_of_le a)

-- the eight bytes of entry r of a table
abbrev pub OfEntry : ℕ → Table → ℕ → Type 0
OfEntry j t r = (t.offset + 8 * r ≤ j) × (j < t.offset + 8 * r + 8)

below_or : (a b : ℕ) → (a < b) ⊎ (b ≤ a)
below_or a b = go (ltb a b) refl
  where
    go : (c : Bool) → ltb a b ≡ c → (a < b) ⊎ (b ≤ a)
    go true e = inl (ltb-true a b e)
    go false e = inr (ltb-false a b e)

pub other_entries_stay : (l : List ℕ) (j v : ℕ) (t : Table) (r : ℕ) → (OfEntry j t r → ⊥) → entry_of (set l j v) t r ≡ entry_of l t r
other_entries_stay l j v t r h =
    ⊎_elim
    (λ (a : j < t.offset + 8 * r). number_below l j v (t.offset + 8 * r) 8 a)
    (λ (a : t.offset + 8 * r ≤ j).
    number_above l j v (t.offset + 8 * r) 8 (⊎_elim (λ (b : j < t.offset + 8 * r + 8). absurd (h (a, b))) (λ (b : t.offset + 8 * r + 8 ≤ j). b) (below_or j (t.offset + 8 * r + 8))))
    (below_or j (t.offset + 8 * r))

pub that_entry_changes : (l : List ℕ) (j v : ℕ) (t : Table) (r : ℕ) → j < length l → (v ≡ get_or l j 0 → ⊥) → OfEntry j t r → entry_of (set l j v) t r ≡ entry_of l t r → ⊥
that_entry_changes l j v t r n d h e = d (number_tells l j v (t.offset + 8 * r) 8 n h.0 h.1 e)

-- ---- the lookups

module _ (l : List ℕ) (t j v : ℕ) (e : image_says l ≡ gives t) (h : row_place t ≤ j) (x : Index) (T : Table) (r : RowIs l x T) where
  looked-up : lookup_says (set l j v) x ≡ taken x (coefficient_says (set l j v) x T)
  looked-up = ap (λ (s : Says Table). taken x (and_then s (coefficient_says (set l j v) x))) (rows_stay l t j v x.family (length (word_of x)) e h ∙ r)

  pub other-lookups-stay : (OfEntry j T (rank_of x.family (word_of x)) → ⊥) → lookup_says (set l j v) x ≡ lookup_says l x
  other-lookups-stay n =
      looked-up
      ∙ ap (λ (c : ℕ). taken x (refused_if (reaches T.alphabet (word_of x)) 3 (gives c))) (other_entries_stay l j v T (rank_of x.family (word_of x)) n)
      ∙ sym (ap (λ (s : Says Table). taken x (and_then s (coefficient_says l x))) r)

  pub that-lookup-changes : (c : ℕ) → j < length l → (v ≡ get_or l j 0 → ⊥) → OfEntry j T (rank_of x.family (word_of x)) → lookup_says l x ≡ gives c
      → lookup_says (set l j v) x ≡ gives c → ⊥
  that-lookup-changes c b d o p q =
      let k = value l (sym (ap (λ (s : Says Table). taken x (and_then s (coefficient_says l x))) r) ∙ p) in
      let m = value (set l j v) (sym looked-up ∙ q) in
      that_entry_changes l j v T (rank_of x.family (word_of x)) b d o (m ∙ sym k)
    where
      value : (i : List ℕ) → taken x (coefficient_says i x T) ≡ gives c → entry_of i T (rank_of x.family (word_of x)) ≡ c
      value i w =
          let a = taken_gives x (coefficient_says i x T) c w in
          gives_same (entry_of i T (rank_of x.family (word_of x))) c (passed (reaches T.alphabet (word_of x)) 3 (gives (entry_of i T (rank_of x.family (word_of x)))) c a.1).1

-- ---- each byte of the bodies is one entry's

-- the entry, of n from base on, that a byte belongs to
entry_at : (j base n : ℕ) → base ≤ j → j < base + 8 * n → (r : ℕ) × (r < n) × (base + 8 * r ≤ j) × (j < base + 8 * r + 8)
entry_at j base zero a b = absurd (omega arith)
entry_at j base (suc n) a b =
    ⊎_elim
    (λ (q : j < base + 8 * n). let r = entry_at j base n a q in (r.0, omega (arith, r.1), r.2, r.3))
    (λ (q : base + 8 * n ≤ j). (n, omega arith, q, omega arith))
    (below_or j (base + 8 * n))

-- the table, of the first n, that a byte belongs to
table_at_lem : (l : List ℕ) (j n : ℕ) → body_place l 0 ≤ j → j < body_place l n → (i : ℕ) × (i < n) × (body_place l i ≤ j) × (j < body_place l i + 8 * entries_at l i)
unfolding body_place
table_at_lem l j zero a b = absurd (omega arith)
table_at_lem l j (suc n) a b =
    ⊎_elim
    (λ (q : j < body_place l n). let r = table_at_lem l j n a q in (r.0, omega (arith, r.1), r.2, r.3))
    (λ (q : body_place l n ≤ j). (n, omega arith, q, b))
    (below_or j (body_place l n))

pub record Owner (l : List ℕ) (t j : ℕ) : Type 0 where
  pub row : ℕ
  pub rank : ℕ
  pub low : row < t
  pub below : rank < entries_at l row
  pub has : OfEntry j (table_at l row) rank
  pub alone : (i r : ℕ) → i < t → r < entries_at l i → OfEntry j (table_at l i) r → (i ≡ row) × (r ≡ rank)

pub one_entry_has_it : (l : List ℕ) (t j : ℕ) → image_says l ≡ gives t → row_place t ≤ j → j < length l → Owner l t j
unfolding body_place
one_entry_has_it l t j e a b =
    let g : Good l (length l) t = (good_exactly l (length l) t).0 e in
    let p = table_at_lem l j t (omega (arith, g.is)) (omega (arith, g.ends)) in
    let q = entry_at j (body_place l p.0) (entries_at l p.0) p.2 p.3 in
    let o : offset_at l p.0 ≡ body_place l p.0 = (g.row p.0 p.1).offset in
    record {
      row = p.0;
      rank = q.0;
      low = p.1;
      below = q.1;
      has = (omega (arith, q.2), omega (arith, q.3));
      alone = λ i r c d h.
          let s : offset_at l i ≡ body_place l i = (g.row i c).offset in
          let u : i ≡ p.0 = same i p.0 (omega (arith, h.0, h.1)) p.2 (omega (arith, h.0, h.1)) p.3 in
          (u, let w : body_place l i ≡ body_place l p.0 = ap (body_place l) u in let z : r ≡ q.0 = omega (arith, h.0, h.1, q.2, q.3) in z);
    }
  where
    -- two bodies that have a byte in common are one
    same : (i k : ℕ) → body_place l i ≤ j → body_place l k ≤ j → j < body_place l i + 8 * entries_at l i → j < body_place l k + 8 * entries_at l k → i ≡ k
    same i k x y z w =
        ⊎_elim
        (λ (h : i < k). let d : k - suc i + suc i ≡ k = omega arith in absurd (omega (arith, bodies_rise l (suc i) (k - suc i), ap (body_place l) d)))
        (λ (h : k ≤ i). ⊎_elim (λ (q : k ≡ i). sym q) (λ (q : k < i). let d : i - suc k + suc k ≡ i = omega arith in absurd (omega (arith, bodies_rise l (suc k) (i - suc k), ap (body_place l) d))) (eq-or-lt_of_le h))
        (below_or i k)
