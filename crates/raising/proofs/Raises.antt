-- The next word by the position of the symbol that is raised. Assumes nothing.
--   raise_none, raise-found, raise-more    the search from the top down: it ends, it finds, it goes on
--   raised_long, raised_at_lem    the next word by its symbols
use mathlib.Core.Path.{◌≡◌, refl, sym, ap, subst, ◌∙◌}
use mathlib.Core.Bool.{true, false}
use mathlib.Core.List.{List, [], ◌∷◌, ◌++◌}
use Prim.Native.Nat.{ℕ, zero, suc, ◌+◌, ◌-◌, ◌≤◌, ◌<◌, zero-le}
use native.Mathlib.Nat.{le_refl, le_of_suc-le-suc, not-suc-le-zero}
use native.Mathlib.Decide.{dec_lt}
use native.Mathlib.Omega.{arith}
use borrow.Author.Tests.{lt-ltb, le-ltb}
use lib.ListN.{length, get_or, take, drop, length-append, length-drop, get_or-append}
use lib.Seq.{length-take-le, drop-cons, drop-length, get_or-take, get_or-append-add}
use Rattle.words.specs.declared.Family.{Family}
use Rattle.words.specs.declared.Family.TheVariants.{Forbidden, Allowed}
use Rattle.words.specs.Next.{highest, base}
use Rattle.lexicographic.specs.Order.{least, climb, has_later, lex_next}
use Rattle.lexicographic.proofs.Next.{climb_long}
use Rattle.raising.specs.Raised.{raised_at, next_at, Raise}

-- ---- the highest symbol, and the lowest

pub highest_forbidden : (F : Family) (n d x t : ℕ) → F ≡ Forbidden → t ≡ n - 1 → x ≡ t - d → x ≡ highest F n d
highest_forbidden F n d x t e p q = rw e (omega arith)

pub highest_allowed : (F : Family) (n d t : ℕ) → F ≡ Allowed → t ≡ n - 1 → t ≡ highest F n d
highest_allowed F n d t e p = rw e p

pub base_le : (F : Family) (d : ℕ) → base F d ≤ d
base_le Forbidden d = le_refl d
base_le Allowed d = zero-le

-- ---- the search

pub raise_starts : (F : Family) (n : ℕ) (w : List ℕ) → has_later F n (drop (length w) w) ≡ false
unfolding has_later
raise_starts F n w = ap (has_later F n) (drop-length w)

pub raise_none : (F : Family) (n : ℕ) (w : List ℕ) (i : ℕ) → has_later F n (drop i w) ≡ false → i ≡ 0 → Raise F n w 0
raise_none F n w i e z =
    record { within = omega arith; none = λ q. subst (λ (j : ℕ). has_later F n (drop j w) ≡ false) z e; some = λ q. absurd (omega arith); is = λ q. absurd (omega arith) }

-- the symbol at i - 1, with what stands above it
module _ (F : Family) (n : ℕ) (w : List ℕ) (i : ℕ) (p : 0 < i) (h : i ≤ length w) (e : has_later F n (drop i w) ≡ false) where
  parts : drop (i - 1) w ≡ get_or w (i - 1) 0 ∷ drop i w
  parts =
      let e : suc (i - 1) ≡ i = omega arith in
      drop-cons w (i - 1) 0 (omega arith) ∙ ap (λ (j : ℕ). get_or w (i - 1) 0 ∷ drop j w) e

  above : length (drop i w) ≡ length w - i
  above = length-drop i w

  pub raise-more : highest F n (length w - i) ≤ get_or w (i - 1) 0 → has_later F n (drop (i - 1) w) ≡ false
  unfolding has_later
  raise-more l = ap (has_later F n) parts ∙ rw (e, above, le-ltb (get_or w (i - 1) 0) (highest F n (length w - i)) l)

  here : get_or w (i - 1) 0 < highest F n (length w - i) → has_later F n (drop (i - 1) w) ≡ true
  unfolding has_later
  here l = ap (has_later F n) parts ∙ rw (e, above, lt-ltb (get_or w (i - 1) 0) (highest F n (length w - i)) l)

  next_here : lex_next F n (drop (i - 1) w) ≡ climb F (suc (length w - i)) (suc (get_or w (i - 1) 0))
  unfolding lex_next
  next_here = ap (lex_next F n) parts ∙ rw (e, above)

-- what stands below a part that has a later word
below : (F : Family) (n : ℕ) (w : List ℕ) (j : ℕ) → has_later F n (drop j w) ≡ true → (has_later F n w ≡ true) × (lex_next F n w ≡ take j w ++ lex_next F n (drop j w))
unfolding has_later lex_next
below F n w zero e = (e, refl)
below F n [] (suc j) e = absurd (let o : ◌≡◌ {A = ℕ} 0 1 = cc in omega arith)
below F n (x ∷ xs) (suc j) e = go (below F n xs j e)
  where
    go : (has_later F n xs ≡ true) × (lex_next F n xs ≡ take j xs ++ lex_next F n (drop j xs))
        → (has_later F n (x ∷ xs) ≡ true) × (lex_next F n (x ∷ xs) ≡ x ∷ take j xs ++ lex_next F n (drop j xs))
    go t = (rw t.0, rw t.0 (ap (λ (l : List ℕ). x ∷ l) t.1))

pub raise-found : (F : Family) (n : ℕ) (w : List ℕ) (i : ℕ) → 0 < i → i ≤ length w → has_later F n (drop i w) ≡ false → get_or w (i - 1) 0 < highest F n (length w - i)
    → Raise F n w i
raise-found F n w i p h e l =
    let t = below F n w (i - 1) (here F n w i p h e l) in
    record { within = h; none = λ q. absurd (omega arith); some = λ q. t.0; is = λ q. t.1 ∙ ap (λ (v : List ℕ). take (i - 1) w ++ v) (next_here F n w i p h e) }

-- ---- the next word by its symbols

climb_at : (F : Family) (k y d : ℕ) → d < k → get_or (climb F k y) d 0 ≡ y + base F d
unfolding climb
climb_at F zero y d h = absurd (not-suc-le-zero h)
climb_at F (suc k) y zero h = start F
  where
    start : (F : Family) → y ≡ y + base F 0
    start Forbidden = omega arith
    start Allowed = omega arith
climb_at F (suc k) y (suc d) h = climb_at F k (least F y) d (le_of_suc-le-suc h) ∙ up F
  where
    up : (F : Family) → least F y + base F d ≡ y + base F (suc d)
    up Forbidden = omega arith
    up Allowed = omega arith

pub raised_long : (F : Family) (w : List ℕ) (r : ℕ) → 0 < r → r ≤ length w → length (raised_at F w r) ≡ length w
raised_long F w r p h =
    omega (
      arith,
      length-append (take (r - 1) w) (climb F (suc (length w - r)) (suc (get_or w (r - 1) 0))),
      length-take-le (r - 1) w (omega arith),
      climb_long F (suc (length w - r)) (suc (get_or w (r - 1) 0)),
    )

pub raised_at_lem : (F : Family) (w : List ℕ) (r : ℕ) → 0 < r → r ≤ length w → (j : ℕ) → j < length w → get_or (raised_at F w r) j 0 ≡ next_at F w r j
raised_at_lem F w r p h j l = go (dec_lt (j + 1) r)
  where
    u : List ℕ
    u = take (r - 1) w

    v : List ℕ
    v = climb F (suc (length w - r)) (suc (get_or w (r - 1) 0))

    long : length u ≡ r - 1
    long = length-take-le (r - 1) w (omega arith)

    go : Dec (j + 1 < r) → get_or (u ++ v) j 0 ≡ next_at F w r j
    go (yes q) = rw (lt-ltb (j + 1) r q) (get_or-append u v 0 j (omega (arith, long)) ∙ get_or-take (r - 1) w j 0 (omega arith))
    go (no q) =
        let d : ℕ = j + 1 - r in
        let e : length u + d ≡ j = omega (arith, long) in
        rw (le-ltb (j + 1) r (omega arith))
        (ap (λ (i : ℕ). get_or (u ++ v) i 0) (sym e) ∙ get_or-append-add u v d 0 ∙ climb_at F (suc (length w - r)) (suc (get_or w (r - 1) 0)) d (omega arith) ∙ ap (λ (y : ℕ). y + base F d) (more (get_or w (r - 1) 0)))
      where
        more : (x : ℕ) → suc x ≡ x + 1
        more x = omega arith
