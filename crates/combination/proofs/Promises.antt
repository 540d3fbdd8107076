-- The promises of the calls on sets, as theorems about what they say. Assumes nothing.
--   insert_members    a set with a symbol inserted has that symbol and those it had
--   insert_contains    so it contains that symbol
--   position_of_symbol, symbol_of_position    the position of the symbol at p is p, and at the position of s stands s
--   select_symbols    a selection has the symbols at the positions, in their order
--   select_one    the selection at one position has the symbol there
use mathlib.Core.Path.{◌≡◌, refl, sym, ap, subst, ◌∙◌}
use mathlib.Core.Bool.{true, false, not}
use mathlib.Core.Logic.{◌↔◌, ◌⊎◌, inl}
use mathlib.Core.List.{List, [], ◌∷◌}
use Prim.Native.Nat.{ℕ, zero, suc, ◌^◌, ◌<◌}
use native.Mathlib.Nat.{le_of_suc-le-suc, not-suc-le-zero, add-zero}
use borrow.Author.Tests.{not-false}
use lib.Dec.{ltb}
use lib.ListN.{length, get_or}
use Rattle.words.specs.declared.Family.TheVariants.{Forbidden}
use Rattle.words.specs.Word.{Monotone, Below}
use Rattle.words.specs.HowMany.{In}
use Rattle.words.specs.Inversions.{smaller_in}
use Rattle.words.specs.Bits.{bits_of, set_bits}
use Rattle.words.proofs.Bits.{rest, tail, set_of_bits, set-bits-monotone}
use Rattle.words.proofs.SetLaws.{from_at, position_is_how_many_below, set_of_one}
use Rattle.answers.specs.Says.{gives, refused_if}
use Rattle.answers.proofs.Says.{gives_same, passed}
use Rattle.words.specs.Members.{stands_in}
use Rattle.bits.specs.Member.{reaches}
use Rattle.words.proofs.Members.{at_in, in_at, stands_is_in, stands_is_not_in}
use Rattle.bits.proofs.Member.{reaches_not}
use Rattle.combination.specs.Rules.{insert_says, position_says, symbols_at, select_says}
use Rattle.combination.proofs.Inserting.{in_with_one}

-- ---- insertion

pub insert_members : (a s b : ℕ) → insert_says a s ≡ gives b → (x : ℕ) → In x (set_bits b) ↔ ((x ≡ s) ⊎ In x (set_bits a))
insert_members a s b e x = go (passed (ltb 63 s) 7 (refused_if (stands_in s (set_bits a)) 5 (gives (bits_of (s ∷ set_bits a)))) b e)
  where
    go : (ltb 63 s ≡ false) × (refused_if (stands_in s (set_bits a)) 5 (gives (bits_of (s ∷ set_bits a))) ≡ gives b) → In x (set_bits b) ↔ ((x ≡ s) ⊎ In x (set_bits a))
    go p = on (passed (stands_in s (set_bits a)) 5 (gives (bits_of (s ∷ set_bits a))) b p.1)
      where
        on : (stands_in s (set_bits a) ≡ false) × (gives (bits_of (s ∷ set_bits a)) ≡ gives b) → In x (set_bits b) ↔ ((x ≡ s) ⊎ In x (set_bits a))
        on q =
            subst (λ (c : ℕ). In x (set_bits c) ↔ ((x ≡ s) ⊎ In x (set_bits a))) (gives_same (bits_of (s ∷ set_bits a)) b q.1)
            (in_with_one a s x ((stands_is_not_in s (set_bits a)).0 q.0))

pub insert_contains : (a s b : ℕ) → insert_says a s ≡ gives b → stands_in s (set_bits b) ≡ true
insert_contains a s b e = (stands_is_in s (set_bits b)).1 ((insert_members a s b e s).1 (inl refl))

-- ---- positions

pub position_of_symbol : (a p : ℕ) → p < length (set_bits a) → position_says a (get_or (set_bits a) p 0) ≡ gives p
position_of_symbol a p h =
    simp ((stands_is_in (get_or (set_bits a) p 0) (set_bits a)).1 (at_in (set_bits a) p h), position_is_how_many_below (set_bits a) p 0 (set-bits-monotone a) h)

-- in an increasing list a symbol stands above those that are smaller
stands_there : (w : List ℕ) (s : ℕ) → Monotone Forbidden w → In s w → (smaller_in s w < length w) × (get_or w (smaller_in s w) 0 ≡ s)
stands_there w s m i =
    let t = in_at s w i in
    let e : smaller_in s w ≡ t.0 = ap (λ (y : ℕ). smaller_in y w) (sym t.2) ∙ position_is_how_many_below w t.0 0 m t.1 in
    subst (λ (n : ℕ). (n < length w) × (get_or w n 0 ≡ s)) (sym e) (t.1, t.2)

pub symbol_of_position : (a s p : ℕ) → position_says a s ≡ gives p → (p < length (set_bits a)) × (get_or (set_bits a) p 0 ≡ s)
symbol_of_position a s p e = go (passed (not (stands_in s (set_bits a))) 7 (gives (smaller_in s (set_bits a))) p e)
  where
    go : (not (stands_in s (set_bits a)) ≡ false) × (gives (smaller_in s (set_bits a)) ≡ gives p) → (p < length (set_bits a)) × (get_or (set_bits a) p 0 ≡ s)
    go q =
        subst (λ (n : ℕ). (n < length (set_bits a)) × (get_or (set_bits a) n 0 ≡ s)) (gives_same (smaller_in s (set_bits a)) p q.1)
        (stands_there (set_bits a) s (set-bits-monotone a) ((stands_is_in s (set_bits a)).0 (not-false (stands_in s (set_bits a)) q.0)))

-- ---- selection

rises_at : (w : List ℕ) (p q : ℕ) → Monotone Forbidden w → p < q → q < length w → get_or w p 0 < get_or w q 0
rises_at [] p q m h l = absurd (not-suc-le-zero l)
rises_at (x ∷ xs) p zero m h l = absurd (not-suc-le-zero h)
rises_at (x ∷ xs) zero (suc q) m h l = from_at (suc x) xs q 0 (rest x xs m) (le_of_suc-le-suc l)
rises_at (x ∷ xs) (suc p) (suc q) m h l = rises_at xs p q (tail x xs m) (le_of_suc-le-suc h) (le_of_suc-le-suc l)

selected_monotone : (ps w : List ℕ) → Monotone Forbidden ps → Below (length w) ps → Monotone Forbidden w → Monotone Forbidden (symbols_at ps w)
selected_monotone [] w m b n = tt
selected_monotone (p ∷ []) w m b n = tt
selected_monotone (p ∷ q ∷ qs) w m b n = (rises_at w p q n m.0 b.1.0, selected_monotone (q ∷ qs) w m.1 b.1 n)

pub select_symbols : (a ps b : ℕ) → select_says a ps ≡ gives b → set_bits b ≡ symbols_at (set_bits ps) (set_bits a)
select_symbols a ps b e = go (passed (reaches (length (set_bits a)) (set_bits ps)) 7 (gives (bits_of (symbols_at (set_bits ps) (set_bits a)))) b e)
  where
    go : (reaches (length (set_bits a)) (set_bits ps) ≡ false) × (gives (bits_of (symbols_at (set_bits ps) (set_bits a))) ≡ gives b) → set_bits b ≡ symbols_at (set_bits ps) (set_bits a)
    go q =
        ap set_bits (sym (gives_same (bits_of (symbols_at (set_bits ps) (set_bits a))) b q.1))
        ∙ set_of_bits (symbols_at (set_bits ps) (set_bits a))
        (selected_monotone (set_bits ps) (set_bits a) (set-bits-monotone ps) ((reaches_not (length (set_bits a)) (set_bits ps)).0 q.0) (set-bits-monotone a))

pub select_one : (a p : ℕ) → p < length (set_bits a) → select_says a (2 ^ p) ≡ gives (2 ^ get_or (set_bits a) p 0)
unfolding bits_of
select_one a p h =
    ap (λ (l : List ℕ). refused_if (reaches (length (set_bits a)) l) 7 (gives (bits_of (symbols_at l (set_bits a))))) (set_of_one p)
    ∙ simp ((reaches_not (length (set_bits a)) (p ∷ [])).1 (h, tt), add-zero (2 ^ get_or (set_bits a) p 0))
