-- Where a given word is refused with 2, for both families at once (02, §5). Assumes nothing.
--   checked_breaks    the checks of a word refuse with 2 only a word that breaks its rule, and carry the place where it does
--   breaks_exactly_there    and they do so exactly at the first break of a word of at most 64 symbols: rank, and whatever has these checks
--   breaks_exactly_there_over    the same of a word that is given with an alphabet: packing
use mathlib.Core.Path.{◌≡◌, refl, sym, subst, ◌∙◌}
use mathlib.Core.Bool.{Bool, true, false, not}
use mathlib.Core.Logic.{◌↔◌}
use mathlib.Core.List.{List, [], ◌∷◌}
use Prim.Native.Nat.{ℕ, zero, suc, ◌≤◌}
use native.Mathlib.Omega.{arith}
use borrow.Author.Tests.{ltb-false, le-ltb}
use lib.Dec.{ltb}
use lib.ListN.{length}
use Rattle.words.specs.declared.Family.{Family}
use Rattle.words.specs.Word.{shifted_alphabet}
use Rattle.words.proofs.Positions.{monotone_at}
use Rattle.bits.specs.Member.{reaches}
use Rattle.answers.specs.Says.{Says, refuses_with, refuses_at, gives, refused_if, refused_at_if}
use Rattle.answers.proofs.Says.{gives_never}
use Rattle.packing.specs.Checks.{rises, break_at, last_shifted}
use Rattle.packing.specs.Breaks.{FirstBreak}
use Rattle.packing.proofs.Checks.{rises_is_monotone}
use Rattle.packing.proofs.Breaks.{breaks_at_the_first_pair, first_break_is_one}
use Rattle.monotone.specs.Rules.{checked, checked_over}

pub checked_breaks : {A : Type 0} (F : Family) (w : List ℕ) (a : A) (c : List ℕ) → checked F w a ≡ refuses_with 2 c
    → (length w ≤ 64) × (rises F w ≡ false) × (c ≡ break_at F w ∷ [])
checked_breaks {A = A} F w a c e = go (ltb 64 (length w)) refl (rises F w) refl (ltb 63 (last_shifted F w)) e
  where
    go : (s : Bool) → ltb 64 (length w) ≡ s → (r : Bool) → rises F w ≡ r → (t : Bool)
        → refused_if s 1 (refused_at_if (not r) 2 (break_at F w) (refused_if t 1 (gives a))) ≡ refuses_with 2 c
        → (length w ≤ 64) × (rises F w ≡ false) × (c ≡ break_at F w ∷ [])
    go true p r q t f = absurd (let z : ◌≡◌ {A = ℕ} 1 2 = cc in omega arith)
    go false p false q t f = (ltb-false 64 (length w) p, q, let z : break_at F w ∷ [] ≡ c = cc in sym z)
    go false p true q true f = absurd (let z : ◌≡◌ {A = ℕ} 1 2 = cc in omega arith)
    go false p true q false f = absurd (gives_never a 2 c f)

-- a word with an offending pair does not keep its rule
first_break_breaks : (F : Family) (w : List ℕ) (p : ℕ) → FirstBreak F w p → rises F w ≡ false
first_break_breaks F w p b = go (rises F w) refl p b
  where
    go : (t : Bool) → rises F w ≡ t → (p : ℕ) → FirstBreak F w p → t ≡ false
    go false e p b = refl
    go true e zero b = absurd (omega (arith, b.above))
    go true e (suc q) b = absurd (b.offends q refl ((monotone_at F w).0 ((rises_is_monotone F w).0 e) q b.within))

pub breaks_exactly_there : {A : Type 0} (F : Family) (w : List ℕ) (a : A) (p : ℕ) → (checked F w a ≡ refuses_at 2 p) ↔ ((length w ≤ 64) × FirstBreak F w p)
breaks_exactly_there F w a p = (to, from)
  where
    to : checked F w a ≡ refuses_at 2 p → (length w ≤ 64) × FirstBreak F w p
    to e = go (checked_breaks F w a (p ∷ []) e)
      where
        go : (length w ≤ 64) × (rises F w ≡ false) × (p ∷ [] ≡ break_at F w ∷ []) → (length w ≤ 64) × FirstBreak F w p
        go t = (t.0, subst (FirstBreak F w) (let z : break_at F w ≡ p = cc in z) (breaks_at_the_first_pair F w t.1))

    from : (length w ≤ 64) × FirstBreak F w p → checked F w a ≡ refuses_at 2 p
    from t =
        let r : rises F w ≡ false = first_break_breaks F w p t.1 in
        let e : break_at F w ≡ p = first_break_is_one F w (break_at F w) p (breaks_at_the_first_pair F w r) t.1 in
        simp (le-ltb 64 (length w) t.0, r, e)

-- ---- a word that is given with an alphabet

-- a word that breaks its rule is refused there, whatever the checks after that
broken : {A : Type 0} (t : Bool) (b p : ℕ) (s u : Says A) → (s ≡ refuses_at 2 p → ⊥) → refused_at_if t 2 b s ≡ refuses_at 2 p → refused_at_if t 2 b u ≡ refuses_at 2 p
broken true b p s u n e = e
broken false b p s u n e = absurd (n e)

-- where n's shifted alphabet has room, the checks with n refuse with 2 as those without
over_breaks : {A : Type 0} (F : Family) (n : ℕ) (w : List ℕ) (a : A) (p : ℕ) → length w ≤ 64 → shifted_alphabet F n (length w) ≤ 64
    → (checked_over F n w a ≡ refuses_at 2 p) ↔ (checked F w a ≡ refuses_at 2 p)
over_breaks {A = A} F n w a p h l = (
  λ e. bare ∙ broken (not (rises F w)) (break_at F w) p (past (reaches n w)) (past false) (last (ltb 63 (last_shifted F w)) (reaches n w)) (sym over ∙ e),
  λ e. over ∙ broken (not (rises F w)) (break_at F w) p (past false) (past (reaches n w)) (last (ltb 63 (last_shifted F w)) false) (sym bare ∙ e),
)
  where
    -- the checks after that; without n none asks whether a symbol is not below it
    past : Bool → Says A
    past t = refused_if (ltb 63 (last_shifted F w)) 1 (refused_if t 7 (gives a))

    over : checked_over F n w a ≡ refused_at_if (not (rises F w)) 2 (break_at F w) (past (reaches n w))
    over = simp (le-ltb 64 (length w) h, le-ltb 64 (shifted_alphabet F n (length w)) l)

    bare : checked F w a ≡ refused_at_if (not (rises F w)) 2 (break_at F w) (past false)
    bare = simp (le-ltb 64 (length w) h)

    last : (t u : Bool) → refused_if t 1 (refused_if u 7 (gives a)) ≡ refuses_at 2 p → ⊥
    last true u e = let z : ◌≡◌ {A = ℕ} 1 2 = cc in omega arith
    last false true e = let z : ◌≡◌ {A = ℕ} 7 2 = cc in omega arith
    last false false e = gives_never a 2 (p ∷ []) e

-- only a word of at most 64 symbols whose alphabet is not too wide gets as far
over_reached : {A : Type 0} (F : Family) (n : ℕ) (w : List ℕ) (a : A) (p : ℕ) → checked_over F n w a ≡ refuses_at 2 p
    → (length w ≤ 64) × (shifted_alphabet F n (length w) ≤ 64)
over_reached {A = A} F n w a p e = go (ltb 64 (length w)) refl (ltb 64 (shifted_alphabet F n (length w))) refl e
  where
    rest : Says A
    rest = refused_at_if (not (rises F w)) 2 (break_at F w) (refused_if (ltb 63 (last_shifted F w)) 1 (refused_if (reaches n w) 7 (gives a)))

    go : (s : Bool) → ltb 64 (length w) ≡ s → (t : Bool) → ltb 64 (shifted_alphabet F n (length w)) ≡ t → refused_if s 1 (refused_if t 1 rest) ≡ refuses_at 2 p
        → (length w ≤ 64) × (shifted_alphabet F n (length w) ≤ 64)
    go true h t l f = absurd (let z : ◌≡◌ {A = ℕ} 1 2 = cc in omega arith)
    go false h true l f = absurd (let z : ◌≡◌ {A = ℕ} 1 2 = cc in omega arith)
    go false h false l f = (ltb-false 64 (length w) h, ltb-false 64 (shifted_alphabet F n (length w)) l)

pub breaks_exactly_there_over : {A : Type 0} (F : Family) (n : ℕ) (w : List ℕ) (a : A) (p : ℕ)
    → (checked_over F n w a ≡ refuses_at 2 p) ↔ ((length w ≤ 64) × (shifted_alphabet F n (length w) ≤ 64) × FirstBreak F w p)
breaks_exactly_there_over F n w a p = (to, from)
  where
    to : checked_over F n w a ≡ refuses_at 2 p → (length w ≤ 64) × (shifted_alphabet F n (length w) ≤ 64) × FirstBreak F w p
    to e =
        let h : (length w ≤ 64) × (shifted_alphabet F n (length w) ≤ 64) = over_reached F n w a p e in
        (h.0, h.1, ((breaks_exactly_there F w a p).0 ((over_breaks F n w a p h.0 h.1).0 e)).1)

    from : (length w ≤ 64) × (shifted_alphabet F n (length w) ≤ 64) × FirstBreak F w p → checked_over F n w a ≡ refuses_at 2 p
    from t = (over_breaks F n w a p t.0 t.1).1 ((breaks_exactly_there F w a p).1 (t.0, t.2))
