-- Signed numbers and their numerals. Assumes nothing.
--   in_range_fits, kept    a number in range is of 64 bits, and is what is read back from its bits
--   below_one    -1 - m
--   turned-fits, below-zero, not_below    how a number is read from its bits, by its sign
--   no-numeral    an empty word writes no number
--   plain-bad, plain-great, plain-is    a word with no `-` in front writes a number where its digits do, below 2 ^ 63
--   minus-bad, minus-zero, minus-great, minus_is    a word with `-` in front does where its other bytes write a number that is not 0 and at most 2 ^ 63
--   one_signed    a text writes one signed number at most
use Rattle.std.specs.Prelude.{Option, Some, None}
use mathlib.Core.Path.{◌≡◌, refl, sym, ap, ap₂, subst, ◌∙◌}
use mathlib.Core.Bool.{Bool, true, false, cond}
use mathlib.Core.List.{List, [], ◌∷◌}
use Prim.Native.Nat.{ℕ, zero, suc, ◌-◌, ◌^◌, ◌≤◌, ◌<◌}
use native.Mathlib.Nat.{suc_inj}
use native.Mathlib.Omega.{arith}
use lib.ListN.{length, take, drop, get_or}
use lib.IntN.{ℤ, pos, negsuc, ◌-ℤ◌}
use lib.Seq.{take_all}
use lib.Signed.{lt_z}
use borrow.Author.Tests.{ltb-true, le-ltb}
use mir.Syntax.{w64}
use mir.Val.{SFits, to_z, of_z}
use mir.ValLaws.{to_z-of_z}
use Rattle.text.specs.Numeral.{value_from, Numeral, Reads}
use Rattle.spelling.specs.Signed.{Minus, SignedNumeral, InRange, ReadsSigned}

-- ---- the numbers

pub in_range_fits : (z : ℤ) → InRange z → SFits w64 z
in_range_fits (pos n) h = record { sfits = h }
in_range_fits (negsuc n) h = record { sfits = h }

pub kept : (z y : ℤ) → z ≡ y → InRange y → to_z w64 (of_z w64 z) ≡ y
kept z y e h = ap (λ (x : ℤ). to_z w64 (of_z w64 x)) e ∙ to_z-of_z w64 y (in_range_fits y h)

pub below_one : (m : ℕ) → negsuc 0 -ℤ pos m ≡ negsuc m
below_one zero = refl
below_one (suc m) = ap negsuc (omega arith)

back_up : (m : ℕ) → negsuc 0 -ℤ negsuc m ≡ pos m
back_up m = ap (λ (t : Bool). cond t (negsuc (1 - suc (suc m))) (pos (suc m - 1))) (le-ltb (suc m) 1 (omega arith)) ∙ ap pos (omega arith)

-- what is read back from the bits of z, where it is negative and where it is not
module _ (z : ℤ) (f : SFits w64 z) where
  pub below-zero : lt_z (to_z w64 (of_z w64 z)) (pos 0) ≡ true → (m : ℕ) × (z ≡ negsuc m) × (m < 2 ^ 63) × (to_z w64 (of_z w64 (negsuc 0 -ℤ to_z w64 (of_z w64 z))) ≡ pos m)
  below-zero e = go z f (sym (ap (λ (y : ℤ). lt_z y (pos 0)) (to_z-of_z w64 z f)) ∙ e)
    where
      go : (y : ℤ) → SFits w64 y → lt_z y (pos 0) ≡ true → (m : ℕ) × (y ≡ negsuc m) × (m < 2 ^ 63) × (to_z w64 (of_z w64 (negsuc 0 -ℤ to_z w64 (of_z w64 y))) ≡ pos m)
      go (pos n) g q = absurd (omega (arith, ltb-true n 0 q))
      go (negsuc m) g q = (m, refl, g.sfits, kept _ (pos m) (ap (λ (y : ℤ). negsuc 0 -ℤ y) (to_z-of_z w64 (negsuc m) g) ∙ back_up m) g.sfits)

  pub turned-fits : lt_z (to_z w64 (of_z w64 z)) (pos 0) ≡ true → SFits w64 (negsuc 0 -ℤ to_z w64 (of_z w64 z))
  turned-fits e = go z f (sym (ap (λ (y : ℤ). lt_z y (pos 0)) (to_z-of_z w64 z f)) ∙ e)
    where
      go : (y : ℤ) → SFits w64 y → lt_z y (pos 0) ≡ true → SFits w64 (negsuc 0 -ℤ to_z w64 (of_z w64 y))
      go (pos n) g q = absurd (omega (arith, ltb-true n 0 q))
      go (negsuc m) g q = subst (SFits w64) (sym (ap (λ (y : ℤ). negsuc 0 -ℤ y) (to_z-of_z w64 (negsuc m) g) ∙ back_up m)) (record { sfits = g.sfits })

  pub not_below : lt_z (to_z w64 (of_z w64 z)) (pos 0) ≡ false → (m : ℕ) × (z ≡ pos m) × (m < 2 ^ 63) × (to_z w64 (of_z w64 z) ≡ pos m)
  not_below e = go z f (sym (ap (λ (y : ℤ). lt_z y (pos 0)) (to_z-of_z w64 z f)) ∙ e)
    where
      go : (y : ℤ) → SFits w64 y → lt_z y (pos 0) ≡ false → (m : ℕ) × (y ≡ pos m) × (m < 2 ^ 63) × (to_z w64 (of_z w64 y) ≡ pos m)
      go (pos m) g q = (m, refl, g.sfits, to_z-of_z w64 (pos m) g)
      go (negsuc n) g q = absurd (let z : ◌≡◌ {A = ℕ} 0 1 = cc in omega arith)

-- ---- the words

module _ (word : List ℕ) where
  pub no-numeral : length word ≡ 0 → ReadsSigned word None
  no-numeral e (pos n) h s = omega (arith, s.some)
  no-numeral e (negsuc n) h s = omega (arith, ap length s.whole)

  module _ (d : get_or word 0 0 ≡ 45 → ⊥) where
    pub plain-bad : (r : Option ℕ) → r ≡ None → Reads word r → ReadsSigned word None
    plain-bad r e o (pos n) h s = subst (Reads word) e o n (omega (arith, h)) s
    plain-bad r e o (negsuc n) h s = d (ap (λ (t : List ℕ). get_or t 0 0) s.whole)

    pub plain-great : (r : Option ℕ) (m : ℕ) → r ≡ Some m → Reads word r → 2 ^ 63 ≤ m → ReadsSigned word None
    plain-great r m e o l (pos n) h s = omega (arith, sym (subst (Reads word) e o).0.value ∙ s.value, h)
    plain-great r m e o l (negsuc n) h s = d (ap (λ (t : List ℕ). get_or t 0 0) s.whole)

  pub plain-is : (r : Option ℕ) (m : ℕ) (z : ℤ) → r ≡ Some m → Reads word r → m < 2 ^ 63 → z ≡ pos m → ReadsSigned word (Some z)
  plain-is r m z e o l q = subst (λ (x : ℤ). SignedNumeral word x × InRange x) (sym q) ((subst (Reads word) e o).0, l)

  -- the bytes after the first
  abbrev others : List ℕ
  others = take (length word - 1) (drop 1 word)

  module _ (g : 0 < length word) (f : get_or word 0 0 ≡ 45) where
    split : word ≡ 45 ∷ others
    split = go word g f
      where
        go : (w : List ℕ) → 0 < length w → get_or w 0 0 ≡ 45 → w ≡ 45 ∷ take (length w - 1) (drop 1 w)
        go [] h e = absurd (omega arith)
        go (b ∷ w) h e = ap₂ (λ (x : ℕ) (t : List ℕ). x ∷ t) e (sym (take_all (suc (length w) - 1) w (omega arith)))

    -- no digit is a `-`
    no_plain : (n : ℕ) → Numeral word n → ⊥
    no_plain n s = let q = s.digits 0 g in omega (arith, q.0)

    same_digits : (n : ℕ) (s : Minus word n) → Numeral others n
    same_digits n s = let q = split in let p = s.whole in let e : s.digits ≡ others = cc in subst (λ (t : List ℕ). Numeral t n) e s.writes

    pub minus-bad : (r : Option ℕ) → r ≡ None → Reads others r → ReadsSigned word None
    minus-bad r e o (pos n) h s = no_plain n s
    minus-bad r e o (negsuc n) h s = subst (Reads others) e o (suc n) (omega (arith, h)) (same_digits (suc n) s)

    module _ (r : Option ℕ) (m : ℕ) (e : r ≡ Some m) (o : Reads others r) where
      value : (n : ℕ) → Minus word n → m ≡ n
      value n s = sym (subst (Reads others) e o).0.value ∙ (same_digits n s).value

      pub minus-zero : m ≡ 0 → ReadsSigned word None
      minus-zero l (pos n) h s = no_plain n s
      minus-zero l (negsuc n) h s = omega (arith, value (suc n) s)

      pub minus-great : 2 ^ 63 < m → ReadsSigned word None
      minus-great l (pos n) h s = no_plain n s
      minus-great l (negsuc n) h s = omega (arith, value (suc n) s, h)

      pub minus_is : (z : ℤ) → 0 < m → m ≤ 2 ^ 63 → z ≡ negsuc (m - 1) → ReadsSigned word (Some z)
      minus_is z l k q =
          let s : m ≡ suc (m - 1) = omega arith in
          subst (λ (x : ℤ). SignedNumeral word x × InRange x) (sym q)
          (record { digits = others; whole = split; writes = subst (Numeral others) s (subst (Reads others) e o).0 }, omega arith)

-- ---- one reading

pub one_signed : (text : List ℕ) (y z : ℤ) → SignedNumeral text y → SignedNumeral text z → y ≡ z
one_signed text (pos m) (pos n) s t = ap pos (sym s.value ∙ t.value)
one_signed text (pos m) (negsuc n) s t = absurd (let q = s.digits 0 s.some in omega (arith, q.0, ap (λ (u : List ℕ). get_or u 0 0) t.whole))
one_signed text (negsuc m) (pos n) s t = absurd (let q = t.digits 0 t.some in omega (arith, q.0, ap (λ (u : List ℕ). get_or u 0 0) s.whole))
one_signed text (negsuc m) (negsuc n) s t =
    let p = s.whole in
    let q = t.whole in
    let e : s.digits ≡ t.digits = cc in
    ap negsuc (suc_inj (sym s.writes.value ∙ ap (value_from 0) e ∙ t.writes.value))
