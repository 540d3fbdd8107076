-- The demands of 02, section 10, over what the call says. Assumes nothing.
--   Derived n k s c w    what an answer w tells: the degree is not 0, s is below n, the table has its count, and w is the derivative
--   derivative_given    so it does
--   mixed_derivatives_agree    by s and then t is by t and then s, whenever both orders answer
--   deriving_is_linear    the derivative of a sum of tables is the sum of the derivatives, whenever the three answer
--   entries_are_by_deletions    each entry is the sum over all deletions of s in all terms that leave its word
use mathlib.Core.Path.{◌≡◌, sym, ap, ap₂, ◌∙◌}
use mathlib.Core.Bool.{not}
use mathlib.Core.List.{List}
use Prim.Native.Nat.{ℕ, suc, ◌-◌, ◌<◌}
use native.Mathlib.Omega.{arith}
use borrow.Author.Tests.{leb-false, eqb-true, eqb-false, not-false}
use lib.Dec.{leb, ltb, eqb}
use lib.ListN.{length}
use lib.IntN.{ℤ}
use Rattle.words.specs.declared.Family.TheVariants.{Allowed}
use Rattle.words.specs.Word.{Word, shifted_alphabet, count}
use Rattle.words.specs.Rank.{rank_of}
use Rattle.answers.specs.Says.{gives}
use Rattle.answers.proofs.Says.{gives_same, passed}
use Rattle.derivatives.specs.Derivative.{coefficient, derivative, sums, by_deletions}
use Rattle.derivatives.proofs.Mixed.{coefficient_of_derivative, derivatives_commute}
use Rattle.derivatives.proofs.Linear.{derivative_of_sums}
use Rattle.derivatives.proofs.Deletions.{derivative_is_by_deletions}
use Rattle.derivative.specs.Rules.{entry_at, all_inside, derivative_says}

pub record Derived (n k s : ℕ) (c w : List ℤ) : Type 0 where
  pub degree : 0 < k
  pub low : s < n
  pub given : length c ≡ count Allowed n k
  pub is : w ≡ derivative n (k - 1) s c

pub derivative_given : (n k s : ℕ) (c : List ℤ) (room : ℕ) (w : List ℤ) → derivative_says n k s c room ≡ gives w → Derived n k s c w
derivative_given n k s c room w e =
    let p1 = passed (ltb 64 k) 1 _ w e in
    let p2 = passed (ltb 64 (shifted_alphabet Allowed n k)) 1 _ w p1.1 in
    let p3 = passed (eqb k 0) 7 _ w p2.1 in
    let p4 = passed (leb n s) 7 _ w p3.1 in
    let p5 = passed (not (eqb (length c) (count Allowed n k))) 8 _ w p4.1 in
    let p6 = passed (ltb room (count Allowed n (k - 1))) 8 _ w p5.1 in
    let p7 = passed (not (all_inside (entry_at (k - 1) s c) (count Allowed n (k - 1)))) 9 _ w p6.1 in
    record {
      degree = omega (arith, eqb-false k 0 p3.0);
      low = omega (arith, leb-false n s p4.0);
      given = eqb-true (length c) (count Allowed n k) (not-false _ p5.0);
      is = sym (gives_same (derivative n (k - 1) s c) w p7.1);
    }

pub mixed_derivatives_agree : (n k s t : ℕ) (c a b x y : List ℤ) (p q u v : ℕ)
    → derivative_says n k s c p ≡ gives a → derivative_says n (k - 1) t a q ≡ gives x
    → derivative_says n k t c u ≡ gives b → derivative_says n (k - 1) s b v ≡ gives y → x ≡ y
mixed_derivatives_agree n k s t c a b x y p q u v e f g h =
    let i : Derived n k s c a = derivative_given n k s c p a e in
    let j : Derived n (k - 1) t a x = derivative_given n (k - 1) t a q x f in
    let l : Derived n k t c b = derivative_given n k t c u b g in
    let m : Derived n (k - 1) s b y = derivative_given n (k - 1) s b v y h in
    let z : k - 1 ≡ suc (k - 1 - 1) = omega (arith, j.degree) in
    j.is ∙ ap (derivative n (k - 1 - 1) t) (i.is ∙ ap (λ (d : ℕ). derivative n d s c) z)
    ∙ derivatives_commute n (k - 1 - 1) s t c i.low l.low
    ∙ sym (m.is ∙ ap (derivative n (k - 1 - 1) s) (l.is ∙ ap (λ (d : ℕ). derivative n d t c) z))

pub deriving_is_linear : (n k s : ℕ) (a b x y z : List ℤ) (p q u : ℕ)
    → derivative_says n k s a p ≡ gives x → derivative_says n k s b q ≡ gives y → derivative_says n k s (sums a b) u ≡ gives z → z ≡ sums x y
deriving_is_linear n k s a b x y z p q u e f g =
    let i : Derived n k s a x = derivative_given n k s a p x e in
    let j : Derived n k s b y = derivative_given n k s b q y f in
    let l : Derived n k s (sums a b) z = derivative_given n k s (sums a b) u z g in
    let d : k ≡ suc (k - 1) = omega (arith, i.degree) in
    l.is
    ∙ derivative_of_sums n (k - 1) s a b i.low (i.given ∙ ap (count Allowed n) d) (j.given ∙ ap (count Allowed n) d)
    ∙ sym (ap₂ sums i.is j.is)

pub entries_are_by_deletions : (n k s : ℕ) (c w : List ℤ) (room : ℕ) → derivative_says n k s c room ≡ gives w
    → (v : List ℕ) → Word Allowed n (k - 1) v → coefficient w v ≡ by_deletions n (k - 1) s c (rank_of Allowed v)
entries_are_by_deletions n k s c w room e v l =
    let i : Derived n k s c w = derivative_given n k s c room w e in
    ap (λ (t : List ℤ). coefficient t v) i.is
    ∙ coefficient_of_derivative n (k - 1) s c v l
    ∙ sym (derivative_is_by_deletions n (k - 1) s c i.low v l)
