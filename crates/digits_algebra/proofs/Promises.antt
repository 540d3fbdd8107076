-- The promises of concatenation, deletion and multiplicities of digit words, as theorems about what the calls say. Assumes nothing.
--   concatenation_joins_the_symbols    the symbols of a concatenation are those of the first word, followed by those of the second
--   deletion_takes_a_position_out    deletion gives the symbol at the position, and its word has the other symbols
--   outside_has_no_multiplicity    a symbol that is not below the radix stands nowhere
--   stabilizer_is_a_product_of_factorials    the stabilizer is the product of the factorials of the multiplicities of the symbols below the radix
use mathlib.Core.Path.{◌≡◌, refl, sym, ap, ap₂, subst, ◌∙◌}
use mathlib.Core.Bool.{not}
use mathlib.Core.List.{List, ◌++◌}
use Prim.Native.Nat.{ℕ, suc, ◌+◌, ◌-◌, ◌^◌, ◌≤◌, ◌<◌}
use native.Mathlib.Omega.{arith}
use borrow.Author.Tests.{ltb-false, leb-false, eqb-true, not-false}
use lib.Dec.{leb, ltb, eqb}
use lib.ListN.{length, get_or, take, drop, length-append}
use Rattle.words.specs.Without.{without}
use Rattle.words.specs.Word.{Below}
use Rattle.words.specs.Inversions.{multiplicity}
use Rattle.words.proofs.Inversions.{absent_is_none}
use Rattle.words.proofs.Members.{in_below}
use Rattle.words.proofs.Word.{below_append, below_take, below_drop}
use Rattle.answers.specs.Says.{gives, and_then}
use Rattle.answers.proofs.Says.{gives_same, passed}
use Rattle.cartesian.specs.Checks.{number_says}
use Rattle.cartesian.proofs.Fits.{fits_given}
use Rattle.deletion.specs.Multiplicities.{stabilizer_below, stabilizer_of}
use Rattle.deletion.proofs.Multiplicities.{stabilizer_over}
use Rattle.digits.specs.declared.DigitWord.{DigitWord}
use Rattle.digits.specs.Rules.{symbols_of, digit_word_of, check_says, symbols_says}
use Rattle.digits_algebra.specs.Rules.{multiplicity_says, digit_stabilizer_says, digit_join_says, concat_says, take_says, digit_delete_says}
use Rattle.digits.proofs.Powers.{power_within}
use Rattle.digits.proofs.Positions.{symbols_long}
use Rattle.digits.proofs.Rules.{Known, known}
use Rattle.digits.proofs.Promises.{checks_of, symbols_below, symbols_of_word}
use Rattle.digits_algebra.proofs.Joining.{taken-long}
use Rattle.digits.specs.declared.TakenOut.{TakenOut}

pub concatenation_joins_the_symbols : (x y z : DigitWord) (room : ℕ) → concat_says x y ≡ gives z → x.degree + y.degree ≤ room
    → symbols_says z room ≡ gives (symbols_of x ++ symbols_of y)
concatenation_joins_the_symbols x y z room e h =
    let n : ℕ = x.radix in
    let w : List ℕ = symbols_of x ++ symbols_of y in
    let s = checks_of x (and_then (check_says y) (λ c. digit_join_says x y)) z e in
    let t = checks_of y (digit_join_says x y) z s.2 in
    let k : Known x s.0 = known x s.0 s.1 in
    let l : Known y t.0 = known y t.0 t.1 in
    let p = passed (not (eqb n y.radix)) 8 _ z t.2 in
    let q = passed (ltb 64 (x.degree + y.degree)) 1 _ z p.1 in
    let o = passed (leb (2 ^ 64) (n ^ (x.degree + y.degree))) 9 (gives (digit_word_of n w)) z q.1 in
    let same : n ≡ y.radix = eqb-true n y.radix (not-false (eqb n y.radix) p.0) in
    let long : length w ≡ x.degree + y.degree =
    length-append (symbols_of x) (symbols_of y) ∙ ap₂ (λ (a b : ℕ). a + b) (symbols_long n x.degree x.rank) (symbols_long y.radix y.degree y.rank) in
    let small : n ^ length w < 2 ^ 64 = subst (λ (j : ℕ). n ^ j < 2 ^ 64) (sym long) (leb-false (2 ^ 64) (n ^ (x.degree + y.degree)) o.0) in
    ap (λ (v : DigitWord). symbols_says v room) (sym (gives_same (digit_word_of n w) z o.1))
    ∙ symbols_of_word n room w
    (below_append n (symbols_of x) (symbols_of y) (symbols_below x k.low) (subst (λ (m : ℕ). Below m (symbols_of y)) (sym same) (symbols_below y l.low)))
    (omega (arith, long, ltb-false 64 (x.degree + y.degree) q.0)) small (omega (arith, long))

pub deletion_takes_a_position_out : (x : DigitWord) (p room : ℕ) (t : TakenOut) → digit_delete_says x p ≡ gives t → x.degree ≤ room
    → (t.symbol ≡ get_or (symbols_of x) p 0) × (symbols_says t.left room ≡ gives (without p (symbols_of x)))
deletion_takes_a_position_out x p room t e h =
    let n : ℕ = x.radix in
    let w : List ℕ = symbols_of x in
    let taken : TakenOut = record { symbol = get_or w p 0; left = digit_word_of n (without p w) } in
    let s = checks_of x (take_says x p) t e in
    let k : Known x s.0 = known x s.0 s.1 in
    let q = passed (leb x.degree p) 7 (gives taken) t s.2 in
    let within : p < x.degree = leb-false x.degree p q.0 in
    let is : taken ≡ t = gives_same taken t q.1 in
    let long : length (without p w) ≡ x.degree - 1 = taken-long n x.degree x.rank p (n ^ p) k.low within refl in
    let small : n ^ (x.degree - 1) < 2 ^ 64 = power_within n x.degree x.rank (x.degree - 1) k.low k.small (omega arith) in
    let b : Below n w = symbols_below x k.low in (
      ap (λ (u : TakenOut). u.symbol) (sym is),
      ap (λ (u : TakenOut). symbols_says u.left room) (sym is)
          ∙ symbols_of_word n room (without p w) (below_append n (take p w) (drop (suc p) w) (below_take n p w b) (below_drop n (suc p) w b))
          (omega (arith, long, k.short)) (subst (λ (j : ℕ). n ^ j < 2 ^ 64) (sym long) small) (omega (arith, long)),
    )

pub outside_has_no_multiplicity : (x : DigitWord) (s m : ℕ) → multiplicity_says x s ≡ gives m → x.radix ≤ s → m ≡ 0
outside_has_no_multiplicity x s m e h =
    let t = checks_of x (gives (multiplicity s (symbols_of x))) m e in
    let k : Known x t.0 = known x t.0 t.1 in
    sym (gives_same (multiplicity s (symbols_of x)) m t.2)
    ∙ (absent_is_none s (symbols_of x)).1 (λ i. omega (arith, in_below x.radix s (symbols_of x) (symbols_below x k.low) i))

pub stabilizer_is_a_product_of_factorials : (x : DigitWord) (s : ℕ) → digit_stabilizer_says x ≡ gives s → s ≡ stabilizer_below x.radix (symbols_of x)
stabilizer_is_a_product_of_factorials x s e =
    let t = checks_of x (number_says (stabilizer_of (symbols_of x))) s e in
    let k : Known x t.0 = known x t.0 t.1 in
    (fits_given (stabilizer_of (symbols_of x)) s t.2).1 ∙ sym (stabilizer_over x.radix (symbols_of x) (symbols_below x k.low))
