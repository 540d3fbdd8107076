-- Two digit words one after the other, and a position taken out, by the ranks. Assumes nothing.
--   concat_passed    two words that pass their checks
--   joined-long, joined_is, joined_small    how many symbols; the rank of x, and above it that of y times the count of x, is the number of their symbols in a row; it is below the joint count
--   taken-long, taken_is, taken-small    how many symbols are left; the rank below the stride, and above it what lies past the position, is the number without that position; it is no greater than the rank
--   joint-rank, joint-count, joined_given, taken_given    so the ranks and the count that the calls make, and what they give
use mathlib.Core.Path.{◌≡◌, sym, ap, ap₂, subst, ◌∙◌}
use mathlib.Core.List.{List, ◌++◌}
use Prim.Native.Nat.{ℕ, suc, ◌+◌, ◌-◌, ◌*◌, ◌/◌, ◌%◌, ◌^◌, ◌≤◌, ◌<◌}
use native.Mathlib.Nat.{mul_comm, mul-le-mul_right, div-add-mod', div-le_self, div-div-eq-div-mul, pow-succ'}
use native.Mathlib.Omega.{arith}
use borrow.Author.Tests.{le-ltb, lt-leb, eq-eqb}
use lib.ListN.{length, replicate, length-append, length-replicate, replicate-append-replicate}
use lib.Pow.{pow-add}
use Rattle.answers.specs.Says.{gives}
use Rattle.words.specs.Without.{without}
use Rattle.words.proofs.Positions.{without_long}
use Rattle.positional.specs.Positional.{product, stride, Digits, positional_value, digits_of}
use Rattle.positional.proofs.Digits.{digits-good, number_of_digits, number_below}
use Rattle.positional.proofs.Parts.{digits_append, number_append, number_without}
use Rattle.positional.proofs.Equal.{product-equal, stride-equal, without_equal}
use Rattle.digits.specs.declared.DigitWord.{DigitWord}
use Rattle.digits.specs.Rules.{symbols_of, digit_word_of, check_says, given}
use Rattle.digits_algebra.specs.Rules.{digit_join_says, concat_says, take_says, digit_delete_says}
use Rattle.digits.proofs.Rules.{given_passed}
use Rattle.digits.proofs.Positions.{symbols_long, symbol_at}

pub concat_passed : (x y : DigitWord) (c d : ℕ) → gives c ≡ check_says x → gives d ≡ check_says y → concat_says x y ≡ digit_join_says x y
concat_passed x y c d e f = given_passed x c (given y (digit_join_says x y)) e ∙ given_passed y d (digit_join_says x y) f

-- ---- over equal radices: n is the radix, and k and r are a degree and a rank

-- the symbols
abbrev symbols : ℕ → ℕ → ℕ → List ℕ
symbols n k r = digits_of (replicate k n) r

good : (n k r : ℕ) → r < n ^ k → Digits (replicate k n) (symbols n k r)
good n k r h = digits-good (replicate k n) r (omega (arith, product-equal n k))

back : (n k r : ℕ) → r < n ^ k → positional_value (replicate k n) (symbols n k r) ≡ r
back n k r h = number_of_digits (replicate k n) r (omega (arith, product-equal n k))

-- l and q are those of the second word, and s is the count of the first
module _ (n k r l q s : ℕ) (low : r < n ^ k) (high : q < n ^ l) (e : s ≡ n ^ k) where
  pub joined-long : length (symbols n k r ++ symbols n l q) ≡ k + l
  joined-long = omega (arith, length-append (symbols n k r) (symbols n l q), symbols_long n k r, symbols_long n l q)

  row : replicate (length (symbols n k r ++ symbols n l q)) n ≡ replicate k n ++ replicate l n
  row = ap (λ (j : ℕ). replicate j n) joined-long ∙ sym (replicate-append-replicate k l n)

  pub joined_is : r + q * s ≡ positional_value (replicate (length (symbols n k r ++ symbols n l q)) n) (symbols n k r ++ symbols n l q)
  joined_is =
      let u : List ℕ = symbols n k r in
      let v : List ℕ = symbols n l q in
      let a : positional_value (replicate (length (u ++ v)) n) (u ++ v) ≡ positional_value (replicate k n) u + product (replicate k n) * positional_value (replicate l n) v =
      ap (λ (rs : List ℕ). positional_value rs (u ++ v)) row ∙ number_append (replicate k n) u (replicate l n) v (symbols_long n k r ∙ sym (length-replicate k n)) in
      let b : product (replicate k n) * positional_value (replicate l n) v ≡ q * s = ap₂ (λ (x y : ℕ). x * y) (product-equal n k ∙ sym e) (back n l q high) ∙ mul_comm s q in
      omega (arith, a, b, back n k r low)

  pub joined_small : r + q * s < n ^ (k + l)
  joined_small =
      let u : List ℕ = symbols n k r in
      let v : List ℕ = symbols n l q in
      let g : Digits (replicate k n ++ replicate l n) (u ++ v) = digits_append (replicate k n) u (replicate l n) v (good n k r low) (good n l q high) in
      omega (
        arith,
        number_below (replicate k n ++ replicate l n) (u ++ v) g,
        joined_is,
        ap (λ (rs : List ℕ). positional_value rs (u ++ v)) row,
        ap product (replicate-append-replicate k l n) ∙ product-equal n (k + l),
      )

-- p is a position, and s its stride
module _ (n k r p s : ℕ) (low : r < n ^ k) (within : p < k) (e : s ≡ n ^ p) where
  pub taken-long : length (without p (symbols n k r)) ≡ k - 1
  taken-long = omega (arith, without_long p (symbols n k r) (omega (arith, symbols_long n k r)), symbols_long n k r)

  fewer : without p (replicate k n) ≡ replicate (k - 1) n
  fewer = let m : k ≡ suc (k - 1) = omega arith in ap (λ (j : ℕ). without p (replicate j n)) m ∙ without_equal n (k - 1) p (omega arith)

  pub taken_is : r % s + r / s / n * s ≡ positional_value (replicate (length (without p (symbols n k r))) n) (without p (symbols n k r))
  taken_is =
      let w : List ℕ = symbols n k r in
      let rs : List ℕ = replicate k n in
      let a : positional_value (replicate (length (without p w)) n) (without p w) ≡ positional_value (without p rs) (without p w) =
      ap (λ (ss : List ℕ). positional_value ss (without p w)) (ap (λ (j : ℕ). replicate j n) taken-long ∙ sym fewer) in
      let b : positional_value (without p rs) (without p w) ≡ r % stride rs p + stride rs p * (r / stride rs (suc p)) =
      number_without rs w p (good n k r low) ∙ ap (λ (x : ℕ). x % stride rs p + stride rs p * (x / stride rs (suc p))) (back n k r low) in
      let f : stride rs p ≡ s = stride-equal n k p (omega arith) ∙ sym e in
      let h : stride rs (suc p) ≡ s * n = stride-equal n k (suc p) within ∙ pow-succ' n p ∙ mul_comm n (n ^ p) ∙ ap (λ (x : ℕ). x * n) (sym e) in
      let d : stride rs p * (r / stride rs (suc p)) ≡ r / s / n * s =
      ap₂ (λ (x y : ℕ). x * (r / y)) f h ∙ ap (λ (x : ℕ). s * x) (sym (div-div-eq-div-mul r s n)) ∙ mul_comm s (r / s / n) in
      sym (a ∙ b ∙ ap₂ (λ (x y : ℕ). x + y) (ap (λ (x : ℕ). r % x) f) d)

  pub taken-small : r % s + r / s / n * s ≤ r
  taken-small = omega (arith, mul-le-mul_right s (div-le_self (r / s) n), div-add-mod' r s)

-- ---- what the calls give

pub taken_given : (x : DigitWord) (c p s : ℕ) → gives c ≡ check_says x → x.rank < x.radix ^ x.degree → p < x.degree → s ≡ x.radix ^ p
    → gives (record { symbol = x.rank / s % x.radix; left = record { radix = x.radix; degree = x.degree - 1; rank = x.rank % s + x.rank / s / x.radix * s } })
    ≡ digit_delete_says x p
taken_given x c p s e low h q =
    ap₂ (λ (a : ℕ) (y : DigitWord). gives (record { symbol = a; left = y }))
    (symbol_at x.radix x.degree x.rank p s h q)
    (ap₂ (λ (d m : ℕ). record { radix = x.radix; degree = d; rank = m })
    (sym (taken-long x.radix x.degree x.rank p s low h q))
    (taken_is x.radix x.degree x.rank p s low h q))
    ∙ sym (given_passed x c (take_says x p) e ∙ simp (lt-leb x.degree p h))

pub joined_given : (x y : DigitWord) (c d s : ℕ) → gives c ≡ check_says x → gives d ≡ check_says y → x.rank < x.radix ^ x.degree → y.rank < y.radix ^ y.degree
    → x.radix ≡ y.radix → x.degree + y.degree ≤ 64 → x.radix ^ (x.degree + y.degree) < 2 ^ 64 → s ≡ x.radix ^ x.degree
    → gives (record { radix = x.radix; degree = x.degree + y.degree; rank = x.rank + y.rank * s }) ≡ concat_says x y
joined_given x y c d s e f low high same short small q =
    let n : ℕ = x.radix in
    let h : y.rank < n ^ y.degree = subst (λ (m : ℕ). y.rank < m ^ y.degree) (sym same) high in
    ap₂ (λ (k m : ℕ). gives (record { radix = n; degree = k; rank = m }))
    (sym (joined-long n x.degree x.rank y.degree y.rank s low h q))
    (joined_is n x.degree x.rank y.degree y.rank s low h q)
    ∙ ap (λ (m : ℕ). gives (digit_word_of n (symbols_of x ++ digits_of (replicate y.degree m) y.rank))) same
    ∙ sym (concat_passed x y c d e f ∙ simp (eq-eqb x.radix y.radix same, le-ltb 64 (x.degree + y.degree) short, lt-leb (2 ^ 64) (x.radix ^ (x.degree + y.degree)) small))

pub joint-rank : (x y : DigitWord) (s : ℕ) → x.rank < x.radix ^ x.degree → y.rank < y.radix ^ y.degree → x.radix ≡ y.radix → s ≡ x.radix ^ x.degree
    → x.rank + y.rank * s < x.radix ^ (x.degree + y.degree)
joint-rank x y s low high same q =
    joined_small x.radix x.degree x.rank y.degree y.rank s low (subst (λ (m : ℕ). y.rank < m ^ y.degree) (sym same) high) q

-- the counts of two words of one radix make that of the word of both
pub joint-count : (x y : DigitWord) (s t : ℕ) → s ≡ x.radix ^ x.degree → t ≡ y.radix ^ y.degree → x.radix ≡ y.radix → s * t ≡ x.radix ^ (x.degree + y.degree)
joint-count x y s t e f same = ap₂ (λ (a b : ℕ). a * b) e (f ∙ ap (λ (n : ℕ). n ^ y.degree) (sym same)) ∙ sym (pow-add x.radix x.degree y.degree)
