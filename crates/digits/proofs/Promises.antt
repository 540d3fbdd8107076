-- What the calls on digit words promise together, over what they say. Assumes nothing.
--   count_tells_how_many_words    the count is how many lists of k symbols below n there are
--   digit_rank_is_how_many_earlier    the rank of a digit word is how many words of its radix and degree stand earlier in colex order
--   symbols_of_word    over lists: the symbols of the word that has given symbols are these
--   symbols_tell_the_word, word_tells_the_symbols    from symbols to the word and back, and from a word to its symbols and back, changes nothing
--   word_is_a_shape_of_equal_radices    up to 16 positions, the symbols are the digits of the rank in the shape of equal radices
use mathlib.Core.Path.{◌≡◌, sym, ap, ap₂, subst, ◌∙◌}
use mathlib.Core.List.{List}
use Prim.Native.Nat.{ℕ, ◌^◌, ◌≤◌, ◌<◌}
use native.Mathlib.Omega.{arith}
use borrow.Author.Tests.{ltb-false, leb-false, le-ltb, lt-leb}
use lib.Dec.{leb, ltb}
use lib.ListN.{length, replicate, length-replicate}
use Rattle.words.specs.Word.{Below}
use Rattle.words.specs.Colex.{ColexLt}
use Rattle.words.specs.HowMany.{HowMany}
use Rattle.answers.specs.Says.{Says, gives, refused_if, and_then}
use Rattle.answers.proofs.Says.{gives_same, passed, then_gave}
use Rattle.bits.specs.Member.{reaches}
use Rattle.bits.proofs.Member.{reaches_not}
use Rattle.positional.specs.Positional.{product, Digits, positional_value}
use Rattle.positional.proofs.Digits.{digits-good, number_of_digits, digits_of_number, number_below}
use Rattle.positional.proofs.Equal.{product-equal, below_is_digits}
use Rattle.positional.proofs.Counted.{product_is_how_many_digits, number_is_how_many_earlier}
use Rattle.cartesian.specs.Checks.{number_says}
use Rattle.cartesian.specs.Rules.{delinearize_says}
use Rattle.cartesian.proofs.Fits.{fits_given}
use Rattle.digits.specs.declared.DigitWord.{DigitWord}
use Rattle.digits.specs.Rules.{symbols_of, digit_word_of, digit_count_says, check_says, symbols_says, from_symbols_says}
use Rattle.digits.proofs.Positions.{symbols_long}
use Rattle.digits.proofs.Rules.{Known, known, given_passed, symbols_given}

-- ---- the count

pub count_tells_how_many_words : (n k c : ℕ) → digit_count_says n k ≡ gives c → HowMany (Digits (replicate k n)) c
count_tells_how_many_words n k c e =
    let p = passed (ltb 64 k) 1 (number_says (n ^ k)) c e in
    subst (HowMany (Digits (replicate k n))) (product-equal n k ∙ sym (fits_given (n ^ k) c p.1).1) (product_is_how_many_digits (replicate k n))

-- ---- the symbols

-- a call on a given word that gives a value has passed the checks
pub checks_of : {A : Type 0} (x : DigitWord) (s : Says A) (a : A) → and_then (check_says x) (λ c. s) ≡ gives a → (c : ℕ) × (gives c ≡ check_says x) × (s ≡ gives a)
checks_of x s a e =
    let t = then_gave (check_says x) (λ c. s) a e in
    (t.0, sym t.1, t.2)

-- the symbols of a known word are below its radix
pub symbols_below : (x : DigitWord) → x.rank < x.radix ^ x.degree → Below x.radix (symbols_of x)
symbols_below x h =
    let n : ℕ = x.radix in
    let k : ℕ = x.degree in
    (below_is_digits n (symbols_of x)).1
    (subst (λ (j : ℕ). Digits (replicate j n) (symbols_of x)) (sym (symbols_long n k x.rank))
    (digits-good (replicate k n) x.rank (omega (arith, product-equal n k))))

pub digit_rank_is_how_many_earlier : (x : DigitWord) (room : ℕ) (w : List ℕ) → symbols_says x room ≡ gives w
    → HowMany (λ u. Digits (replicate x.degree x.radix) u × ColexLt u w) x.rank
digit_rank_is_how_many_earlier x room w e =
    let rs : List ℕ = replicate x.degree x.radix in
    let t = checks_of x (refused_if (ltb room x.degree) 8 (gives (symbols_of x))) w e in
    let d : Known x t.0 = known x t.0 t.1 in
    let p = passed (ltb room x.degree) 8 (gives (symbols_of x)) w t.2 in
    let low : x.rank < product rs = omega (arith, d.low, product-equal x.radix x.degree) in
    subst (λ (v : List ℕ). HowMany (λ u. Digits rs u × ColexLt u v) x.rank) (gives_same (symbols_of x) w p.1)
    (subst (HowMany (λ u. Digits rs u × ColexLt u (symbols_of x))) (number_of_digits rs x.rank low)
    (number_is_how_many_earlier rs (symbols_of x) (digits-good rs x.rank low)))

pub symbols_of_word : (n room : ℕ) (w : List ℕ) → Below n w → length w ≤ 64 → n ^ length w < 2 ^ 64 → length w ≤ room → symbols_says (digit_word_of n w) room ≡ gives w
symbols_of_word n room w b short small h =
    let g : Digits (replicate (length w) n) w = (below_is_digits n w).0 b in
    let low : positional_value (replicate (length w) n) w < n ^ length w = omega (arith, number_below (replicate (length w) n) w g, product-equal n (length w)) in
    let e : gives (n ^ length w) ≡ check_says (digit_word_of n w) =
    sym (simp (le-ltb 64 (length w) short, lt-leb (2 ^ 64) (n ^ length w) small, lt-leb (n ^ length w) (positional_value (replicate (length w) n) w) low)) in
    symbols_given (digit_word_of n w) (n ^ length w) room e h ∙ ap gives (digits_of_number (replicate (length w) n) w g)

pub symbols_tell_the_word : (n room : ℕ) (w : List ℕ) (x : DigitWord) → from_symbols_says n w ≡ gives x → length w ≤ room → symbols_says x room ≡ gives w
symbols_tell_the_word n room w x e h =
    let p = passed (ltb 64 (length w)) 1 (refused_if (reaches n w) 7 (refused_if (leb (2 ^ 64) (n ^ length w)) 9 (gives (digit_word_of n w)))) x e in
    let q = passed (reaches n w) 7 (refused_if (leb (2 ^ 64) (n ^ length w)) 9 (gives (digit_word_of n w))) x p.1 in
    let o = passed (leb (2 ^ 64) (n ^ length w)) 9 (gives (digit_word_of n w)) x q.1 in
    ap (λ (y : DigitWord). symbols_says y room) (sym (gives_same (digit_word_of n w) x o.1))
    ∙ symbols_of_word n room w ((reaches_not n w).0 q.0) (ltb-false 64 (length w) p.0) (leb-false (2 ^ 64) (n ^ length w) o.0) h

pub word_tells_the_symbols : (x : DigitWord) (room : ℕ) (w : List ℕ) → symbols_says x room ≡ gives w → from_symbols_says x.radix w ≡ gives x
word_tells_the_symbols x room w e =
    let n : ℕ = x.radix in
    let k : ℕ = x.degree in
    let t = checks_of x (refused_if (ltb room k) 8 (gives (symbols_of x))) w e in
    let d : Known x t.0 = known x t.0 t.1 in
    let p = passed (ltb room k) 8 (gives (symbols_of x)) w t.2 in
    let l : length (symbols_of x) ≡ k = symbols_long n k x.rank in
    let same : digit_word_of n (symbols_of x) ≡ x =
    ap₂ (λ (j m : ℕ). record { radix = n; degree = j; rank = m }) l
    (ap (λ (j : ℕ). positional_value (replicate j n) (symbols_of x)) l ∙ number_of_digits (replicate k n) x.rank (omega (arith, product-equal n k, d.low))) in
    let small : n ^ length (symbols_of x) < 2 ^ 64 = subst (λ (j : ℕ). n ^ j < 2 ^ 64) (sym l) d.small in
    ap (from_symbols_says n) (sym (gives_same (symbols_of x) w p.1))
    ∙ simp (le-ltb 64 (length (symbols_of x)) (omega (arith, l, d.short)), (reaches_not n (symbols_of x)).1 (symbols_below x d.low), lt-leb (2 ^ 64) (n ^ length (symbols_of x)) small)
    (ap gives same)

-- ---- shapes

pub word_is_a_shape_of_equal_radices : (x : DigitWord) (c room : ℕ) → check_says x ≡ gives c → x.degree ≤ 16
    → delinearize_says (replicate x.degree x.radix) x.rank room ≡ symbols_says x room
word_is_a_shape_of_equal_radices x c room e h =
    let n : ℕ = x.radix in
    let k : ℕ = x.degree in
    let rs : List ℕ = replicate k n in
    let d : Known x c = known x c (sym e) in
    let l : length rs ≡ k = length-replicate k n in
    let p : product rs ≡ n ^ k = product-equal n k in
    simp (le-ltb 16 (length rs) (omega arith), lt-leb (2 ^ 64) (product rs) (omega (arith, d.small)), lt-leb (product rs) x.rank (omega (arith, d.low)))
    (ap (λ (j : ℕ). refused_if (ltb room j) 8 (gives (symbols_of x))) l ∙ sym (given_passed x c (refused_if (ltb room k) 8 (gives (symbols_of x))) (sym e)))
