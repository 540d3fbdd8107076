-- No mass is -0.0: a sum of two f64 is -0.0 only if both are, and the sum starts at +0.0. Assumes nothing.
--   minus_zero x    x is -0.0
--   round-plus, round_some    what is rounded to -0.0 is negative, and smaller than the smallest f64
--   add_kept    a sum whose first part is not -0.0 is not
--   mass_holds, mass_no_minus_zero    a mass is an f64, and not -0.0
--   no_minus_zero_bits    so its bits are not those of -0.0
use mathlib.Core.Bool.{Bool, true, false, ◌&&◌, cond, beq}
use mathlib.Core.List.{List, [], ◌∷◌}
use mathlib.Core.Path.{◌≡◌, refl, sym, ap, subst, ◌∙◌}
use Prim.Native.Nat.{ℕ, zero, suc, ◌+◌, ◌-◌, ◌*◌, ◌/◌, ◌%◌, ◌^◌, ◌≤◌, ◌<◌, ◌∣◌, compare}
use native.Mathlib.Nat.{zero-mul, mul_comm, mul-sub, mul-pos, mul_right_comm, one-mul, add-mul, le-div_iff_mul-le, div-div-eq-div-mul, one-dvd, dvd-zero, dvd-mul_right, dvd-mul_left_of_dvd, dvd-add, dvd-sub, mul-dvd-mul_right, le_of_dvd, lt_of_not-le, not-le_of_lt, le_trans}
use native.Mathlib.Omega.{arith}
use borrow.Author.Tests.{ltb-true}
use lib.IntN.{ℤ, pos, negsuc}
use lib.Dec.{T, leb, ltb, eqb, leb→le}
use lib.Pow.{pow-add, pow_pos, pow-lt}
use lib.Count.{count_trailing_zeros}
use lib.Ieee.{Float, nan, inf, fin, Format, binary64, prec, emax, low, up, down, minus, size, odd, units, round, sum, add, mul, fits, of_bits, to_bits}
use lib.Ieee.Digits.{Equals, odd_val, size-lt, size_reaches}
use lib.Ieee.Fits.{two, up_pos, down_pos, round_is, and_l, and_r, add-fits, mul-fits}
use lib.Ieee.Nearest.{nearest-ge}
use lib.Ieee.Bits.{of_bits-fits, of_bits-to_bits}
use Rattle.surface.specs.Mass.{monomial_at, add_terms, add_degrees, mass_of, nought}

abbrev pub minus_zero : Float → Bool
minus_zero nan = false
minus_zero (inf s) = false
minus_zero (fin s zero e) = s
minus_zero (fin s (suc m) e) = false

-- ---- what is rounded

plus : (m : ℕ) (e : ℤ) → minus_zero (fin false m e) ≡ false
plus zero e = refl
plus (suc m) e = refl

odd-plus : (d q k l : ℕ) → minus_zero (odd d false q k l) ≡ false
unfolding odd
odd-plus d zero k l = refl
odd-plus d (suc q) k l = let t = count_trailing_zeros d (suc q) in plus (suc q / 2 ^ t) (minus (k + t) l)

choice : (b : Bool) (x y : Float) → minus_zero x ≡ false → minus_zero y ≡ false → minus_zero (cond b x y) ≡ false
choice true x y h k = h
choice false x y h k = k

units-plus : (f : Format) (q k : ℕ) → minus_zero (units f false q k) ≡ false
unfolding units
units-plus f q k = choice (ltb (q * 2 ^ k) (2 ^ (low f + suc (emax f)))) (odd (suc (prec f)) false q k (low f)) (inf false) (odd-plus (suc (prec f)) q k (low f)) refl

pub round-plus : (f : Format) (num den : ℕ) → minus_zero (round f false num den) ≡ false
round-plus f num den = ap minus_zero (round_is f false num den) ∙ units-plus f _ _

-- a value that is not 0 in size is no zero
not_zero : (x : Float) (a c : ℕ) → Equals x a c → 0 < a → minus_zero x ≡ false
not_zero nan a c e h = refl
not_zero (inf s) a c e h = refl
not_zero (fin s (suc m) d) a c e h = refl
not_zero (fin s zero d) a c e h =
    let z : 0 * up d * c ≡ 0 = ap (λ (x : ℕ). x * c) (zero-mul (up d)) ∙ zero-mul c in
    let p : 0 < a * down d = mul-pos h (down_pos d) in
    absurd (omega (arith, z, p, e))

units_some : (f : Format) (s : Bool) (q k : ℕ) → 0 < q → minus_zero (units f s q k) ≡ false
unfolding units
units_some f s q k h =
    choice (ltb (q * 2 ^ k) (2 ^ (low f + suc (emax f)))) (odd (suc (prec f)) s q k (low f)) (inf s)
    (not_zero (odd (suc (prec f)) s q k (low f)) (q * 2 ^ k) (2 ^ low f) (odd_val (suc (prec f)) s q k (low f)) (mul-pos h (pow_pos k))) refl

-- the leading digits of a number are not 0
leading : (p w : ℕ) → 2 ≤ p → 0 < w → 1 ≤ w / 2 ^ (size w - p)
leading p w h z =
    let a = size-lt w in
    let b : 0 < size w = some (size w) a in
    (le-div_iff_mul-le (pow_pos (size w - p))).1 (subst (λ (x : ℕ). x ≤ w) (sym (one-mul (2 ^ (size w - p)))) (size_reaches w (size w - p) (omega arith)))
  where
    some : (s : ℕ) → w < 2 ^ s → 0 < s
    some zero q = absurd (omega arith)
    some (suc s) q = omega arith

pub round_some : (f : Format) (s : Bool) (num den : ℕ) → 0 < den → den ≤ num * 2 ^ low f → minus_zero (round f s num den) ≡ false
round_some f s num den z h =
    let n = num * 2 ^ low f in
    let k = size (n / den) - prec f in
    let w : 1 ≤ n / den = (le-div_iff_mul-le z).1 (subst (λ (x : ℕ). x ≤ n) (sym (one-mul den)) h) in
    let q : 1 ≤ n / (den * 2 ^ k) = subst (λ (x : ℕ). 1 ≤ x) (div-div-eq-div-mul n den (2 ^ k)) (leading (prec f) (n / den) (two f) w) in
    ap minus_zero (round_is f s num den)
    ∙ units_some f s _ k (le_trans q (nearest-ge (n / (den * 2 ^ k)) (compare (n % (den * 2 ^ k) * 2) (den * 2 ^ k))))

-- ---- a sum

-- a value that the format holds is a whole number of its smallest values
down_divides : (e : ℤ) (l : ℕ) → down e ≤ 2 ^ l → down e ∣ 2 ^ l
down_divides (pos k) l h = one-dvd (2 ^ l)
down_divides (negsuc k) l h =
    let g : suc k ≤ l = fewer in
    let e : suc k + (l - suc k) ≡ l = omega arith in
    subst (λ (x : ℕ). 2 ^ suc k ∣ x) (sym (pow-add 2 (suc k) (l - suc k)) ∙ ap (λ (x : ℕ). 2 ^ x) e) (dvd-mul_right (2 ^ suc k) (2 ^ (l - suc k)))
  where
    fewer : suc k ≤ l
    fewer = lt_of_not-le (λ (q : l ≤ k). not-le_of_lt (pow-lt (let w : l < suc k = omega arith in w)) h)

in_units : (f : Format) (s : Bool) (m : ℕ) (e : ℤ) → T (fits f (fin s m e)) → down e ∣ m * up e * 2 ^ low f
unfolding fits
in_units f s zero e h = subst (λ (x : ℕ). down e ∣ x) (sym (ap (λ (x : ℕ). x * 2 ^ low f) (zero-mul (up e)) ∙ zero-mul (2 ^ low f))) (dvd-zero (down e))
in_units f s (suc m) e h =
    let a : Bool = eqb (suc m % 2) 1 && ltb (suc m) (2 ^ prec f) in
    let b : Bool = leb (down e) (2 ^ low f) in
    let c : Bool = ltb (suc m * up e) (2 ^ suc (emax f) * down e) in
    dvd-mul_left_of_dvd (down e) (down_divides e (low f) (leb→le (down e) (2 ^ low f) (and_r a b (and_l (a && b) c h)))) (suc m * up e)

-- both parts over one denominator c, each a whole number of smallest values
module _ (f : Format) (a b c : ℕ) (z : 0 < c) (p : c ∣ a * 2 ^ low f) (q : c ∣ b * 2 ^ low f) where
  both_some : (s : Bool) → 0 < a + b → minus_zero (round f s (a + b) c) ≡ false
  both_some s h =
      round_some f s (a + b) c z (le_of_dvd (mul-pos h (pow_pos (low f))) (subst (λ (x : ℕ). c ∣ x) (sym (add-mul a b (2 ^ low f))) (dvd-add c p q)))

  less-some : (s : Bool) → a < b → minus_zero (round f s (b - a) c) ≡ false
  less-some s h =
      round_some f s (b - a) c z (le_of_dvd (mul-pos (let w : 0 < b - a = omega arith in w) (pow_pos (low f)))
      (subst (λ (x : ℕ). c ∣ x) (sym (mul_comm (b - a) (2 ^ low f) ∙ mul-sub (2 ^ low f) b a)) (dvd-sub c (subst (λ (x : ℕ). c ∣ x) (mul_comm b (2 ^ low f)) q) (subst (λ (x : ℕ). c ∣ x) (mul_comm a (2 ^ low f)) p))))

sum_kept : (f : Format) (s : Bool) (a : ℕ) (t : Bool) (b c : ℕ) → 0 < c → c ∣ a * 2 ^ low f → c ∣ b * 2 ^ low f → (s ≡ true → 0 < a) → minus_zero (sum f s a t b c) ≡ false
unfolding sum
sum_kept f false a false b c z p q h = round-plus f (a + b) c
sum_kept f true a true b c z p q h = both_some f a b c z p q true (let w = h refl in omega arith)
sum_kept f false a true b c z p q h = go (ltb a b) refl
  where
    go : (x : Bool) → ltb a b ≡ x → minus_zero (cond x (round f true (b - a) c) (round f false (a - b) c)) ≡ false
    go true e = less-some f a b c z p q true (ltb-true a b e)
    go false e = round-plus f (a - b) c
sum_kept f true a false b c z p q h = go (ltb a b) (ltb b a) refl
  where
    go : (x y : Bool) → ltb b a ≡ y → minus_zero (cond x (round f false (b - a) c) (round f (true && y) (a - b) c)) ≡ false
    go true y e = round-plus f (b - a) c
    go false true e = less-some f b a c z q p true (ltb-true b a e)
    go false false e = round-plus f (a - b) c

pub add_kept : (f : Format) (x y : Float) → T (fits f x) → T (fits f y) → minus_zero x ≡ false → minus_zero (add f x y) ≡ false
unfolding add
add_kept f nan y h k o = refl
add_kept f (inf s) nan h k o = refl
add_kept f (inf s) (inf t) h k o = choice (beq s t) (inf s) nan refl refl
add_kept f (inf s) (fin t n d) h k o = refl
add_kept f (fin s m e) nan h k o = refl
add_kept f (fin s m e) (inf t) h k o = refl
add_kept f (fin s m e) (fin t n d) h k o =
    sum_kept f s (m * up e * down d) t (n * up d * down e) (down e * down d) (mul-pos (down_pos e) (down_pos d))
    (subst (λ (x : ℕ). down e * down d ∣ x) (mul_right_comm (m * up e) (2 ^ low f) (down d)) (mul-dvd-mul_right (down e) (in_units f s m e h) (down d)))
    (subst (λ (x : ℕ). x ∣ n * up d * down e * 2 ^ low f) (mul_comm (down d) (down e))
    (subst (λ (x : ℕ). down d * down e ∣ x) (mul_right_comm (n * up d) (2 ^ low f) (down e)) (mul-dvd-mul_right (down d) (in_units f t n d k) (down e))))
    (some m o)
  where
    some : (m : ℕ) → minus_zero (fin s m e) ≡ false → s ≡ true → 0 < m * up e * down d
    some zero o r = absurd (let w : ◌≡◌ {A = ℕ} 0 1 = cc in omega arith)
    some (suc m) o r = mul-pos (mul-pos (let w : 0 < suc m = omega arith in w) (up_pos e)) (down_pos d)

-- ---- the mass

record Kept (x : Float) : Type 0 where
  pub holds : T (fits binary64 x)
  pub kept : minus_zero x ≡ false

one_more : (sum y : Float) → T (fits binary64 y) → Kept sum → Kept (add binary64 sum y)
one_more sum y h k = record { holds = add-fits binary64 sum y; kept = add_kept binary64 sum y k.holds h k.kept }

terms_kept : (m : ℕ → Float) (j : ℕ) (cs : List ℕ) (sum : Float) → Kept sum → Kept (add_terms m j cs sum)
unfolding add_terms
terms_kept m j [] sum k = k
terms_kept m j (c ∷ cs) sum k = terms_kept m (suc j) cs _ (one_more sum (mul binary64 (of_bits binary64 c) (m j)) (mul-fits binary64 (of_bits binary64 c) (m j)) k)

degrees_kept : (p t : Float) (k : ℕ) (ts : List (List ℕ)) (sum : Float) → Kept sum → Kept (add_degrees p t k ts sum)
unfolding add_degrees
degrees_kept p t k [] sum h = h
degrees_kept p t k (cs ∷ ts) sum h = degrees_kept p t (suc k) ts _ (terms_kept (monomial_at p t k) 0 cs sum h)

start : Kept nought
unfolding of_bits
start = record { holds = of_bits-fits binary64 0; kept = refl }

mass_kept : (p t : Float) (ts : List (List ℕ)) → Kept (mass_of p t ts)
mass_kept p t ts = degrees_kept p t 0 ts nought start

pub mass_holds : (p t : Float) (ts : List (List ℕ)) → T (fits binary64 (mass_of p t ts))
mass_holds p t ts = (mass_kept p t ts).holds

pub mass_no_minus_zero : (p t : Float) (ts : List (List ℕ)) → minus_zero (mass_of p t ts) ≡ false
mass_no_minus_zero p t ts = (mass_kept p t ts).kept

minus-zero-bits : minus_zero (of_bits binary64 0x8000_0000_0000_0000) ≡ true
unfolding of_bits
minus-zero-bits = refl

pub no_minus_zero_bits : (p t : Float) (ts : List (List ℕ)) → to_bits binary64 (mass_of p t ts) ≡ 0x8000_0000_0000_0000 → ⊥
no_minus_zero_bits p t ts e =
    let r : true ≡ false = sym minus-zero-bits ∙ ap (λ (b : ℕ). minus_zero (of_bits binary64 b)) (sym e) ∙ ap minus_zero (of_bits-to_bits binary64 (mass_of p t ts) (mass_holds p t ts)) ∙ mass_no_minus_zero p t ts in
    let w : ◌≡◌ {A = ℕ} 0 1 = cc in omega arith
