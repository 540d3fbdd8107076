-- Signed numbers, taken in one after the other. Assumes nothing.
--   Listed texts ahead table₀ table n    the first n of the texts are numbers that stand in the table, those ahead are not taken in yet
--   listed_none, listed_kept, listed-all    at the beginning, one text further, and at the end
--   signed_there    a list of the same texts
--   listed-bad, listed-full    a text that is no signed number, and one that has no place, make the list bad
use Rattle.std.specs.Prelude.{Option}
use mathlib.Core.Path.{◌≡◌, refl, sym, ap, subst, ◌∙◌}
use mathlib.Core.List.{List, [], ◌∷◌, ◌++◌, append_assoc, append-nil}
use Prim.Native.Nat.{ℕ, suc, ◌+◌, ◌≤◌, ◌<◌}
use native.Mathlib.Numerals.{add-one}
use native.Mathlib.Omega.{arith}
use lib.ListN.{length, drop, set, length-append, length-set}
use lib.IntN.{ℤ, pos}
use lib.Seq.{drop-cons, set_at}
use Rattle.spelling.specs.Signed.{SignedNumeral, InRange}
use Rattle.spelling.proofs.Minus.{one_signed}
use Rattle.fields.specs.Fields.{AllSigned, SignedAre, SignedIn}

pub record Listed (texts ahead : List (List ℕ)) (table₀ table : List ℤ) (n : ℕ) : Type 0 where
  pub numbers : List ℤ
  pub many : length numbers ≡ n
  pub stand : table ≡ numbers ++ drop n table₀
  pub hold : n ≤ length table₀
  pub long : length table ≡ length table₀
  pub all : (zs : List ℤ) → AllSigned ahead zs → AllSigned texts (numbers ++ zs)
  pub only : (zs : List ℤ) → AllSigned texts zs → (ys : List ℤ) × (zs ≡ numbers ++ ys) × AllSigned ahead ys

pub listed_none : (texts : List (List ℕ)) (table : List ℤ) → Listed texts texts table table 0
listed_none texts table =
    record { numbers = []; many = refl; stand = refl; hold = omega arith; long = refl; all = λ zs s. s; only = λ zs s. (zs, refl, s) }

-- the first of signed numbers, where there is a text
first_signed : (t : List ℕ) (ts : List (List ℕ)) (ys : List ℤ) → AllSigned (t ∷ ts) ys → (z : ℤ) × (zs : List ℤ) × (ys ≡ z ∷ zs) × (SignedNumeral t z × InRange z) × AllSigned ts zs
first_signed t ts [] s = absurd s
first_signed t ts (z ∷ zs) s = (z, zs, refl, s.0, s.1)

-- one more number in the first places
stored : (numbers old : List ℤ) (n : ℕ) (z : ℤ) → length numbers ≡ n → n < length old → set (numbers ++ drop n old) n z ≡ (numbers ++ (z ∷ [])) ++ drop (n + 1) old
stored numbers old n z e h =
    ap (λ (l : List ℤ). set (numbers ++ l) n z) (drop-cons old n (pos 0) h) ∙ set_at numbers _ (drop (suc n) old) z n e
    ∙ sym (append_assoc numbers (z ∷ []) (drop (suc n) old)) ∙ ap (λ (k : ℕ). (numbers ++ (z ∷ [])) ++ drop k old) (sym (add-one n))

module _ (texts ahead : List (List ℕ)) (table₀ table : List ℤ) (n : ℕ) (o : Listed texts ahead table₀ table n) where
  listed-one : (t : List ℕ) (ts : List (List ℕ)) (z : ℤ) → ahead ≡ t ∷ ts → n < length table → SignedNumeral t z × InRange z → Listed texts ts table₀ (set table n z) (n + 1)
  listed-one t ts z e h s =
      let k : n < length table₀ = omega (arith, o.long) in
      record {
        numbers = o.numbers ++ (z ∷ []);
        many = length-append o.numbers (z ∷ []) ∙ ap (λ (m : ℕ). m + 1) o.many;
        stand = ap (λ (l : List ℤ). set l n z) o.stand ∙ stored o.numbers table₀ n z o.many k;
        hold = omega arith;
        long = length-set table n z ∙ o.long;
        all = λ zs a. subst (AllSigned texts) (sym (append_assoc o.numbers (z ∷ []) zs)) (o.all (z ∷ zs) (subst (λ (l : List (List ℕ)). AllSigned l (z ∷ zs)) (sym e) (s, a)));
        only = λ zs a. only zs (o.only zs a);
      }
    where
      only : (zs : List ℤ) → (ys : List ℤ) × (zs ≡ o.numbers ++ ys) × AllSigned ahead ys → (ys : List ℤ) × (zs ≡ (o.numbers ++ (z ∷ [])) ++ ys) × AllSigned ts ys
      only zs p =
          let q = first_signed t ts p.0 (subst (λ (l : List (List ℕ)). AllSigned l p.0) e p.2) in
          let same : q.0 ≡ z = one_signed t q.0 z q.3.0 s.0 in (
            q.1,
            p.1 ∙ ap (λ (l : List ℤ). o.numbers ++ l) (q.2 ∙ ap (λ (y : ℤ). y ∷ q.1) same) ∙ sym (append_assoc o.numbers (z ∷ []) q.1),
            q.4,
          )

  -- what stands in the table is read back from the bits of the number
  pub listed_kept : (t : List ℕ) (ts : List (List ℕ)) (z y : ℤ) → y ≡ z → ahead ≡ t ∷ ts → n < length table → SignedNumeral t z × InRange z → Listed texts ts table₀ (set table n y) (n + 1)
  listed_kept t ts z y q e h s = subst (λ (x : ℤ). Listed texts ts table₀ (set table n x) (n + 1)) (sym q) (listed-one t ts z e h s)

  pub listed-all : ahead ≡ [] → SignedAre texts table₀ table n
  listed-all e =
      record {
        numbers = o.numbers;
        says = subst (AllSigned texts) (append-nil o.numbers) (o.all [] (subst (λ (l : List (List ℕ)). AllSigned l []) (sym e) tt));
        many = o.many;
        first = o.stand;
        hold = omega (arith, o.hold, o.long);
      }

  pub listed-bad : (t : List ℕ) (ts : List (List ℕ)) → ahead ≡ t ∷ ts → ((z : ℤ) → InRange z → SignedNumeral t z → ⊥) → (zs : List ℤ) → AllSigned texts zs → ⊥
  listed-bad t ts e d zs a =
      let p = o.only zs a in
      let q = first_signed t ts p.0 (subst (λ (l : List (List ℕ)). AllSigned l p.0) e p.2) in
      d q.0 q.3.1 q.3.0

  pub listed-full : length table ≤ n → 0 < length ahead → (zs : List ℤ) → length zs ≤ length table₀ → AllSigned texts zs → ⊥
  listed-full h g zs k a = some ahead g (o.only zs a)
    where
      some : (us : List (List ℕ)) → 0 < length us → (ys : List ℤ) × (zs ≡ o.numbers ++ ys) × AllSigned us ys → ⊥
      some [] l p = omega arith
      some (u ∷ us) l p =
          let q = first_signed u us p.0 p.2 in
          omega (arith, o.long, o.many, ap length p.1, length-append o.numbers p.0, ap length q.2)

pub signed_there : (texts there : List (List ℕ)) (table table' : List ℤ) (r : Option ℕ) → there ≡ texts → SignedIn there table table' r → SignedIn texts table table' r
signed_there texts there table table' r e o = subst (λ (ts : List (List ℕ)). SignedIn ts table table' r) e o
