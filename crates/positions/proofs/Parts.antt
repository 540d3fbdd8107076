-- How many things have a property, by parts. Assumes nothing.
--   none_is_zero    nothing has it: 0
--   zero_is_none    and only then is it 0
--   decided_is_one_or_none    of one thing that has it if a test holds: 1 or 0
--   same_is_how_many    properties of the same things have the same count
--   Split    the things with a property are the images of those with either of two others, each of one of them
--   split_is_how_many    then the counts of the two add up
use mathlib.Core.Path.{◌≡◌, refl, sym, ap, subst, ◌∙◌}
use mathlib.Core.Bool.{Bool, true, false, true≢false}
use mathlib.Core.Logic.{◌⊎◌, inl, inr, ◌↔◌}
use mathlib.Core.List.{List, [], ◌∷◌, ◌++◌, map}
use Prim.Native.Nat.{ℕ, ◌+◌}
use native.Mathlib.Omega.{arith}
use lib.ListN.{length, length-append, length-map}
use Rattle.words.specs.Pick.{pick}
use Rattle.words.specs.HowMany.{In, Distinct, HowMany}

pub none_is_zero : {A : Type 0} (P : A → Type 0) → ((a : A) → P a → ⊥) → HowMany P 0
none_is_zero P n = record { all = []; size = refl; distinct = tt; sound = λ a i. absurd i; complete = λ a p. absurd (n a p) }

pub zero_is_none : {A : Type 0} (P : A → Type 0) (c : ℕ) → HowMany P c → (c ≡ 0) ↔ ((a : A) → P a → ⊥)
zero_is_none {A} P c h = (λ e a p. to h.all (h.size ∙ e) a (h.complete a p), λ n. sym h.size ∙ from h.all (λ a i. n a (h.sound a i)))
  where
    to : (l : List A) → length l ≡ 0 → (a : A) → In a l → ⊥
    to [] e a i = i
    to (x ∷ xs) e a i = omega arith

    from : (l : List A) → ((a : A) → In a l → ⊥) → length l ≡ 0
    from [] n = refl
    from (x ∷ xs) n = absurd (n x (inl refl))

pub decided_is_one_or_none : (t : Bool) → HowMany (λ (u : Unit {0}). t ≡ true) (pick t 1 0)
decided_is_one_or_none true =
    record { all = tt ∷ []; size = refl; distinct = (λ i. i, tt); sound = λ u i. refl; complete = λ u p. inl refl }
decided_is_one_or_none false = none_is_zero (λ (u : Unit {0}). false ≡ true) (λ u p. true≢false (sym p))

pub same_is_how_many : {A : Type 0} (P Q : A → Type 0) (c : ℕ) → ((a : A) → P a ↔ Q a) → HowMany P c → HowMany Q c
same_is_how_many P Q c s h =
    record {
      all = h.all;
      size = h.size;
      distinct = h.distinct;
      sound = λ a i. (s a).0 (h.sound a i);
      complete = λ a q. h.complete a ((s a).1 q);
    }

-- ---- lists in a row, and the images of a list

in_row : {A : Type 0} (a : A) (u v : List A) → In a (u ++ v) → In a u ⊎ In a v
in_row a [] v i = inr i
in_row a (x ∷ xs) v (inl e) = inl (inl e)
in_row {A} a (x ∷ xs) v (inr i) = go (in_row a xs v i)
  where
    go : In a xs ⊎ In a v → In a (x ∷ xs) ⊎ In a v
    go (inl j) = inl (inr j)
    go (inr j) = inr j

row_left : {A : Type 0} (a : A) (u v : List A) → In a u → In a (u ++ v)
row_left a [] v i = absurd i
row_left a (x ∷ xs) v (inl e) = inl e
row_left a (x ∷ xs) v (inr i) = inr (row_left a xs v i)

row_right : {A : Type 0} (a : A) (u v : List A) → In a v → In a (u ++ v)
row_right a [] v i = i
row_right a (x ∷ xs) v i = inr (row_right a xs v i)

row-distinct : {A : Type 0} (u v : List A) → Distinct u → Distinct v → ((a : A) → In a u → In a v → ⊥) → Distinct (u ++ v)
row-distinct [] v d e n = e
row-distinct {A} (x ∷ xs) v d e n = (λ i. go (in_row x xs v i), row-distinct xs v d.1 e (λ a i j. n a (inr i) j))
  where
    go : In x xs ⊎ In x v → ⊥
    go (inl i) = d.0 i
    go (inr j) = n x (inl refl) j

in_image : {A B : Type 0} (f : A → B) (b : B) (l : List A) → In b (map f l) → (a : A) × In a l × (b ≡ f a)
in_image f b [] i = absurd i
in_image f b (x ∷ xs) (inl e) = (x, inl refl, e)
in_image {A} {B} f b (x ∷ xs) (inr i) = go (in_image f b xs i)
  where
    go : (a : A) × In a xs × (b ≡ f a) → (a : A) × In a (x ∷ xs) × (b ≡ f a)
    go t = (t.0, inr t.1, t.2)

image_in : {A B : Type 0} (f : A → B) (a : A) (l : List A) → In a l → In (f a) (map f l)
image_in f a [] i = absurd i
image_in f a (x ∷ xs) (inl e) = inl (ap f e)
image_in f a (x ∷ xs) (inr i) = inr (image_in f a xs i)

image_distinct : {A B : Type 0} (f : A → B) → ((a b : A) → f a ≡ f b → a ≡ b) → (l : List A) → Distinct l → Distinct (map f l)
image_distinct f one [] d = tt
image_distinct {A} f one (x ∷ xs) d = (λ i. go (in_image f (f x) xs i), image_distinct f one xs d.1)
  where
    go : (a : A) × In a xs × (f x ≡ f a) → ⊥
    go t = d.0 (subst (λ (a : A). In a xs) (sym (one x t.0 t.2)) t.1)

-- ---- two parts

pub record Split {A B C : Type 0} (P : A → Type 0) (Q : B → Type 0) (R : C → Type 0) (f : A → C) (g : B → C) : Type 0 where
  pub left : (a : A) → P a → R (f a)
  pub right : (b : B) → Q b → R (g b)
  pub one_left : (a b : A) → f a ≡ f b → a ≡ b
  pub one_right : (a b : B) → g a ≡ g b → a ≡ b
  pub apart : (a : A) (b : B) → P a → Q b → f a ≡ g b → ⊥
  pub whole : (c : C) → R c → ((a : A) × P a × (c ≡ f a)) ⊎ ((b : B) × Q b × (c ≡ g b))

pub split_is_how_many : {A B C : Type 0} (P : A → Type 0) (Q : B → Type 0) (R : C → Type 0) (f : A → C) (g : B → C) (m n : ℕ)
    → Split P Q R f g → HowMany P m → HowMany Q n → HowMany R (m + n)
split_is_how_many {A} {B} {C} P Q R f g m n s h k =
    record {
      all = us ++ vs;
      size = omega (arith, length-append us vs, length-map h.all f, length-map k.all g, h.size, k.size);
      distinct = row-distinct us vs (image_distinct f s.one_left h.all h.distinct) (image_distinct g s.one_right k.all k.distinct) apart;
      sound = λ c i. sound c (in_row c us vs i);
      complete = λ c r. complete c (s.whole c r);
    }
  where
    us : List C
    us = map f h.all

    vs : List C
    vs = map g k.all

    apart : (c : C) → In c us → In c vs → ⊥
    apart c i j =
        let a = in_image f c h.all i in
        let b = in_image g c k.all j in
        s.apart a.0 b.0 (h.sound a.0 a.1) (k.sound b.0 b.1) (sym a.2 ∙ b.2)

    sound : (c : C) → In c us ⊎ In c vs → R c
    sound c (inl i) = let a = in_image f c h.all i in subst R (sym a.2) (s.left a.0 (h.sound a.0 a.1))
    sound c (inr j) = let b = in_image g c k.all j in subst R (sym b.2) (s.right b.0 (k.sound b.0 b.1))

    complete : (c : C) → ((a : A) × P a × (c ≡ f a)) ⊎ ((b : B) × Q b × (c ≡ g b)) → In c (us ++ vs)
    complete c (inl t) = subst (λ (x : C). In x (us ++ vs)) (sym t.2) (row_left (f t.0) us vs (image_in f t.0 h.all (h.complete t.0 t.1)))
    complete c (inr t) = subst (λ (x : C). In x (us ++ vs)) (sym t.2) (row_right (g t.0) us vs (image_in g t.0 k.all (k.complete t.0 t.1)))
