-- The stabilizer is how many rearrangements of the positions of a word leave it as it is. Assumes nothing.
--   stabilizer_is_how_many_rearrangements    exactly that
-- The way: such a rearrangement is made by choosing, symbol by symbol from the left, one of the positions that hold the symbol and are free. Each choice
-- leaves as many ways as the others.
use mathlib.Core.Path.{◌≡◌, refl, sym, ap, ap₂, subst, ◌∙◌}
use mathlib.Core.Bool.{Bool, true, false}
use mathlib.Core.Logic.{◌⊎◌, inl, inr, ◌↔◌}
use mathlib.Core.List.{List, [], ◌∷◌, ◌++◌}
use Prim.Native.Nat.{ℕ, zero, suc, ◌+◌, ◌*◌}
use native.Mathlib.Nat.{add_comm, mul_comm, zero-mul, suc-mul}
use native.Mathlib.Omega.{arith}
use borrow.Author.Tests.{eqb-true, eqb-false, eq-eqb}
use lib.Dec.{eqb}
use lib.ListN.{length, get_or}
use Rattle.words.specs.Pick.{pick}
use Rattle.words.specs.Word.{Below}
use Rattle.words.specs.Factorial.{factorial}
use Rattle.words.specs.HowMany.{In, Distinct, HowMany}
use Rattle.words.specs.Inversions.{multiplicity}
use Rattle.words.proofs.Members.{in_below, below_of_in}
use Rattle.words.proofs.Inversions.{multiplicity_append}
use Rattle.merging.specs.Sorting.{Rearranged}
use Rattle.arrangements.specs.Permutation.{Permutation, identity, compose}
use Rattle.arrangements.proofs.Group.{identity_is_a_permutation, compose_long, compose-identity}
use Rattle.arrangements.proofs.Smaller.{permutation-has}
use Rattle.deletion.specs.Multiplicities.{ceiling_of, stabilizer_below, stabilizer_of}
use Rattle.deletion.proofs.Multiplicities.{below_ceiling, stabilizer_none, stabilizer_more}
use Rattle.positions.specs.Stabilizer.{Stabilizes}
use Rattle.positions.proofs.Parts.{none_is_zero, decided_is_one_or_none, same_is_how_many, split_is_how_many}

-- ---- lists by their first element and the rest

abbrev First : (ℕ → Type 0) → (ℕ → List ℕ → Type 0) → List ℕ → Type 0
First Q R [] = ⊥
First Q R (y ∷ ys) = Q y × R y ys

listed : (R : ℕ → List ℕ → Type 0) (n : ℕ) (l : List ℕ) → Distinct l → ((y : ℕ) → In y l → HowMany (R y) n) → HowMany (First (λ y. In y l) R) (length l * n)
listed R n [] d h = subst (HowMany (First (λ y. In y []) R)) (sym (zero-mul n)) (none_is_zero (First (λ y. In y []) R) none)
  where
    none : (p : List ℕ) → First (λ y. In y []) R p → ⊥
    none [] f = f
    none (y ∷ ys) f = f.0
listed R n (z ∷ zs) d h =
    subst (HowMany (First (λ y. In y (z ∷ zs)) R)) (add_comm n (length zs * n) ∙ sym (suc-mul (length zs) n))
    (split_is_how_many (R z) (First (λ y. In y zs) R) (First (λ y. In y (z ∷ zs)) R) (λ p. z ∷ p) (λ p. p) n (length zs * n)
    (record {
      left = λ p r. (inl refl, r);
      right = right;
      one_left = λ a b e. cc;
      one_right = λ a b e. e;
      apart = apart;
      whole = whole;
    })
    (h z (inl refl)) (listed R n zs d.1 (λ y i. h y (inr i))))
  where
    right : (p : List ℕ) → First (λ y. In y zs) R p → First (λ y. In y (z ∷ zs)) R p
    right [] f = f
    right (y ∷ ys) f = (inr f.0, f.1)

    apart : (a b : List ℕ) → R z a → First (λ y. In y zs) R b → z ∷ a ≡ b → ⊥
    apart a [] r f e = f
    apart a (y ∷ ys) r f e = d.0 (subst (λ (x : ℕ). In x zs) (let q : y ≡ z = cc in q) f.0)

    whole : (p : List ℕ) → First (λ y. In y (z ∷ zs)) R p → ((a : List ℕ) × R z a × (p ≡ z ∷ a)) ⊎ ((b : List ℕ) × First (λ y. In y zs) R b × (p ≡ b))
    whole [] f = absurd f
    whole (y ∷ ys) f = go f.0
      where
        go : In y (z ∷ zs) → ((a : List ℕ) × R z a × (y ∷ ys ≡ z ∷ a)) ⊎ ((b : List ℕ) × First (λ y. In y zs) R b × (y ∷ ys ≡ b))
        go (inl e) = inl (ys, subst (λ (x : ℕ). R x ys) e f.1, ap (λ (x : ℕ). x ∷ ys) e)
        go (inr i) = inr (y ∷ ys, (i, f.1), refl)

-- as many first elements, and for each of them as many rests
chosen_is_how_many : (Q : ℕ → Type 0) (R : ℕ → List ℕ → Type 0) (m n : ℕ) → HowMany Q m → ((y : ℕ) → Q y → HowMany (R y) n) → HowMany (First Q R) (m * n)
chosen_is_how_many Q R m n h k =
    subst (λ (c : ℕ). HowMany (First Q R) (c * n)) h.size
    (same_is_how_many (First (λ y. In y h.all) R) (First Q R) _ same (listed R n h.all h.distinct (λ y i. k y (h.sound y i))))
  where
    same : (p : List ℕ) → First (λ y. In y h.all) R p ↔ First Q R p
    same [] = (λ f. f, λ f. f)
    same (y ∷ ys) = (λ f. (h.sound y f.0, f.1), λ f. (h.complete y f.0, f.1))

-- ---- the free positions, and one of them taken

rest : ℕ → List ℕ → List ℕ
rest y [] = []
rest y (z ∷ zs) = pick (eqb z y) zs (z ∷ rest y zs)

-- the free positions of w that hold x
abbrev Choice : List ℕ → List ℕ → ℕ → ℕ → Type 0
Choice w free x y = In y free × (get_or w y 0 ≡ x)

choice_is_how_many : (w free : List ℕ) (x : ℕ) → Distinct free → HowMany (Choice w free x) (multiplicity x (compose w free))
unfolding multiplicity
choice_is_how_many w [] x d = none_is_zero (Choice w [] x) (λ y c. c.0)
choice_is_how_many w (z ∷ zs) x d =
    split_is_how_many (λ (u : Unit {0}). eqb (get_or w z 0) x ≡ true) (Choice w zs x) (Choice w (z ∷ zs) x) (λ u. z) (λ y. y) _ _
    (record {
      left = λ u e. (inl refl, eqb-true (get_or w z 0) x e);
      right = λ y c. (inr c.0, c.1);
      one_left = λ a b e. refl;
      one_right = λ a b e. e;
      apart = λ u y e c q. d.0 (subst (λ (v : ℕ). In v zs) (sym q) c.0);
      whole = λ y c. whole y c.0 c.1;
    })
    (decided_is_one_or_none (eqb (get_or w z 0) x)) (choice_is_how_many w zs x d.1)
  where
    whole : (y : ℕ) → In y (z ∷ zs) → get_or w y 0 ≡ x → ((u : Unit {0}) × (eqb (get_or w z 0) x ≡ true) × (y ≡ z)) ⊎ ((v : ℕ) × Choice w zs x v × (y ≡ v))
    whole y (inl q) e = inl (tt, eq-eqb (get_or w z 0) x (ap (λ (v : ℕ). get_or w v 0) (sym q) ∙ e), q)
    whole y (inr i) e = inr (y, (i, e), refl)

rest_in : (y z : ℕ) (l : List ℕ) → Distinct l → In z (rest y l) ↔ (In z l × (z ≡ y → ⊥))
unfolding rest
rest_in y z l d = (to l d, λ h. from l h.0 h.1)
  where
    to : (l : List ℕ) → Distinct l → In z (rest y l) → In z l × (z ≡ y → ⊥)
    to [] d i = absurd i
    to (x ∷ xs) d i = go (eqb x y) refl (to xs d.1) i
      where
        go : (t : Bool) → eqb x y ≡ t → (In z (rest y xs) → In z xs × (z ≡ y → ⊥)) → In z (pick t xs (x ∷ rest y xs)) → In z (x ∷ xs) × (z ≡ y → ⊥)
        go true q ih j = (inr j, λ e. d.0 (subst (λ (v : ℕ). In v xs) (e ∙ sym (eqb-true x y q)) j))
        go false q ih (inl e) = (inl e, λ f. eqb-false x y q (sym e ∙ f))
        go false q ih (inr j) = let r = ih j in (inr r.0, r.1)

    from : (l : List ℕ) → In z l → (z ≡ y → ⊥) → In z (rest y l)
    from [] i n = i
    from (x ∷ xs) i n = go (eqb x y) refl (λ j. from xs j n) i
      where
        go : (t : Bool) → eqb x y ≡ t → (In z xs → In z (rest y xs)) → In z (x ∷ xs) → In z (pick t xs (x ∷ rest y xs))
        go true q ih (inl e) = absurd (n (e ∙ eqb-true x y q))
        go true q ih (inr j) = j
        go false q ih (inl e) = inl e
        go false q ih (inr j) = inr (ih j)

rest_distinct : (y : ℕ) (l : List ℕ) → Distinct l → Distinct (rest y l)
unfolding rest
rest_distinct y [] d = tt
rest_distinct y (x ∷ xs) d = go (eqb x y) (rest_distinct y xs d.1)
  where
    go : (t : Bool) → Distinct (rest y xs) → Distinct (pick t xs (x ∷ rest y xs))
    go true e = d.1
    go false e = (λ i. d.0 ((rest_in y x xs d.1).0 i).0, e)

-- one symbol fewer
rest_many : (w : List ℕ) (y x : ℕ) (l : List ℕ) → In y l → multiplicity x (compose w l) ≡ pick (eqb (get_or w y 0) x) 1 0 + multiplicity x (compose w (rest y l))
unfolding rest multiplicity
rest_many w y x [] i = absurd i
rest_many w y x (z ∷ zs) i = go (eqb z y) refl (λ j. rest_many w y x zs j) i
  where
    go : (t : Bool) → eqb z y ≡ t → (In y zs → multiplicity x (compose w zs) ≡ pick (eqb (get_or w y 0) x) 1 0 + multiplicity x (compose w (rest y zs))) → In y (z ∷ zs)
        → multiplicity x (compose w (z ∷ zs)) ≡ pick (eqb (get_or w y 0) x) 1 0 + multiplicity x (compose w (pick t zs (z ∷ rest y zs)))
    go true q ih j = ap (λ (v : ℕ). pick (eqb (get_or w v 0) x) 1 0 + multiplicity x (compose w zs)) (eqb-true z y q)
    go false q ih (inl e) = absurd (eqb-false z y q (sym e))
    go false q ih (inr j) = omega (arith, ih j)

-- ---- the ways to give each place of v a free position of w that holds its symbol

abbrev Fills : List ℕ → List ℕ → List ℕ → List ℕ → Type 0
Fills w free [] p = p ≡ []
Fills w free (x ∷ xs) p = First (Choice w free x) (λ y. Fills w (rest y free) xs) p

ways : List ℕ → ℕ
ways [] = 1
ways (x ∷ xs) = multiplicity x (x ∷ xs) * ways xs

fills_is_how_many : (w free v : List ℕ) → Distinct free → Rearranged (compose w free) v → HowMany (Fills w free v) (ways v)
unfolding ways multiplicity
fills_is_how_many w free [] d r = record { all = [] ∷ []; size = refl; distinct = (λ i. i, tt); sound = λ p i. sound p i; complete = λ p e. inl e }
  where
    sound : (p : List ℕ) → In p ([] ∷ []) → p ≡ []
    sound p (inl e) = e
    sound p (inr i) = absurd i
fills_is_how_many w free (x ∷ xs) d r =
    subst (λ (m : ℕ). HowMany (Fills w free (x ∷ xs)) (m * ways xs)) (r x)
    (chosen_is_how_many (Choice w free x) (λ y. Fills w (rest y free) xs) _ (ways xs) (choice_is_how_many w free x d)
    (λ y c. fills_is_how_many w (rest y free) xs (rest_distinct y free d) (λ z. omega (arith, r z, rest_many w y z free c.0, ap {B = ℕ} (λ (v : ℕ). pick (eqb v z) 1 0) c.1))))

-- they are the lists of different free positions at which w reads as v
record Chosen (w free v p : List ℕ) : Type 0 where
  pub distinct : Distinct p
  pub from : (y : ℕ) → In y p → In y free
  pub reads : compose w p ≡ v

fills_chosen : (w free v p : List ℕ) → Distinct free → Fills w free v p → Chosen w free v p
fills_chosen w free [] p d e =
    record {
      distinct = subst Distinct (sym e) tt;
      from = λ y i. absurd (subst (λ (q : List ℕ). In y q) e i);
      reads = ap (compose w) e;
    }
fills_chosen w free (x ∷ xs) [] d f = absurd f
fills_chosen w free (x ∷ xs) (y ∷ ys) d f = go (fills_chosen w (rest y free) xs ys (rest_distinct y free d) f.1)
  where
    go : Chosen w (rest y free) xs ys → Chosen w free (x ∷ xs) (y ∷ ys)
    go c =
        record {
          distinct = (λ i. ((rest_in y y free d).0 (c.from y i)).1 refl, c.distinct);
          from = from;
          reads = ap₂ (λ (z : ℕ) (zs : List ℕ). z ∷ zs) f.0.1 c.reads;
        }
      where
        from : (z : ℕ) → In z (y ∷ ys) → In z free
        from z (inl e) = subst (λ (v : ℕ). In v free) (sym e) f.0.0
        from z (inr i) = ((rest_in y z free d).0 (c.from z i)).0

chosen_fills : (w free v p : List ℕ) → Distinct free → Chosen w free v p → Fills w free v p
chosen_fills w free [] [] d c = refl
chosen_fills w free [] (y ∷ ys) d c = absurd (let e = c.reads in let z : ◌≡◌ {A = ℕ} 0 1 = cc in omega arith)
chosen_fills w free (x ∷ xs) [] d c = absurd (let e = c.reads in let z : ◌≡◌ {A = ℕ} 0 1 = cc in omega arith)
chosen_fills w free (x ∷ xs) (y ∷ ys) d c =
    let e : get_or w y 0 ∷ compose w ys ≡ x ∷ xs = c.reads in
    ((c.from y (inl refl), cc), chosen_fills w (rest y free) xs ys (rest_distinct y free d) (record { distinct = c.distinct.1; from = from; reads = cc }))
  where
    from : (z : ℕ) → In z ys → In z (rest y free)
    from z i = (rest_in y z free d).1 (c.from z (inr i), λ q. c.distinct.0 (subst (λ (v : ℕ). In v ys) q i))

chosen_stabilizes : (w p : List ℕ) → Chosen w (identity (length w)) w p ↔ Stabilizes w p
chosen_stabilizes w p = (to, from)
  where
    whole : Permutation (length w) (identity (length w))
    whole = identity_is_a_permutation (length w)

    to : Chosen w (identity (length w)) w p → Stabilizes w p
    to c =
        record {
          permutation =
              record {
                long = sym (compose_long w p) ∙ ap length c.reads;
                below = below_of_in (length w) p (λ y i. in_below (length w) y (identity (length w)) whole.below (c.from y i));
                distinct = c.distinct;
              };
          kept = c.reads;
        }

    from : Stabilizes w p → Chosen w (identity (length w)) w p
    from s =
        record {
          distinct = s.permutation.distinct;
          from = λ y i. permutation-has (length w) (identity (length w)) whole y (in_below (length w) y p s.permutation.below i);
          reads = s.kept;
        }

-- ---- they are as many as the stabilizer says

stabilizer_rearranged : (n : ℕ) (u v : List ℕ) → Rearranged u v → stabilizer_below n u ≡ stabilizer_below n v
unfolding stabilizer_below
stabilizer_rearranged zero u v r = refl
stabilizer_rearranged (suc n) u v r = ap₂ (λ (a b : ℕ). a * b) (ap factorial (r n)) (stabilizer_rearranged n u v r)

stabilizer_ways : (n : ℕ) (w : List ℕ) → Below n w → stabilizer_below n w ≡ ways w
unfolding ways multiplicity
stabilizer_ways n [] b = stabilizer_none n
stabilizer_ways n (x ∷ xs) b =
    stabilizer_rearranged n (x ∷ xs) (xs ++ x ∷ []) last ∙ stabilizer_more n x xs b.0
    ∙ mul_comm (stabilizer_below n xs) (suc (multiplicity x xs)) ∙ ap₂ (λ (a b : ℕ). a * b) here (stabilizer_ways n xs b.1)
  where
    last : (z : ℕ) → multiplicity z (x ∷ xs) ≡ multiplicity z (xs ++ x ∷ [])
    last z = omega (arith, multiplicity_append z (x ∷ []) xs, multiplicity_append z xs (x ∷ []))

    here : suc (multiplicity x xs) ≡ multiplicity x (x ∷ xs)
    here = rw (eq-eqb x x refl) (omega arith)

pub stabilizer_is_how_many_rearrangements : (w : List ℕ) → HowMany (Stabilizes w) (stabilizer_of w)
stabilizer_is_how_many_rearrangements w =
    subst (HowMany (Stabilizes w)) (sym (stabilizer_ways (ceiling_of w) w (below_ceiling w)))
    (same_is_how_many (Fills w (identity (length w)) w) (Stabilizes w) _ same (fills_is_how_many w (identity (length w)) w distinct (λ x. ap (multiplicity x) (compose-identity (length w) w refl))))
  where
    distinct : Distinct (identity (length w))
    distinct = (identity_is_a_permutation (length w)).distinct

    same : (p : List ℕ) → Fills w (identity (length w)) w p ↔ Stabilizes w p
    same p = (
      λ f. (chosen_stabilizes w p).0 (fills_chosen w (identity (length w)) w p distinct f),
      λ s. chosen_fills w (identity (length w)) w p distinct ((chosen_stabilizes w p).1 s),
    )
