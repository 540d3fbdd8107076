-- The rows of an image may stand in any order (02, section 3). Assumes nothing.
--   same_surface    two images that hold the same tables have the same surface
--   rows_in_any_order    two good images that hold the same tables give every two readings the same mass, or the same refusal
use mathlib.Core.Path.{◌≡◌, refl, sym, ap, ◌∙◌}
use mathlib.Core.Bool.{Bool, true, false, ◌&&◌}
use mathlib.Core.List.{List, [], ◌∷◌}
use Prim.Native.Nat.{ℕ, zero, suc, ◌<◌}
use native.Mathlib.Omega.{arith}
use borrow.Author.Tests.{eqb-false}
use lib.Dec.{eqb}
use lib.ListN.{length}
use lib.Ieee.{Float}
use Rattle.words.specs.declared.Family.TheVariants.{Allowed}
use Rattle.words.specs.Pick.{pick}
use Rattle.answers.specs.Says.{Says, refuses_with, gives, refused_if, and_then}
use Rattle.answers.proofs.Says.{then_gave}
use Rattle.image_rules.specs.Image.{family_at, degree_at, alphabet_at, family_of_byte, image_says}
use Rattle.image_rules.proofs.Good.{good_exactly}
use Rattle.image_reading.specs.declared.Table.{Table}
use Rattle.image_reading.specs.Reading.{number_of_family, find_row, number_says, table_at, row_says}
use Rattle.image_reading.proofs.Looking.{Names, found_of, family_byte}
use Rattle.image_promises.proofs.Tables.{each_table_is_found}
use Rattle.surface.specs.Mass.{mass_of}
use Rattle.surface.specs.Surface.{body_of, table_of, tables_from, surface_of, some_other, all_finite}
use Rattle.surface.proofs.Rows.{none_other}
use Rattle.mass.specs.declared.Sample.{Sample}
use Rattle.mass.specs.Mass.{framed, join_says, judged_says, sample_says, mass_says}
use Rattle.mass_promises.specs.Held.{Held, holding, held, SameTables}

-- ---- the tables by degree

abbrev entries_of : Says Held → List ℕ
entries_of (refuses_with e c) = []
entries_of (gives h) = h.entries

body-held : (l : List ℕ) (s : Says Table) → body_of l s ≡ entries_of (and_then s (λ x. gives (holding l x)))
body-held l (refuses_with e c) = refl
body-held l (gives x) = refl

same_table : (l m : List ℕ) → SameTables l m → (k : ℕ) → table_of l k ≡ table_of m k
same_table l m h k = body-held l (row_says l Allowed k) ∙ ap entries_of (h Allowed k) ∙ sym (body-held m (row_says m Allowed k))

same_tables : (l m : List ℕ) → SameTables l m → (k n : ℕ) → tables_from l k n ≡ tables_from m k n
unfolding tables_from
same_tables l m h k zero = refl
same_tables l m h k (suc n) = ap (λ (cs : List ℕ). cs ∷ tables_from l (suc k) n) (same_table l m h k) ∙ ap (λ (ts : List (List ℕ)). table_of m k ∷ ts) (same_tables l m h (suc k) n)

pub same_surface : (l m : List ℕ) → SameTables l m → surface_of l ≡ surface_of m
same_surface l m h = same_tables l m h 0 64

-- ---- a table of another family or alphabet

record OtherRow (l : List ℕ) (t i : ℕ) : Type 0 where
  pub below : i < t
  pub other : family_at l i ≡ 1 → alphabet_at l i ≡ 2 → ⊥

other_row : (l : List ℕ) (t : ℕ) → some_other l t ≡ true → (i : ℕ) × OtherRow l t i
unfolding some_other
other_row l zero e = absurd (let z : ◌≡◌ {A = ℕ} 0 1 = cc in omega arith)
other_row l (suc t) e = go (eqb (family_at l t) 1) refl (eqb (alphabet_at l t) 2) refl e (other_row l t)
  where
    go : (a : Bool) → eqb (family_at l t) 1 ≡ a → (b : Bool) → eqb (alphabet_at l t) 2 ≡ b → pick (a && b) (some_other l t) true ≡ true → (some_other l t ≡ true → (i : ℕ) × OtherRow l t i) → (i : ℕ) × OtherRow l (suc t) i
    go true x true y h rec = let r = rec h in (r.0, record { below = omega (arith, r.1.below); other = r.1.other })
    go true x false y h rec = (t, record { below = omega arith; other = λ p q. eqb-false (alphabet_at l t) 2 y q })
    go false x b y h rec = (t, record { below = omega arith; other = λ p q. eqb-false (family_at l t) 1 x p })

-- a row of the one image is one of the other, with its family and alphabet
record Found (l m : List ℕ) (n i j : ℕ) : Type 0 where
  pub below : j < n
  pub family : family_at m j ≡ family_at l i
  pub alphabet : alphabet_at m j ≡ alphabet_at l i

row-held : (l m : List ℕ) (n o i : ℕ) → image_says l ≡ gives n → image_says m ≡ gives o → SameTables l m → i < n → (j : ℕ) × Found l m o i j
row-held l m n o i a b h q =
    let F = family_of_byte (family_at l i) in
    let k = degree_at l i in
    let x : held l F k ≡ gives (holding l (table_at l i)) = ap (λ (s : Says Table). and_then s (λ (y : Table). gives (holding l y))) (each_table_is_found l n i a q) in
    let y = then_gave (row_says m F k) (λ z. gives (holding m z)) (holding l (table_at l i)) (sym (h F k) ∙ x) in
    let z = then_gave (number_says m F k) (λ j. gives (table_at m j)) y.0 y.1 in
    let w = then_gave (image_says m) (λ t. find_row m (number_of_family F) k t) z.0 z.1 in
    let c : gives w.0 ≡ gives o = sym w.1 ∙ b in
    let d : w.0 ≡ o = cc in
    let r : Names m w.0 (number_of_family F) k z.0 = found_of m (number_of_family F) k w.0 z.0 w.2 in
    let u : table_at m z.0 ≡ y.0 = cc in
    let v : holding m y.0 ≡ holding l (table_at l i) = cc in (
      z.0,
      record {
        below = omega (arith, r.below, d);
        family = r.family ∙ family_byte (family_at l i) (((good_exactly l (length l) n).0 a).row i q).family;
        alphabet = ap (λ (s : Table). s.alphabet) u ∙ ap (λ (s : Held). s.alphabet) v;
      },
    )

no_other_one : (l m : List ℕ) (n o : ℕ) → image_says l ≡ gives n → image_says m ≡ gives o → SameTables l m → some_other l n ≡ true → some_other m o ≡ false → ⊥
no_other_one l m n o a b h x y =
    let r = other_row l n x in
    let q = row-held l m n o r.0 a b h r.1.below in
    let z = none_other m o y q.0 q.1.below in
    r.1.other (sym q.1.family ∙ z.0) (sym q.1.alphabet ∙ z.1)

same_test : (a b : Bool) → (a ≡ true → b ≡ false → ⊥) → (b ≡ true → a ≡ false → ⊥) → a ≡ b
same_test true true p q = refl
same_test true false p q = absurd (p refl refl)
same_test false true p q = absurd (q refl refl)
same_test false false p q = refl

-- ---- the mass

sample_same : (l m : List ℕ) (n o : ℕ) → image_says l ≡ gives n → image_says m ≡ gives o → SameTables l m → (s : Sample) → sample_says l s ≡ sample_says m s
sample_same l m n o a b h s =
    ap (λ (i : Says ℕ). framed s.frame (and_then i (λ (c : ℕ). refused_if (some_other l c) 7 (at (surface_of l))))) a
    ∙ ap (λ (c : Bool). framed s.frame (refused_if c 7 (at (surface_of l))))
    (same_test (some_other l n) (some_other m o) (no_other_one l m n o a b h) (no_other_one m l o n b a (λ F k. sym (h F k))))
    ∙ ap (λ (ts : List (List ℕ)). framed s.frame (refused_if (some_other m o) 7 (at ts))) (same_surface l m h)
    ∙ sym (ap (λ (i : Says ℕ). framed s.frame (and_then i (λ (c : ℕ). refused_if (some_other m c) 7 (at (surface_of m))))) b)
  where
    at : List (List ℕ) → Says Float
    at ts = judged_says (all_finite s.pressure s.temperature ts) (mass_of s.pressure s.temperature ts)

pub rows_in_any_order : (l m : List ℕ) (n o : ℕ) → image_says l ≡ gives n → image_says m ≡ gives o → SameTables l m → (f : ℕ) (p : Float) (g : ℕ) (t : Float) → mass_says l f p g t ≡ mass_says m f p g t
rows_in_any_order l m n o a b h f p g t = go (join_says f p g t)
  where
    go : (j : Says Sample) → and_then j (λ s. sample_says l s) ≡ and_then j (λ s. sample_says m s)
    go (refuses_with e c) = refl
    go (gives s) = sample_same l m n o a b h s
