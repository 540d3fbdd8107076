-- The terms of a surface, one after the other (02, section 3). Assumes nothing.
--   Term    a coefficient, by its bits, and the word that it goes with
--   of_table k j cs    the terms of degree k from rank j up
--   terms_of ts    the terms of a surface: by degree rising from 0, then by rank; a degree that is missing has none
--   add_all p t xs sum    to sum, for each term in its order, its coefficient times its monomial: product and sum are rounded
use Rattle.std.specs.Prelude.{List, [], ◌∷◌, ◌++◌, ℕ, suc, Float}
use Rattle.std.specs.Float.{binary64}
use Rattle.std.specs.Float.Ieee.{of_bits, add, mul}
use Rattle.words.specs.declared.Family.TheVariants.{Allowed}
use Rattle.words.specs.Unrank.{unrank_of}
use Rattle.surface.specs.Mass.{monomial}

pub record Term : Type 0 where
  pub coefficient : ℕ
  pub word : List ℕ

abbrev pub of_table : ℕ → ℕ → List ℕ → List Term
of_table k j [] = []
of_table k j (c ∷ cs) = record { coefficient = c; word = unrank_of Allowed k j } ∷ of_table k (suc j) cs

abbrev pub terms_from : ℕ → List (List ℕ) → List Term
terms_from k [] = []
terms_from k (cs ∷ ts) = of_table k 0 cs ++ terms_from (suc k) ts

abbrev pub terms_of : List (List ℕ) → List Term
terms_of ts = terms_from 0 ts

abbrev pub add_all : Float → Float → List Term → Float → Float
add_all p t [] sum = sum
add_all p t (x ∷ xs) sum = add_all p t xs (add binary64 sum (mul binary64 (of_bits binary64 x.coefficient) (monomial p t x.word)))
