-- The mass of a surface at two readings, as the sequence of rounded operations that 02, section 3, fixes. Assumes nothing.
-- A table is the list of its entries, the entry of rank 0 first; an entry is the bits of an f64. A surface is a list of tables, that of degree 0 first; a degree that is missing has no entries.
--   one, nought    1.0 and +0.0
--   reading_of p t s    the reading of a symbol: 0 pressure, 1 temperature
--   times_each p t m w    m times the reading of each symbol of w, in its order, each product rounded
--   monomial p t w    the same from 1.0
--   monomial_at p t k j    that of the word of rank j among the Allowed words of k symbols
--   add_terms m j cs sum    to sum, for each entry of cs, the first of which has rank j, its number times the monomial m of its rank: product and sum are rounded
--   add_degrees p t k ts sum    the same for each table of ts, the first of which has degree k
--   mass_of p t ts    the same from +0.0: the mass
use Rattle.std.specs.Prelude.{List, [], ◌∷◌, ℕ, zero, suc, Float}
use Rattle.std.specs.Float.{binary64}
use Rattle.std.specs.Float.Ieee.{of_bits, add, mul}
use Rattle.words.specs.declared.Family.TheVariants.{Allowed}
use Rattle.words.specs.Unrank.{unrank_of}

abbrev pub one : Float
one = of_bits binary64 0x3ff0_0000_0000_0000

abbrev pub nought : Float
nought = of_bits binary64 0

abbrev pub reading_of : Float → Float → ℕ → Float
reading_of p t zero = p
reading_of p t (suc s) = t

-- ---- a term

unfoldable pub times_each : Float → Float → Float → List ℕ → Float
times_each p t m [] = m
times_each p t m (s ∷ w) = times_each p t (mul binary64 m (reading_of p t s)) w

abbrev pub monomial : Float → Float → List ℕ → Float
monomial p t w = times_each p t one w

abbrev pub monomial_at : Float → Float → ℕ → ℕ → Float
monomial_at p t k j = monomial p t (unrank_of Allowed k j)

-- ---- the terms of a table by rank, and the tables by degree

unfoldable pub add_terms : (ℕ → Float) → ℕ → List ℕ → Float → Float
add_terms m j [] sum = sum
add_terms m j (c ∷ cs) sum = add_terms m (suc j) cs (add binary64 sum (mul binary64 (of_bits binary64 c) (m j)))

unfoldable pub add_degrees : Float → Float → ℕ → List (List ℕ) → Float → Float
add_degrees p t k [] sum = sum
add_degrees p t k (cs ∷ ts) sum = add_degrees p t (suc k) ts (add_terms (monomial_at p t k) 0 cs sum)

abbrev pub mass_of : Float → Float → List (List ℕ) → Float
mass_of p t ts = add_degrees p t 0 ts nought
