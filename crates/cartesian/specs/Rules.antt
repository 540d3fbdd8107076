-- What each call on shapes answers, for all inputs, in document 01's numbers: its checks in 01's order, as 02, section 4, amends them, and then the value. A shape
-- is the list of its radices. Assumes nothing.
--   wide rs    has the shape more than 16 axes?
--   shape_count_says rs    1; 9 if the product of the radices is 2^64 or more; the product
--   linearize_says rs ds    1; 8 if there are not as many digits as radices; 7; 9 of the product; the number that has the digits
--   delinearize_says rs x room    what the count refuses; 3 if x is not below it; 8; the digits of x
use Rattle.std.specs.Prelude.{Bool, not, List, ℕ, leb, ltb, eqb, length}
use Rattle.positional.specs.Positional.{product, positional_value, digits_of}
use Rattle.answers.specs.Says.{Says, gives, refused_if, and_then}
use Rattle.cartesian.specs.Checks.{number_says, within}

abbrev pub wide : List ℕ → Bool
wide rs = ltb 16 (length rs)

-- ---- the count

abbrev pub shape_count_says : List ℕ → Says ℕ
shape_count_says rs = refused_if (wide rs) 1 (number_says (product rs))

-- ---- digit tuples and their numbers

abbrev pub linearize_says : List ℕ → List ℕ → Says ℕ
linearize_says rs ds =
    refused_if (wide rs) 1
    (refused_if (not (eqb (length ds) (length rs))) 8
    (refused_if (not (within rs ds)) 7
    (and_then (number_says (product rs)) (λ c. gives (positional_value rs ds)))))

abbrev pub delinearize_says : List ℕ → ℕ → ℕ → Says (List ℕ)
delinearize_says rs x room = and_then (shape_count_says rs) (λ c. refused_if (leb c x) 3 (refused_if (ltb room (length rs)) 8 (gives (digits_of rs x))))
