-- The digit tuples of a list of radices are numbered in colex order, 0 up to the product, each once. Assumes nothing.
--   number-rises, before_of_number    of two digit tuples, the earlier is the one with the smaller number
--   product_is_how_many_digits    there are as many digit tuples as the product says
--   number_is_how_many_earlier    the number of a digit tuple is how many tuples stand earlier in colex order
use mathlib.Core.Path.{◌≡◌, sym, ap, subst}
use mathlib.Core.Logic.{inl, inr}
use mathlib.Core.List.{List, [], ◌∷◌}
use Prim.Native.Nat.{ℕ, ◌*◌, ◌<◌}
use native.Mathlib.Nat.{mul-le-mul_left, lt_trans}
use native.Mathlib.Omega.{arith}
use Rattle.words.specs.Colex.{ColexLt}
use Rattle.words.specs.HowMany.{HowMany}
use Rattle.words.proofs.Colex.{Before, Compared, less, same, more, compare, to_colex, from_colex}
use Rattle.words.proofs.HowMany.{numbered_is_how_many}
use Rattle.positional.specs.Positional.{product, Digits, positional_value, digits_of}
use Rattle.positional.proofs.Digits.{digits_long, number_below, digits-good, number_of_digits, digits_of_number}

pub number-rises : (rs ds es : List ℕ) → Digits rs ds → Digits rs es → Before ds es → positional_value rs ds < positional_value rs es
unfolding positional_value
number-rises rs [] es g k b = absurd b
number-rises rs (d ∷ ds) [] g k b = absurd b
number-rises [] (d ∷ ds) (e ∷ es) g k b = absurd g
number-rises (r ∷ rs) (d ∷ ds) (e ∷ es) g k (inl b) =
    omega (arith, g.0, mul-le-mul_left r (number-rises rs ds es g.1 k.1 b))
number-rises (r ∷ rs) (d ∷ ds) (e ∷ es) g k (inr p) =
    omega (arith, p.1, ap (λ (l : List ℕ). r * positional_value rs l) p.0)

pub before_of_number : (rs ds es : List ℕ) → Digits rs ds → Digits rs es → positional_value rs ds < positional_value rs es → Before ds es
before_of_number rs ds es g k h = go (compare ds es (omega (arith, digits_long rs ds g, digits_long rs es k)))
  where
    go : Compared ds es → Before ds es
    go (less b) = b
    go (same p) = absurd (omega (arith, ap (positional_value rs) p))
    go (more b) = absurd (omega (arith, number-rises rs es ds k g b))

pub product_is_how_many_digits : (rs : List ℕ) → HowMany (Digits rs) (product rs)
product_is_how_many_digits rs =
    numbered_is_how_many (Digits rs) (product rs) (digits_of rs) (positional_value rs) (digits-good rs) (number_of_digits rs) (number_below rs) (digits_of_number rs)

pub number_is_how_many_earlier : (rs ds : List ℕ) → Digits rs ds → HowMany (λ es. Digits rs es × ColexLt es ds) (positional_value rs ds)
number_is_how_many_earlier rs ds g =
    numbered_is_how_many (λ es. Digits rs es × ColexLt es ds) (positional_value rs ds) (digits_of rs) (positional_value rs)
    (λ r h. earlier r h)
    (λ r h. number_of_digits rs r (below r h))
    (λ es p. number-rises rs es ds p.0 g (from_colex es ds p.1))
    (λ es p. digits_of_number rs es p.0)
  where
    below : (r : ℕ) → r < positional_value rs ds → r < product rs
    below r h = lt_trans h (number_below rs ds g)

    earlier : (r : ℕ) → r < positional_value rs ds → Digits rs (digits_of rs r) × ColexLt (digits_of rs r) ds
    earlier r h =
        let k : Digits rs (digits_of rs r) = digits-good rs r (below r h) in
        (k, to_colex (digits_of rs r) ds (before_of_number rs (digits_of rs r) ds k g (subst (λ (x : ℕ). x < positional_value rs ds) (sym (number_of_digits rs r (below r h))) h)))
