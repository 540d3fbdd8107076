-- The products of the first radices. Each is handed out as a stride, so strides, and no other call, are judged by them (02, section 4). Assumes nothing.
--   too_big rs n    is the product of the first j radices 2^64 or more for some j up to n?
use Rattle.std.specs.Prelude.{Bool, true, List, ℕ, zero, suc, ◌^◌, leb}
use Rattle.words.specs.Pick.{pick}
use Rattle.positional.specs.Positional.{stride}

-- does the test hold for some j up to n?
abbrev pub some_up_to : (ℕ → Bool) → ℕ → Bool
some_up_to t zero = t zero
some_up_to t (suc n) = pick (some_up_to t n) true (t (suc n))

abbrev pub too_big : List ℕ → ℕ → Bool
too_big rs n = some_up_to (λ j. leb (2 ^ 64) (stride rs j)) n
