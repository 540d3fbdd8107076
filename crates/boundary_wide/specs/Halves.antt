-- How a wide index crosses to a program in C: as its family and its two halves. Assumes nothing.
--   wide_at allowed low high    a wide index as its three parts
--   low_of x, high_of x    the two halves of one that is given; its family is the one that was asked for
--   minus_of_term t, low_of_term t, high_of_term t    the parts of a sign with a wide index
--   minus_of_gap g, symbol_of_gap g, low_of_gap g, high_of_gap g    the parts of a deletion: its sign, the symbol, what is left
use Rattle.std.specs.Prelude.{Bool, ℕ}
use Rattle.boundary.specs.Boundary.{family_of, minus}
use Rattle.wide.specs.declared.Wide.{Wide}
use Rattle.wide.specs.declared.WideTerm.{WideTerm}
use Rattle.wide.specs.declared.WideGap.{WideGap}

abbrev pub wide_at : Bool → ℕ → ℕ → Wide
wide_at allowed low high = record { family = family_of allowed; low = low; high = high }

abbrev pub low_of : Wide → ℕ
low_of x = x.low

abbrev pub high_of : Wide → ℕ
high_of x = x.high

abbrev pub minus_of_term : WideTerm → Bool
minus_of_term t = minus t.sign

abbrev pub low_of_term : WideTerm → ℕ
low_of_term t = t.index.low

abbrev pub high_of_term : WideTerm → ℕ
high_of_term t = t.index.high

abbrev pub minus_of_gap : WideGap → Bool
minus_of_gap g = minus g.sign

abbrev pub symbol_of_gap : WideGap → ℕ
symbol_of_gap g = g.symbol

abbrev pub low_of_gap : WideGap → ℕ
low_of_gap g = g.index.low

abbrev pub high_of_gap : WideGap → ℕ
high_of_gap g = g.index.high
