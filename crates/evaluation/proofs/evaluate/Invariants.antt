-- `evaluation::evaluate` meets its contract. The invariant: what is left to add from degree k on gives the mass, and the row holds the monomials of degree k but that of pressures alone.
-- Assumes nothing.
use mathlib.Core.Path.{◌≡◌}
use Prim.Native.Nat.{◌-◌, ◌<◌}
use Rattle.surface.specs.Mass.{mass_of, add_degrees, monomial}
use Rattle.surface.specs.Surface.{tables_from, surface_of}
use Rattle.surface.proofs.TwoSymbols.{times}
use Rattle.evaluation.proofs.Monomials.{Row}
use Rattle.evaluation.proofs.evaluate.Given as goal

abbrev pub invariant-loop-k : goal.invariant-loop-k
invariant-loop-k l =
    (l.top < 64) × (l.power ≡ monomial l.pressure l.temperature (times l.k 0)) × Row l.pressure l.temperature l.k l.k l.row
    × (add_degrees l.pressure l.temperature l.k (tables_from l.image l.k (64 - l.k)) l.sum ≡ mass_of l.pressure l.temperature (surface_of l.image))
