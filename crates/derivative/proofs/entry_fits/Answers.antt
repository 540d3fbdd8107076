-- `derivative::entry_fits` meets its contract. Assumes nothing.
use native.Mathlib.Omega.{arith}
use Rattle.derivative.proofs.entry_fits.Goals as goal

pub offset_bounds-table-q : goal.offset_bounds-table-q
offset_bounds-table-q c = omega (arith, c.requires.0)

pub bounds-table-q : goal.bounds-table-q
bounds-table-q c = c.requires.0

pub fits-requires : goal.fits-requires
fits-requires c = (c.requires.1, c.requires.2)
