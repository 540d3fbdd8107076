-- Which f64 are finite (02, section 3). Assumes nothing.
--   finite x    x is neither NaN nor an infinity
use Rattle.std.specs.Prelude.{Bool, true, false, Float}
use Rattle.std.specs.Float.{nan, inf, fin}

abbrev pub finite : Float → Bool
finite nan = false
finite (inf s) = false
finite (fin s m e) = true
