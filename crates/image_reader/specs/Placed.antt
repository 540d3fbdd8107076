-- The reader record (02, section 1). Assumes nothing.
--   placed place s    7 if the place of the contents list is not 0; otherwise s, what the plain call on the image says
use Rattle.std.specs.Prelude.{not, ℕ, eqb}
use Rattle.answers.specs.Says.{Says, refused_if}

abbrev pub placed : {A : Type 0} → ℕ → Says A → Says A
placed place s = refused_if (not (eqb place 0)) 7 s
