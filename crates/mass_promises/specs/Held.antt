-- What an image holds, wherever its rows and bodies stand. Assumes nothing.
--   held l F k    under a family and a degree: the alphabet and the entries of that table, or why there is none
--   SameTables l m    two images hold the same under every family and degree
use Rattle.std.specs.Prelude.{◌≡◌, List, ℕ}
use Rattle.words.specs.declared.Family.{Family}
use Rattle.answers.specs.Says.{Says, gives, and_then}
use Rattle.image_reading.specs.declared.Table.{Table}
use Rattle.image_reading.specs.Reading.{row_says}
use Rattle.surface.specs.Surface.{numbers_at}

pub record Held : Type 0 where
  pub alphabet : ℕ
  pub entries : List ℕ

abbrev pub holding : List ℕ → Table → Held
holding l x = record { alphabet = x.alphabet; entries = numbers_at l x.offset x.entries }

abbrev pub held : List ℕ → Family → ℕ → Says Held
held l F k = and_then (row_says l F k) (λ x. gives (holding l x))

abbrev pub SameTables : List ℕ → List ℕ → Type 0
SameTables l m = (F : Family) (k : ℕ) → held l F k ≡ held m F k
