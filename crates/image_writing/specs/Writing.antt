-- The writer of an image (02, section 1): contents and bodies, joined. Assumes nothing.
--   write_says c b room    11 just where the reader refuses the two joined; 8 if they do not fit; the image
use Rattle.std.specs.Prelude.{List, ◌++◌, ℕ, ltb, length}
use Rattle.answers.specs.Says.{Says, gives, refused_if, and_then}
use Rattle.image_rules.specs.Image.{image_says}

abbrev pub write_says : List ℕ → List ℕ → ℕ → Says (List ℕ)
write_says c b room = and_then (image_says (c ++ b)) (λ t. refused_if (ltb room (length (c ++ b))) 8 (gives (c ++ b)))
