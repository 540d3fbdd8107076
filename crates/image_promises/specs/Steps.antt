-- What a caller of the check in pieces does, one step after the other (02, section 13). Assumes nothing.
--   Step    a piece is fed, or the end is announced
--   ran p ss    the state after the steps ss
--   before ss    the pieces that are fed before the first end
--   is_over ss    has the end been announced?
use Rattle.std.specs.Prelude.{Bool, true, false, List, [], ◌∷◌, ℕ}
use Rattle.pieces.specs.declared.Pieces.{Pieces}
use Rattle.pieces.specs.Pieces.{fed, closed}

pub data Step : Type 0 where
  piece : List ℕ → Step
  over : Step

unfoldable pub ran : Pieces → List Step → Pieces
ran p [] = p
ran p (piece s ∷ ss) = ran (fed p s) ss
ran p (over ∷ ss) = ran (closed p) ss

unfoldable pub before : List Step → List (List ℕ)
before [] = []
before (piece s ∷ ss) = s ∷ before ss
before (over ∷ ss) = []

unfoldable pub is_over : List Step → Bool
is_over [] = false
is_over (piece s ∷ ss) = is_over ss
is_over (over ∷ ss) = true
