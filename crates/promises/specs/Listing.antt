-- What a walk gives, step after step. Assumes nothing.
--   listing d s    the words that d steps of a walk from the state s give, in order, up to the first refusal
--   step_gives d s    what a walk from the state s gives after d further steps, or the first refusal on the way
--   Lists F n k l    the list l has exactly the words of k symbols below n, each once, in colex order
--   sum_below n f    f 0 + f 1 + .. + f (n - 1)
use Rattle.std.specs.Prelude.{◌≡◌, List, [], ◌∷◌, ℕ, zero, suc, ◌+◌, ◌<◌, length, get_or}
use Rattle.words.specs.declared.Family.{Family}
use Rattle.words.specs.Word.{Word}
use Rattle.words.specs.Colex.{ColexLt}
use Rattle.words.specs.HowMany.{In, Distinct}
use Rattle.answers.specs.declared.Index.{Index}
use Rattle.answers.specs.Says.{Says, refuses_with, gives, and_then}
use Rattle.answers.specs.Terms.{word_of}
use Rattle.monotone_walk.specs.declared.Walk.{Walk}
use Rattle.monotone_walk.specs.Walks.{step_says}
use Rattle.monotone_walk.specs.declared.Moved.{Moved}

-- the word that a step gives, and what is listed from the state after it; nothing after a refusal
abbrev pub follow : (Walk → List (List ℕ)) → Says Moved → List (List ℕ)
follow rest (refuses_with e c) = []
follow rest (gives m) = word_of m.index ∷ rest m.state

unfoldable pub listing : ℕ → Walk → List (List ℕ)
listing zero s = []
listing (suc d) s = follow (listing d) (step_says s)

unfoldable pub step_gives : ℕ → Walk → Says Index
step_gives zero s = and_then (step_says s) (λ m. gives m.index)
step_gives (suc d) s = and_then (step_says s) (λ m. step_gives d m.state)

pub record Lists (F : Family) (n k : ℕ) (l : List (List ℕ)) : Type 0 where
  pub sound : (w : List ℕ) → In w l → Word F n k w
  pub complete : (w : List ℕ) → Word F n k w → In w l
  pub distinct : Distinct l
  pub ordered : (i j : ℕ) → i < j → j < length l → ColexLt (get_or l i []) (get_or l j [])

unfoldable pub sum_below : ℕ → (ℕ → ℕ) → ℕ
sum_below zero f = 0
sum_below (suc n) f = f 0 + sum_below n (λ i. f (suc i))
