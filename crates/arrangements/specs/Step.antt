-- The step from a permutation to the next one (Knuth 7.2.1.2, algorithm L, with the last entry most significant). Assumes nothing.
--   turn k j    place j, if the places below k are turned round
--   exchange i k j    place j, if the places i and k change places
--   source i k j    where the entry comes from that place j has after both
--   step i k p    p with the entries at i and k exchanged, and then those below place k turned round
--   Rises p k    the entries below place k rise
--   FirstFall n p k    k is the lowest place whose entry is smaller than the one before it, or n if there is none
--   FirstGreater p k i    i is the lowest place below k whose entry is greater than that at k, or k if there is none
-- At these places the step is the next permutation: `step-is-next`.
use Rattle.std.specs.Prelude.{List, map, ℕ, ◌-◌, ◌≤◌, ◌<◌, ltb, eqb, length, get_or}
use Rattle.words.specs.Pick.{pick}
use Rattle.arrangements.specs.Permutation.{identity}

abbrev pub turn : ℕ → ℕ → ℕ
turn k j = pick (ltb j k) (k - 1 - j) j

abbrev pub exchange : ℕ → ℕ → ℕ → ℕ
exchange i k j = pick (eqb j i) k (pick (eqb j k) i j)

unfoldable pub source : ℕ → ℕ → ℕ → ℕ
source i k j = exchange i k (turn k j)

abbrev pub step : ℕ → ℕ → List ℕ → List ℕ
step i k p = map (λ j. get_or p (source i k j) 0) (identity (length p))

-- ---- the places

abbrev pub Rises : List ℕ → ℕ → Type 0
Rises p k = (i j : ℕ) → i < j → j < k → get_or p i 0 < get_or p j 0

pub record FirstFall (n : ℕ) (p : List ℕ) (k : ℕ) : Type 0 where
  pub within : k ≤ n
  pub rises : Rises p k
  pub falls : k < n → (0 < k) × (get_or p k 0 < get_or p (k - 1) 0)

pub record FirstGreater (p : List ℕ) (k i : ℕ) : Type 0 where
  pub within : i ≤ k
  pub lower : (j : ℕ) → j < i → get_or p j 0 ≤ get_or p k 0
  pub greater : i < k → get_or p k 0 < get_or p i 0
