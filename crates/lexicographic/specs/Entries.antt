-- Entries of eight bytes, put in another order (02 §11, the converter). Assumes nothing.
--   entry_at l r    the eight bytes of entry r
--   rearranged f c l    c entries, of which the one at place r is entry f r of l
use Rattle.std.specs.Prelude.{List, [], ◌++◌, ℕ, zero, suc, ◌*◌, take, drop}

abbrev pub entry_at : List ℕ → ℕ → List ℕ
entry_at l r = take 8 (drop (8 * r) l)

unfoldable pub rearranged : (ℕ → ℕ) → ℕ → List ℕ → List ℕ
rearranged f zero l = []
rearranged f (suc c) l = rearranged f c l ++ entry_at l (f c)
