-- What a place of the table is. Assumes nothing.
--   same_capped    two places of a row with the same entry have the same capped one
--   narrow-held    up to row 64 an entry is below 2 ^ 64, so it is the capped one
use mathlib.Core.Path.{◌≡◌, sym, ap, ◌∙◌}
use Prim.Native.Nat.{ℕ, ◌≤◌}
use native.Mathlib.Omega.{arith}
use Rattle.pascal.specs.Row.{entry}
use Rattle.pascal.proofs.Row.{entry_is_choose, choose_fits_64}
use Rattle.wide_pascal.specs.Capped.{capped, capped_entry}
use Rattle.wide_pascal.proofs.Steps.{capped-entry, held}

pub same_capped : (n j k : ℕ) → entry n j ≡ entry n k → capped_entry n j ≡ capped_entry n k
same_capped n j k e = capped-entry n j ∙ ap capped e ∙ sym (capped-entry n k)

pub narrow-held : (n k x : ℕ) → n ≤ 64 → x ≡ entry n k → x ≡ capped_entry n k
narrow-held n k x h e = held n k x (omega (arith, choose_fits_64 n k (omega arith), entry_is_choose n k)) e
