-- Where the search for a byte ends. Assumes nothing.
--   found-later    a search from a place on is a search of what stands from there on
--   found_first    the byte after a text that does not have it is the one that is found
use mathlib.Core.Path.{◌≡◌, sym, subst, ◌∙◌}
use mathlib.Core.List.{List, ◌∷◌, ◌++◌}
use Prim.Native.Nat.{ℕ, ◌+◌, ◌-◌, ◌≤◌, ◌<◌}
use native.Mathlib.Nat.{le_antisymm, le_of_suc-le-suc, lt_of_not-le}
use native.Mathlib.Omega.{arith}
use lib.ListN.{length, drop, get_or, length-append, length-drop, get_or-append}
use lib.Seq.{get_or-drop, get_or-append_seam}
use Rattle.text.specs.Text.{Found}

pub found-later : (s : List ℕ) (from b r : ℕ) → from ≤ length s → Found s from b r → Found (drop from s) 0 b (r - from)
found-later s from b r h f =
    let e : from + (r - from) ≡ r = omega (arith, f.after) in
    record {
      within = simp length-drop (omega (arith, f.within));
      after = omega arith;
      none = λ k l g q. f.none (from + k) (omega arith) (omega arith) (sym (get_or-drop from s k 0) ∙ q);
      there = λ l. get_or-drop from s (r - from) 0 ∙ subst (λ (m : ℕ). get_or s m 0 ≡ b) (sym e) (f.there (omega (arith, length-drop from s)));
    }

pub found_first : (u v : List ℕ) (b r : ℕ) → ((k : ℕ) → k < length u → get_or u k 0 ≡ b → ⊥) → Found (u ++ (b ∷ v)) 0 b r → r ≡ length u
found_first u v b r absent f =
    le_antisymm
    (le_of_suc-le-suc (lt_of_not-le (λ (l : length u < r). f.none (length u) l (omega arith) (get_or-append_seam u b v 0))))
    (le_of_suc-le-suc (lt_of_not-le (λ (l : r < length u). absent r l (sym (get_or-append u (b ∷ v) 0 r l) ∙ f.there (omega (arith, length-append u (b ∷ v)))))))
