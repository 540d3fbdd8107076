-- Contents and bodies are two pieces. Assumes nothing.
--   two_pieces    the verdict on the two is that of the check of them joined
--   never_open    and it is told
--   pasted_both    what is written
use mathlib.Core.Path.{◌≡◌, refl, sym, ap, ◌∙◌}
use mathlib.Core.List.{List, [], ◌∷◌, ◌++◌, append-nil}
use Prim.Native.Nat.{ℕ, ◌+◌, ◌≤◌, ◌<◌}
use native.Mathlib.Omega.{arith}
use lib.ListN.{length, take, drop, length-append}
use lib.Seq.{paste, take-length, take_at, drop-drop, drop-append-add}
use borrow.Author.Tests.{lt-ltb, le-ltb}
use lib.Dec.{ltb}
use mathlib.Core.Bool.{Bool}
use Rattle.answers.specs.Says.{Says, refuses_with, refuses, gives, refused_if, and_then}
use Rattle.image_writing.specs.Writing.{write_says}
use Rattle.image_rules.specs.Image.{image_says}
use Rattle.image_rules.proofs.Local.{Shape, good, bad, check_shape}
use Rattle.pieces.specs.declared.Verdict.TheVariants.{Open}
use Rattle.pieces.specs.Pieces.{start, fed, closed, fed_all, joined, verdict_says}
use Rattle.pieces.proofs.Cutting.{cut_anyhow}

pub two_pieces : (c b : List ℕ) → verdict_says (closed (fed (fed start c) b)).verdict ≡ image_says (c ++ b)
unfolding fed_all joined
two_pieces c b = cut_anyhow (c ∷ b ∷ []) ∙ ap (λ (l : List ℕ). image_says (c ++ l)) (append-nil b)

pub never_open : (l : List ℕ) → verdict_says Open ≡ image_says l → ⊥
never_open l e = go (check_shape l (length l))
  where
    go : Shape (image_says l) → ⊥
    go (good t q) = let z : ◌≡◌ {A = ℕ} 0 1 = cc in omega arith
    go (bad off q) = let z : ◌≡◌ {A = ℕ} 0 11 = cc in omega arith

-- the contents in front, and the bodies behind them
pub pasted_both : (c b d : List ℕ) → length c + length b ≤ length d → paste (paste d 0 c (length c)) (length c) b (length b) ≡ (c ++ b) ++ drop (length (c ++ b)) d
pasted_both c b d h =
    ap (λ (x : List ℕ). paste x (length c) b (length b)) first
    ∙ ap (λ (x : List ℕ). x ++ take (length b) b ++ drop (length c + length b) (c ++ drop (length c) d)) (take_at c (drop (length c) d) (length c) refl)
    ∙ ap (λ (x : List ℕ). c ++ x ++ drop (length c + length b) (c ++ drop (length c) d)) (take-length b)
    ∙ ap (λ (x : List ℕ). c ++ b ++ x) (drop-append-add c (drop (length c) d) (length b) ∙ drop-drop (length b) (length c) d ∙ ap (λ (n : ℕ). drop n d) (sym (length-append c b)))
  where
    first : paste d 0 c (length c) ≡ c ++ drop (length c) d
    first = ap (λ (x : List ℕ). x ++ drop (0 + length c) d) (take-length c) ∙ ap (λ (n : ℕ). c ++ drop n d) (let e : 0 + length c ≡ length c = omega arith in e)

pub write_refused : (c b : List ℕ) (room d : ℕ) (p : List ℕ) → image_says (c ++ b) ≡ refuses_with d p → write_says c b room ≡ refuses_with d p
write_refused c b room d p e = ap (λ (s : Says ℕ). and_then s (λ (t : ℕ). refused_if (ltb room (length (c ++ b))) 8 (gives (c ++ b)))) e

pub write_short : (c b : List ℕ) (room t : ℕ) → image_says (c ++ b) ≡ gives t → room < length c + length b → write_says c b room ≡ refuses 8
write_short c b room t e h =
    ap (λ (s : Says ℕ). and_then s (λ (t : ℕ). refused_if (ltb room (length (c ++ b))) 8 (gives (c ++ b)))) e
    ∙ ap (λ (x : Bool). refused_if x 8 (gives (c ++ b))) (lt-ltb room (length (c ++ b)) (omega (arith, length-append c b)))

pub write_good : (c b : List ℕ) (room t : ℕ) → image_says (c ++ b) ≡ gives t → length c + length b ≤ room → write_says c b room ≡ gives (c ++ b)
write_good c b room t e h =
    ap (λ (s : Says ℕ). and_then s (λ (t : ℕ). refused_if (ltb room (length (c ++ b))) 8 (gives (c ++ b)))) e
    ∙ ap (λ (x : Bool). refused_if x 8 (gives (c ++ b))) (le-ltb room (length (c ++ b)) (omega (arith, length-append c b)))
