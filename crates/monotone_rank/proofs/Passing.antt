-- Ranking goes on with the checks' answer, in the definitions: the refusals that it passes on are its own. Assumes nothing.
--   rank_by_bits    ranking a word is checking it, and ranking its bits
use mathlib.Core.Path.{◌≡◌, refl, sym, ap, ◌∙◌}
use mathlib.Core.Bool.{Bool, true, false, not}
use mathlib.Core.List.{List}
use Prim.Native.Nat.{ℕ}
use lib.Dec.{ltb}
use lib.ListN.{length}
use Rattle.words.specs.declared.Family.{Family}
use Rattle.words.specs.declared.Family.TheVariants.{Forbidden}
use Rattle.words.specs.Word.{shifted}
use Rattle.words.specs.Rank.{rank_of}
use Rattle.words.specs.Bits.{bits_of, set_bits}
use Rattle.words.proofs.Bits.{set_of_bits}
use Rattle.words.proofs.Shifted.{rank-shifted, shifted-monotone}
use Rattle.answers.specs.Says.{gives, refused_if, refused_at_if, and_then}
use Rattle.packing.specs.Checks.{rises, break_at, last_shifted}
use Rattle.packing.proofs.Checks.{rises_is_monotone}
use Rattle.monotone.specs.Rules.{checked}
use Rattle.monotone_rank.specs.Rules.{rank_says}

pub rank_by_bits : (F : Family) (w : List ℕ) → rank_says F w ≡ and_then (checked F w (bits_of (shifted F w))) (λ b. gives (rank_of Forbidden (set_bits b)))
rank_by_bits F w = go (ltb 64 (length w)) (rises F w) refl (ltb 63 (last_shifted F w))
  where
    go : (s r : Bool) → rises F w ≡ r → (t : Bool)
        → refused_if s 1 (refused_at_if (not r) 2 (break_at F w) (refused_if t 1 (gives (rank_of F w))))
        ≡ and_then (refused_if s 1 (refused_at_if (not r) 2 (break_at F w) (refused_if t 1 (gives (bits_of (shifted F w)))))) (λ b. gives (rank_of Forbidden (set_bits b)))
    go true r e t = refl
    go false false e t = refl
    go false true e true = refl
    go false true e false =
        ap gives (rank-shifted F w ∙ ap (rank_of Forbidden) (sym (set_of_bits (shifted F w) ((shifted-monotone F w).0 ((rises_is_monotone F w).0 e)))))
