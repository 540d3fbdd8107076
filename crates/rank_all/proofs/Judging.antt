-- What judging the indices one after the other finds, and their ranks by the sets. Assumes nothing.
--   placed_is_taken    the verdict on an index makes of s what taking it at its position makes
--   judged-turn, judged-stops, judged_end    one index that is taken, one that is not, and the end of the list
--   found    what the judgement is found to be makes of s what judging makes of it
--   judged_on    at the exit of a `?` the refusal of the judgement is passed on
--   ranks_by_sets, set_rank_at, set_ranks_long    the rank of a word is that of the set of its index; the rank at a position; as many as indices
use Rattle.std.specs.Prelude.{Result, Ok, Err}
use Rattle.std.specs.Result.{IsErrAnd}
use mathlib.Core.Path.{◌≡◌, refl, sym, ap, ap₂, ◌∙◌}
use mathlib.Core.Bool.{Bool, true, false}
use mathlib.Core.List.{List, [], ◌∷◌}
use Prim.Native.Nat.{ℕ, zero, suc, ◌+◌, ◌≤◌, ◌<◌}
use native.Mathlib.Nat.{le_of_suc-le-suc}
use native.Mathlib.Numerals.{add-one}
use native.Mathlib.Omega.{arith}
use lib.ListN.{length, get_or, drop, drop_of_length-le}
use lib.Seq.{drop-cons}
use Rattle.words.specs.declared.Family.{Family}
use Rattle.words.specs.declared.Family.TheVariants.{Forbidden}
use Rattle.words.specs.Pick.{pick}
use Rattle.words.specs.Rank.{rank_of}
use Rattle.words.specs.Bits.{set_bits}
use Rattle.answers.specs.declared.Index.{Index}
use Rattle.answers.specs.declared.Refusal.{Refusal}
use Rattle.answers.specs.declared.Refusal.TheVariants.{TooWide, Outside}
use Rattle.answers.specs.Says.{Says, refuses_at, refused_at_if, number_of}
use Rattle.answers.proofs.Terms.{rank_of_word_lem}
use Rattle.taking.specs.Taken.{too_wide, outside, verdict_of}
use Rattle.rank_all.specs.Rules.{index_with, judged_from, ranks_of, set_ranks, placed, through, JudgesAll, ranked_says}
use Rattle.rank_all.specs.declared.PlacedRefusal.{PlacedRefusal}

pub placed_is_taken : (x : Index) (i : ℕ) (s : Says (List ℕ)) (v w : Result Unit Refusal) → v ≡ verdict_of x → v ≡ w
    → placed i w s ≡ refused_at_if (too_wide x) 1 i (refused_at_if (outside x) 7 i s)
placed_is_taken x i s v w e f = ap (λ (z : Result Unit Refusal). placed i z s) (sym f ∙ e) ∙ go (too_wide x) (outside x)
  where
    go : (t u : Bool) → placed i (pick t (Err TooWide) (pick u (Err Outside) (Ok tt))) s ≡ refused_at_if t 1 i (refused_at_if u 7 i s)
    go true u = refl
    go false true = refl
    go false false = refl

module _ (F : Family) (n : ℕ) (bs : List ℕ) (i : ℕ) (h : i < length bs) (s : Says (List ℕ)) where
  here : judged_from F n i (drop i bs) s ≡ judged_from F n i (get_or bs i 0 ∷ drop (suc i) bs) s
  here = ap (λ (l : List ℕ). judged_from F n i l s) (drop-cons bs i 0 h)

  pub judged-turn : (v : Result Unit Refusal) (w : Unit {0}) → v ≡ verdict_of (index_with F n (get_or bs i 0)) → v ≡ Ok w → judged_from F n i (drop i bs) s ≡ judged_from F n (i + 1) (drop (i + 1) bs) s
  judged-turn v w e f =
      here ∙ sym (placed_is_taken (index_with F n (get_or bs i 0)) i (judged_from F n (suc i) (drop (suc i) bs) s) v (Ok w) e f)
      ∙ ap (λ (j : ℕ). judged_from F n j (drop j bs) s) (sym (add-one i))

  pub judged-stops : (v : Result Unit Refusal) (r : Refusal) → v ≡ verdict_of (index_with F n (get_or bs i 0)) → v ≡ Err r → judged_from F n i (drop i bs) s ≡ refuses_at (number_of r) i
  judged-stops v r e f =
      here ∙ sym (placed_is_taken (index_with F n (get_or bs i 0)) i (judged_from F n (suc i) (drop (suc i) bs) s) v (Err r) e f)

pub judged_end : (F : Family) (n : ℕ) (bs : List ℕ) (i : ℕ) (s : Says (List ℕ)) → length bs ≤ i → judged_from F n i (drop i bs) s ≡ s
judged_end F n bs i s h = ap (λ (l : List ℕ). judged_from F n i l s) (drop_of_length-le bs h)

pub found : (F : Family) (n : ℕ) (bs : List ℕ) (j w : Result Unit PlacedRefusal) (s : Says (List ℕ)) → JudgesAll F n bs j → j ≡ w → through w s ≡ judged_from F n 0 bs s
found F n bs j w s e f = ap (λ (z : Result Unit PlacedRefusal). through z s) (sym f) ∙ e s

pub judged_on : (r : Result ℕ PlacedRefusal) (e : PlacedRefusal) → IsErrAnd r (λ y. y ≡ e) → ranked_says r ≡ refuses_at (number_of e.refusal) e.at
judged_on (Ok k) e h = elim h [ ]
judged_on (Err y) e h = ap (λ (z : PlacedRefusal). refuses_at (number_of z.refusal) z.at) h

-- ---- the ranks

pub ranks_by_sets : (F : Family) (n : ℕ) (bs : List ℕ) → ranks_of F n bs ≡ set_ranks bs
ranks_by_sets F n [] = refl
ranks_by_sets F n (b ∷ bs) = ap₂ (λ (r : ℕ) (l : List ℕ). r ∷ l) (rank_of_word_lem (index_with F n b)) (ranks_by_sets F n bs)

pub set_rank_at : (bs : List ℕ) (i : ℕ) → i < length bs → get_or (set_ranks bs) i 0 ≡ rank_of Forbidden (set_bits (get_or bs i 0))
set_rank_at [] i h = absurd (omega arith)
set_rank_at (b ∷ bs) zero h = refl
set_rank_at (b ∷ bs) (suc i) h = set_rank_at bs i (le_of_suc-le-suc h)

pub set_ranks_long : (bs : List ℕ) → length (set_ranks bs) ≡ length bs
set_ranks_long [] = refl
set_ranks_long (b ∷ bs) = ap suc (set_ranks_long bs)
