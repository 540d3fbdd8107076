-- What the check of a record tells. Assumes nothing.
--   word_at, word_long    the list of a record and its entries
--   holds_below    the entries of a permutation are below its length
--   tested_holds, holds_good, taken_holds, holds_taken    the check passes exactly where the record holds a permutation
--   verdict-refuses, verdict-gives    what the verdict of the check tells
use Rattle.std.specs.Prelude.{Result, Ok, Err}
use mathlib.Core.Path.{◌≡◌, refl, sym, ap, ◌∙◌}
use mathlib.Core.Bool.{Bool, true, false, true≢false}
use mathlib.Core.List.{List}
use Prim.Native.Nat.{ℕ, ◌≤◌, ◌<◌}
use native.Mathlib.Omega.{arith}
use borrow.Author.Tests.{ltb-false, le-ltb, not-false}
use lib.ListN.{length, get_or, drop}
use lib.Seq.{length-take-le, get_or-take}
use Rattle.words.specs.Pick.{pick}
use Rattle.arrangements.specs.Permutation.{is_permutation}
use Rattle.arrangements.proofs.Places.{by_places, test_tells, test_passes}
use Rattle.answers.specs.declared.Refusal.{Refusal}
use Rattle.answers.specs.Says.{refuses_with, gives, refused_if, number_of, carried_by}
use Rattle.answers.proofs.Says.{passed}
use Rattle.permutation.specs.declared.Permutation.{Permutation}
use Rattle.permutation.specs.Record.{capacity, zeros_only, arrangement_of, Whole, GoodRecord, verdict_says}
use Rattle.permutation.specs.Rules.{too_long, is_good, not_a_permutation, taken_arrangement}
use Rattle.permutation.proofs.Past.{past-tells, past-passes}

pub word_at : (p : Permutation) (i : ℕ) → i < p.len → get_or (arrangement_of p) i 0 ≡ get_or p.entries i 0
word_at p i h = get_or-take p.len p.entries i 0 h

pub word_long : (p : Permutation) → Whole p → p.len ≤ capacity → length (arrangement_of p) ≡ p.len
word_long p e h = length-take-le p.len p.entries (omega arith)

pub holds_below : (p : Permutation) → GoodRecord p → (i : ℕ) → i < p.len → get_or p.entries i 0 < p.len
holds_below p h i l = omega (arith, word_at p i l, (by_places p.len (arrangement_of p) h.permutation).below i l)

pub tested_holds : (p : Permutation) → Whole p → p.len ≤ capacity → is_good p.entries p.len ≡ true → GoodRecord p
unfolding is_good
tested_holds p e h t = go (is_permutation (arrangement_of p)) refl t
  where
    go : (s : Bool) → is_permutation (arrangement_of p) ≡ s → pick s (zeros_only (drop p.len p.entries)) false ≡ true → GoodRecord p
    go true a z =
        record { short = h; permutation = test_tells p.len (arrangement_of p) (word_long p e h) a; past = past-tells p.entries p.len z }
    go false a z = absurd (true≢false (sym z))

pub holds_good : (p : Permutation) → GoodRecord p → is_good p.entries p.len ≡ true
unfolding is_good
holds_good p h = simp (test_passes p.len (arrangement_of p) h.permutation) (past-passes p.entries p.len h.past)

pub taken_holds : (p : Permutation) → GoodRecord p → taken_arrangement p ≡ gives (arrangement_of p)
unfolding taken_arrangement
taken_holds p h = simp (le-ltb capacity p.len h.short, holds_good p h)

pub holds_taken : (p : Permutation) (w : List ℕ) → Whole p → taken_arrangement p ≡ gives w → GoodRecord p
unfolding taken_arrangement
holds_taken p w l e =
    let first = passed (too_long p.len) 1 (refused_if (not_a_permutation p) 10 (gives (arrangement_of p))) w e in
    let second = passed (not_a_permutation p) 10 (gives (arrangement_of p)) w first.1 in
    tested_holds p l (ltb-false capacity p.len first.0) (not-false (is_good p.entries p.len) second.0)

-- ---- the verdict of the check

module _ (p : Permutation) (v : Result (Unit {0}) Refusal) (says : verdict_says v (arrangement_of p) ≡ taken_arrangement p) where
  pub verdict-refuses : (e : Refusal) → v ≡ Err e → taken_arrangement p ≡ refuses_with (number_of e) (carried_by e)
  verdict-refuses e q = sym says ∙ ap (λ (x : Result (Unit {0}) Refusal). verdict_says x (arrangement_of p)) q

  pub verdict-gives : (u : Unit {0}) → v ≡ Ok u → Whole p → GoodRecord p
  verdict-gives u q l = holds_taken p (arrangement_of p) l (sym says ∙ ap (λ (x : Result (Unit {0}) Refusal). verdict_says x (arrangement_of p)) q)
