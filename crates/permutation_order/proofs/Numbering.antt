-- What the check of a record tells where its permutation is to be numbered. Assumes nothing.
--   ordered-numbered, numbered-ordered    the check passes exactly where the record holds a permutation that is not too long
--   numbered-refuses, numbered-gives    what the verdict of the check tells
use Rattle.std.specs.Prelude.{Result, Ok, Err}
use mathlib.Core.Path.{◌≡◌, sym, ap, ◌∙◌}
use mathlib.Core.List.{List}
use Prim.Native.Nat.{ℕ}
use borrow.Author.Tests.{ltb-false, le-ltb}
use Rattle.answers.specs.declared.Refusal.{Refusal}
use Rattle.answers.specs.Says.{refuses_with, gives, number_of, carried_by}
use Rattle.answers.proofs.Says.{passed}
use Rattle.permutation.specs.declared.Permutation.{Permutation}
use Rattle.permutation.specs.Record.{arrangement_of, Whole, verdict_says}
use Rattle.permutation.specs.Rules.{taken_arrangement}
use Rattle.permutation.proofs.Taken.{taken_holds, holds_taken}
use Rattle.permutation_order.specs.Rules.{longest_numbered, unnumbered, numbered, Ordered}

pub ordered-numbered : (p : Permutation) → Ordered p → numbered p ≡ gives (arrangement_of p)
unfolding numbered
ordered-numbered p o = simp (le-ltb longest_numbered p.len o.few, taken_holds p o.holds)

pub numbered-ordered : (p : Permutation) (w : List ℕ) → Whole p → numbered p ≡ gives w → Ordered p
unfolding numbered
numbered-ordered p w l e =
    let t = passed (unnumbered p.len) 1 (taken_arrangement p) w e in
    record { holds = holds_taken p w l t.1; few = ltb-false longest_numbered p.len t.0 }

-- ---- the verdict of the check

module _ (p : Permutation) (v : Result (Unit {0}) Refusal) (says : verdict_says v (arrangement_of p) ≡ numbered p) where
  pub numbered-refuses : (e : Refusal) → v ≡ Err e → numbered p ≡ refuses_with (number_of e) (carried_by e)
  numbered-refuses e q = sym says ∙ ap (λ (x : Result (Unit {0}) Refusal). verdict_says x (arrangement_of p)) q

  pub numbered-gives : (u : Unit {0}) → v ≡ Ok u → Whole p → Ordered p
  numbered-gives u q l = numbered-ordered p (arrangement_of p) l (sym says ∙ ap (λ (x : Result (Unit {0}) Refusal). verdict_says x (arrangement_of p)) q)
