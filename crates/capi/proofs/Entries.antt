-- What an answer of a permutation leaves in the places that are lent for it. Assumes nothing.
--   status-recorded    what comes back of a record is what comes back of its list
--   stored-part    a part of a record that is given is that part of the record of the list that is said; a refusal stores nothing
--   inverse-refuses, inverse-gives    what is said of the inverse of a record by the test of it: its refusal, and the inverse of a permutation
use Rattle.std.specs.Prelude.{Result, Err}
use mathlib.Core.Path.{◌≡◌, refl, ap}
use mathlib.Core.List.{List}
use Prim.Native.Nat.{ℕ}
use Rattle.arrangements.specs.Permutation.{inverse}
use Rattle.answers.specs.declared.Refusal.{Refusal}
use Rattle.answers.specs.Says.{Says, refuses_with, gives, and_then, number_of, carried_by}
use Rattle.permutation.specs.declared.Permutation.{Permutation}
use Rattle.permutation.specs.Record.{arrangement_of, record_of, recorded, verdict_says, GoodRecord}
use Rattle.permutation.specs.Rules.{taken_arrangement}
use Rattle.permutation.proofs.Taken.{taken_holds, verdict-refuses}
use Rattle.permutation_group.specs.Rules.{inverse_says}
use Rattle.boundary.specs.Boundary.{status, stored}

pub status-recorded : (s : Says (List ℕ)) → status (recorded s) ≡ status s
status-recorded (refuses_with e c) = refl
status-recorded (gives w) = refl

pub stored-part : {B : Type 0} (part : Permutation → B) (s : Says (List ℕ)) (old : B) → stored part (recorded s) old ≡ stored (λ w. part (record_of w)) s old
stored-part part (refuses_with e c) old = refl
stored-part part (gives w) old = refl

pub inverse-refuses : (p : Permutation) (v : Result (Unit {0}) Refusal) → verdict_says v (arrangement_of p) ≡ taken_arrangement p → (e : Refusal) → v ≡ Err e
    → inverse_says p ≡ refuses_with (number_of e) (carried_by e)
inverse-refuses p v says e q = ap (λ t. and_then t (λ w. gives (inverse w))) (verdict-refuses p v says e q)

pub inverse-gives : (p : Permutation) → GoodRecord p → inverse_says p ≡ gives (inverse (arrangement_of p))
inverse-gives p h = ap (λ t. and_then t (λ w. gives (inverse w))) (taken_holds p h)
