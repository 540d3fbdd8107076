-- No second outcome: an answer is told by what it says. A contract is an equation between what an answer says and a definition, so it leaves one answer.
-- Assumes nothing.
--   one_refusal, one_refusal_by_place    a refusal is told by its number and what it carries, and by its number and its place
--   one_answer    the result of a call, whatever it gives: a number, an index, a sign, a sign with an index, a walk, a step of it, a deletion, a digit word,
--                 a permutation, a table
--   one_number    what a word of text says as a number
use Rattle.std.specs.Prelude.{Result, Ok, Err, Option, Some, None}
use mathlib.Core.Path.{◌≡◌, refl, sym, ap, ap₂, ◌∙◌}
use mathlib.Core.List.{List, [], ◌∷◌}
use Prim.Native.Nat.{ℕ}
use lib.ListN.{get_or}
use Rattle.text.specs.Numeral.{Reads}
use Rattle.answers.specs.declared.Refusal.{Refusal}
use Rattle.answers.specs.declared.Refusal.TheVariants.{TooWide, NotMonotone, NoSuchRank, Last, Repeated, FamilyDiffers, Outside, Shape, TooBig, NotAPermutation, BadImage, NoSuchTable, FramesDiffer, NotFinite}
use Rattle.answers.specs.Says.{Says, refuses_with, gives, number_of, carried_by, place_of, answer_says}
use Rattle.answers.proofs.Says.{gives_same, gives_never}

-- ---- refusals

refusal_of : ℕ → ℕ → Refusal
refusal_of n p =
    get_or
    (TooWide ∷ TooWide ∷ NotMonotone p ∷ NoSuchRank ∷ Last ∷ Repeated ∷ FamilyDiffers ∷ Outside ∷ Shape ∷ TooBig ∷ NotAPermutation ∷ BadImage p ∷ NoSuchTable ∷ FramesDiffer ∷ NotFinite ∷ [])
    n TooWide

refusal-back : (e : Refusal) → refusal_of (number_of e) (place_of (carried_by e)) ≡ e
unfolding refusal_of
refusal-back TooWide = refl
refusal-back (NotMonotone at) = refl
refusal-back NoSuchRank = refl
refusal-back Last = refl
refusal-back Repeated = refl
refusal-back FamilyDiffers = refl
refusal-back Outside = refl
refusal-back Shape = refl
refusal-back TooBig = refl
refusal-back NotAPermutation = refl
refusal-back (BadImage at) = refl
refusal-back NoSuchTable = refl
refusal-back FramesDiffer = refl
refusal-back NotFinite = refl

pub one_refusal_by_place : (d e : Refusal) → number_of d ≡ number_of e → place_of (carried_by d) ≡ place_of (carried_by e) → d ≡ e
one_refusal_by_place d e n p = sym (refusal-back d) ∙ ap₂ refusal_of n p ∙ refusal-back e

pub one_refusal : (d e : Refusal) → number_of d ≡ number_of e → carried_by d ≡ carried_by e → d ≡ e
one_refusal d e n c = one_refusal_by_place d e n (ap place_of c)

refused : {A : Type 0} (d e : Refusal) → ◌≡◌ {A = Says A} (refuses_with (number_of d) (carried_by d)) (refuses_with (number_of e) (carried_by e)) → d ≡ e
refused d e q = one_refusal d e (cc) (cc)

never : {A B : Type 0} (a : A) (d : Refusal) → gives a ≡ refuses_with (number_of d) (carried_by d) → B
never a d e = absurd (gives_never a (number_of d) (carried_by d) e)

-- ---- the result of a call

pub one_answer : {A : Type 0} (a b : Result A Refusal) → answer_says a ≡ answer_says b → a ≡ b
one_answer (Ok m) (Ok n) e = ap Ok (gives_same m n e)
one_answer (Ok m) (Err d) e = never m d e
one_answer (Err c) (Ok n) e = never n c (sym e)
one_answer (Err c) (Err d) e = ap Err (refused c d e)

-- ---- what is read

pub one_number : (w : List ℕ) (a b : Option ℕ) → Reads w a → Reads w b → a ≡ b
one_number w (Some m) (Some n) h k = ap Some (sym h.0.value ∙ k.0.value)
one_number w (Some m) None h k = absurd (k m h.1 h.0)
one_number w None (Some n) h k = absurd (h n k.1 k.0)
one_number w None None h k = refl
