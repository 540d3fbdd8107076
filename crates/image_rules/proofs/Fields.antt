-- Fields that are judged one after the other. Assumes nothing.
--   judged_then    the fields of two lists are judged one after the other
--   Passed size fs    every field of fs stands within the first size bytes and is right
--   judged-passed, passed-judged    where fields are judged and a value is given, all have passed, and the other way round
--   passed_append, append_passed    the fields of two lists have passed exactly if those of each have
use mathlib.Core.Path.{◌≡◌, refl}
use mathlib.Core.Bool.{Bool, true, false, not}
use mathlib.Core.List.{List, [], ◌∷◌, ◌++◌}
use Prim.Native.Nat.{ℕ, ◌+◌, ◌≤◌}
use borrow.Author.Tests.{le-ltb, ltb-false, not-false}
use lib.Dec.{ltb}
use Rattle.answers.specs.Says.{Says, gives, refused_at_if, and_then}
use Rattle.answers.proofs.Says.{passed_with}
use Rattle.image_rules.specs.Image.{Field, judged}

pub judged_then : {A B : Type 0} (size : ℕ) (fs gs : List Field) (b : B) (s : Says A) → judged size (fs ++ gs) s ≡ and_then (judged size fs (gives b)) (λ x. judged size gs s)
unfolding judged
judged_then size [] gs b s = refl
judged_then {A} {B} size (f ∷ fs) gs b s = go (ltb size (f.at + f.width)) f.right (judged_then size fs gs b s)
  where
    go : (t r : Bool) → judged size (fs ++ gs) s ≡ and_then (judged size fs (gives b)) (λ (x : B). judged size gs s)
        → refused_at_if t 11 size (refused_at_if (not r) 11 f.at (judged size (fs ++ gs) s))
        ≡ and_then (refused_at_if t 11 size (refused_at_if (not r) 11 f.at (judged size fs (gives b)))) (λ (x : B). judged size gs s)
    go true r i = refl
    go false false i = refl
    go false true i = i

abbrev pub Passed : ℕ → List Field → Type 0
Passed size [] = Unit {0}
Passed size (f ∷ fs) = (f.at + f.width ≤ size) × (f.right ≡ true) × Passed size fs

pub judged-passed : {A : Type 0} (size : ℕ) (fs : List Field) (s : Says A) (a : A) → judged size fs s ≡ gives a → Passed size fs × (s ≡ gives a)
unfolding judged
judged-passed size [] s a e = (tt, e)
judged-passed {A} size (f ∷ fs) s a e = go (passed_with (ltb size (f.at + f.width)) 11 (size ∷ []) (refused_at_if (not f.right) 11 f.at (judged size fs s)) a e) (judged-passed size fs s a)
  where
    go : (ltb size (f.at + f.width) ≡ false) × (refused_at_if (not f.right) 11 f.at (judged size fs s) ≡ gives a) → (judged size fs s ≡ gives a → Passed size fs × (s ≡ gives a))
        → Passed size (f ∷ fs) × (s ≡ gives a)
    go p rec = on (passed_with (not f.right) 11 (f.at ∷ []) (judged size fs s) a p.1)
      where
        on : (not f.right ≡ false) × (judged size fs s ≡ gives a) → Passed size (f ∷ fs) × (s ≡ gives a)
        on q = let r = rec q.1 in ((ltb-false size (f.at + f.width) p.0, not-false f.right q.0, r.0), r.1)

pub passed-judged : {A : Type 0} (size : ℕ) (fs : List Field) (s : Says A) → Passed size fs → judged size fs s ≡ s
unfolding judged
passed-judged size [] s p = refl
passed-judged size (f ∷ fs) s p = simp (le-ltb size (f.at + f.width) p.0, p.1) (passed-judged size fs s p.2)

pub passed_append : (size : ℕ) (fs gs : List Field) → Passed size (fs ++ gs) → Passed size fs × Passed size gs
passed_append size [] gs p = (tt, p)
passed_append size (f ∷ fs) gs p = let r = passed_append size fs gs p.2 in ((p.0, p.1, r.0), r.1)

pub append_passed : (size : ℕ) (fs gs : List Field) → Passed size fs → Passed size gs → Passed size (fs ++ gs)
append_passed size [] gs p q = q
append_passed size (f ∷ fs) gs p q = (p.0, p.1, append_passed size fs gs p.2 q)
