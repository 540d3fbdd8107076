-- No second outcome across the C boundary: an answer is told by what comes back of it, `status`, and by what the caller's places hold then, `stored`. The
-- contract of an export says these two of the call's definition, so it leaves one answer. Assumes nothing.
--   one_status    two refusals that come back as the same two numbers are the same
--   no_refusal_is_answered    none comes back as an answer does
--   one_stored_number    two answers of a number that come back alike and leave the same in the caller's place are the same
--   one_stored_index, one_stored_signed, one_stored_deletion    the same of an index, of a sign with one and of a deletion, where the family is the one that was asked for
--   one_stored_start, one_stored_step    and of a walk and of a step of it
use Rattle.std.specs.Prelude.{Result, Ok, Err, Option, Some, None}
use mathlib.Core.Path.{◌≡◌, refl, sym, ap, ap₂, ◌∙◌}
use mathlib.Core.Bool.{Bool, true≢false}
use Prim.Native.Nat.{ℕ, ◌<◌}
use native.Mathlib.Omega.{arith}
use Rattle.words.specs.declared.Family.{Family}
use Rattle.answers.specs.declared.Refusal.{Refusal}
use Rattle.answers.specs.declared.Refusal.TheVariants.{TooWide, NotMonotone, NoSuchRank, Last, Repeated, FamilyDiffers, Outside, Shape, TooBig, NotAPermutation, BadImage, NoSuchTable, FramesDiffer, NotFinite}
use Rattle.answers.specs.declared.Sign.{Sign}
use Rattle.answers.specs.declared.Sign.TheVariants.{Plus, Minus}
use Rattle.answers.specs.declared.Index.{Index}
use Rattle.answers.specs.Says.{number_of, carried_by, answer_says}
use Rattle.monotone_walk.specs.declared.Walk.{Walk}
use Rattle.boundary.specs.declared.Status.{Status}
use Rattle.boundary.specs.Boundary.{answered, refused_with, status, stored, itself, minus, alphabet_of_index, bits_of_index, minus_of_term, alphabet_of_term, bits_of_term, minus_of_removed, symbol_of_removed, alphabet_of_removed, bits_of_removed}
use Rattle.boundary.specs.Boundary.{stands_somewhere, alphabet_there, bits_there, standing_of, over_of, at_of, remaining_of, alphabet_given, bits_given, standing_after, over_after, at_after, remaining_after}
use Rattle.boundary_outcomes.specs.Families.{IndexIn, SignedIn, DeletedIn, CurrentIn, StartedIn, SteppedIn}
use Rattle.outcomes.proofs.Outcomes.{one_refusal_by_place}
use Rattle.deletion.specs.declared.Removed.{Removed}
use Rattle.monotone_walk.specs.declared.Moved.{Moved}
use Rattle.answers.specs.declared.SignedTerm.{SignedTerm}

-- ---- what comes back

pub one_status : (d e : Refusal) → refused_with (number_of d) (carried_by d) ≡ refused_with (number_of e) (carried_by e) → d ≡ e
one_status d e q = one_refusal_by_place d e (ap (λ (s : Status). s.number) q) (ap (λ (s : Status). s.at) q)

number-positive : (e : Refusal) → 0 < number_of e
number-positive TooWide = omega arith
number-positive (NotMonotone at) = omega arith
number-positive NoSuchRank = omega arith
number-positive Last = omega arith
number-positive Repeated = omega arith
number-positive FamilyDiffers = omega arith
number-positive Outside = omega arith
number-positive Shape = omega arith
number-positive TooBig = omega arith
number-positive NotAPermutation = omega arith
number-positive (BadImage at) = omega arith
number-positive NoSuchTable = omega arith
number-positive FramesDiffer = omega arith
number-positive NotFinite = omega arith

pub no_refusal_is_answered : (e : Refusal) → answered ≡ refused_with (number_of e) (carried_by e) → ⊥
no_refusal_is_answered e q = omega (arith, ap (λ (s : Status). s.number) q, number-positive e)

-- ---- the parts of a value

one_minus : (s t : Sign) → minus s ≡ minus t → s ≡ t
one_minus Plus Plus e = refl
one_minus Plus Minus e = absurd (true≢false (sym e))
one_minus Minus Plus e = absurd (true≢false e)
one_minus Minus Minus e = refl

one_record : (x y : Index) → x.family ≡ y.family → x.alphabet ≡ y.alphabet → x.bits ≡ y.bits → x ≡ y
one_record x y f n b =
    ap₂ (λ (F : Family) (m : ℕ). record { family = F; alphabet = m; bits = x.bits }) f n ∙ ap (λ (c : ℕ). record { family = y.family; alphabet = y.alphabet; bits = c }) b

one_current : (F : Family) (c d : Option Index) → CurrentIn F c → CurrentIn F d → stands_somewhere c ≡ stands_somewhere d → alphabet_there c ≡ alphabet_there d → bits_there c ≡ bits_there d → c ≡ d
one_current F (Some x) (Some y) f g s n b = ap Some (one_record x y (f ∙ sym g) n b)
one_current F (Some x) None f g s n b = absurd (true≢false s)
one_current F None (Some y) f g s n b = absurd (true≢false (sym s))
one_current F None None f g s n b = refl

one_walk : (F : Family) (s t : Walk) → CurrentIn F s.current → CurrentIn F t.current → standing_of s ≡ standing_of t → over_of s ≡ over_of t → at_of s ≡ at_of t
    → remaining_of s ≡ remaining_of t → s ≡ t
one_walk F s t f g h n b r = ap₂ (λ (c : Option Index) (k : ℕ). record { current = c; remaining = k }) (one_current F s.current t.current f g h n b) r

-- ---- the answers

pub one_stored_number : (a b : Result ℕ Refusal) (old : ℕ) → status (answer_says a) ≡ status (answer_says b) → stored itself (answer_says a) old ≡ stored itself (answer_says b) old → a ≡ b
one_stored_number (Ok m) (Ok n) old s v = ap Ok v
one_stored_number (Ok m) (Err d) old s v = absurd (no_refusal_is_answered d s)
one_stored_number (Err c) (Ok n) old s v = absurd (no_refusal_is_answered c (sym s))
one_stored_number (Err c) (Err d) old s v = ap Err (one_status c d s)

pub one_stored_index : (F : Family) (a b : Result Index Refusal) (m o : ℕ) → IndexIn F a → IndexIn F b → status (answer_says a) ≡ status (answer_says b)
    → stored alphabet_of_index (answer_says a) m ≡ stored alphabet_of_index (answer_says b) m → stored bits_of_index (answer_says a) o ≡ stored bits_of_index (answer_says b) o → a ≡ b
one_stored_index F (Ok x) (Ok y) m o f g s n b = ap Ok (one_record x y (f ∙ sym g) n b)
one_stored_index F (Ok x) (Err d) m o f g s n b = absurd (no_refusal_is_answered d s)
one_stored_index F (Err c) (Ok y) m o f g s n b = absurd (no_refusal_is_answered c (sym s))
one_stored_index F (Err c) (Err d) m o f g s n b = ap Err (one_status c d s)

pub one_stored_signed : (F : Family) (a b : Result SignedTerm Refusal) (t : Bool) (m o : ℕ) → SignedIn F a → SignedIn F b → status (answer_says a) ≡ status (answer_says b)
    → stored minus_of_term (answer_says a) t ≡ stored minus_of_term (answer_says b) t → stored alphabet_of_term (answer_says a) m ≡ stored alphabet_of_term (answer_says b) m
    → stored bits_of_term (answer_says a) o ≡ stored bits_of_term (answer_says b) o → a ≡ b
one_stored_signed F (Ok p) (Ok q) t m o f g s h n b =
    ap₂ (λ (r : Sign) (z : Index). Ok (record { sign = r; index = z })) (one_minus p.sign q.sign h) (one_record p.index q.index (f ∙ sym g) n b)
one_stored_signed F (Ok p) (Err d) t m o f g s h n b = absurd (no_refusal_is_answered d s)
one_stored_signed F (Err c) (Ok q) t m o f g s h n b = absurd (no_refusal_is_answered c (sym s))
one_stored_signed F (Err c) (Err d) t m o f g s h n b = ap Err (one_status c d s)

pub one_stored_deletion : (F : Family) (a b : Result Removed Refusal) (t : Bool) (v m o : ℕ) → DeletedIn F a → DeletedIn F b → status (answer_says a) ≡ status (answer_says b)
    → stored minus_of_removed (answer_says a) t ≡ stored minus_of_removed (answer_says b) t → stored symbol_of_removed (answer_says a) v ≡ stored symbol_of_removed (answer_says b) v
    → stored alphabet_of_removed (answer_says a) m ≡ stored alphabet_of_removed (answer_says b) m → stored bits_of_removed (answer_says a) o ≡ stored bits_of_removed (answer_says b) o → a ≡ b
one_stored_deletion F (Ok p) (Ok q) t v m o f g s h k n b =
    ap₂ (λ (r : Sign) (z : Index). Ok (record { sign = r; symbol = p.symbol; index = z })) (one_minus p.sign q.sign h) (one_record p.index q.index (f ∙ sym g) n b)
    ∙ ap (λ (l : ℕ). Ok (record { sign = q.sign; symbol = l; index = q.index })) k
one_stored_deletion F (Ok p) (Err d) t v m o f g s h k n b = absurd (no_refusal_is_answered d s)
one_stored_deletion F (Err c) (Ok q) t v m o f g s h k n b = absurd (no_refusal_is_answered c (sym s))
one_stored_deletion F (Err c) (Err d) t v m o f g s h k n b = ap Err (one_status c d s)

pub one_stored_start : (F : Family) (a b : Result Walk Refusal) (t : Bool) (m o k : ℕ) → StartedIn F a → StartedIn F b → status (answer_says a) ≡ status (answer_says b)
    → stored standing_of (answer_says a) t ≡ stored standing_of (answer_says b) t → stored over_of (answer_says a) m ≡ stored over_of (answer_says b) m
    → stored at_of (answer_says a) o ≡ stored at_of (answer_says b) o → stored remaining_of (answer_says a) k ≡ stored remaining_of (answer_says b) k → a ≡ b
one_stored_start F (Ok u) (Ok v) t m o k f g s h n b r = ap Ok (one_walk F u v f g h n b r)
one_stored_start F (Ok u) (Err d) t m o k f g s h n b r = absurd (no_refusal_is_answered d s)
one_stored_start F (Err c) (Ok v) t m o k f g s h n b r = absurd (no_refusal_is_answered c (sym s))
one_stored_start F (Err c) (Err d) t m o k f g s h n b r = ap Err (one_status c d s)

pub one_stored_step : (F : Family) (a b : Result Moved Refusal) (t : Bool) (i j m o k : ℕ) → SteppedIn F a → SteppedIn F b → status (answer_says a) ≡ status (answer_says b)
    → stored alphabet_given (answer_says a) i ≡ stored alphabet_given (answer_says b) i → stored bits_given (answer_says a) j ≡ stored bits_given (answer_says b) j
    → stored standing_after (answer_says a) t ≡ stored standing_after (answer_says b) t → stored over_after (answer_says a) m ≡ stored over_after (answer_says b) m
    → stored at_after (answer_says a) o ≡ stored at_after (answer_says b) o → stored remaining_after (answer_says a) k ≡ stored remaining_after (answer_says b) k → a ≡ b
one_stored_step F (Ok u) (Ok v) t i j m o k f g s p q h n b r =
    ap₂ (λ (z : Index) (w : Walk). Ok (record { index = z; state = w })) (one_record u.index v.index (f.0 ∙ sym g.0) p q) (one_walk F u.state v.state f.1 g.1 h n b r)
one_stored_step F (Ok x) (Err d) t i j m o k f g s p q h n b r = absurd (no_refusal_is_answered d s)
one_stored_step F (Err c) (Ok y) t i j m o k f g s p q h n b r = absurd (no_refusal_is_answered c (sym s))
one_stored_step F (Err c) (Err d) t i j m o k f g s p q h n b r = ap Err (one_status c d s)
