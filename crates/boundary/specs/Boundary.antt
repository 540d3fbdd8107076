-- How an answer crosses to a program in C: the refusal comes back, and each result goes to a place of the caller's. Assumes nothing.
--   family_of allowed    the family as a truth value
--   answered    what comes back of an answer: the number 0, and the place 0
--   refused_with e c    what comes back of a refusal: its number e in 01's table, and the place among what it carries, 0 if it carries none
--   status s    what comes back: the one or the other
--   stored f s old    what a place holds that held old: the part f of the value, and after a refusal what it held
--   itself n    a number that is the whole value
--   minus s    a sign as a truth value
--   index_at allowed n bits    an index as its three parts
--   alphabet_of_index x, bits_of_index x    the two parts of an index that is given; its family is the one that was asked for
--   minus_of_term t, alphabet_of_term t, bits_of_term t    the parts of a sign with an index
--   minus_of_removed d, symbol_of_removed d, alphabet_of_removed d, bits_of_removed d    the parts of a deletion: its sign, the symbol, what is left
--   walk_at allowed standing over at remaining    a walk as whether it stands at an index, the alphabet and the bits of that, and how many remain
--   standing_of w, over_of w, at_of w, remaining_of w    these parts of a walk; the alphabet and the bits are 0 where it stands nowhere
--   alphabet_given m, bits_given m    the two parts of the index that a step gives
--   standing_after m, over_after m, at_after m, remaining_after m    the parts of the walk after it
use Rattle.std.specs.Prelude.{Option, Some, None, Bool, true, false, List, ℕ}
use Rattle.words.specs.declared.Family.{Family}
use Rattle.words.specs.declared.Family.TheVariants.{Forbidden, Allowed}
use Rattle.answers.specs.declared.Sign.{Sign}
use Rattle.answers.specs.declared.Sign.TheVariants.{Plus, Minus}
use Rattle.answers.specs.declared.Index.{Index}
use Rattle.answers.specs.Says.{Says, refuses_with, gives, place_of}
use Rattle.monotone_walk.specs.declared.Walk.{Walk}
use Rattle.boundary.specs.declared.Status.{Status}
use Rattle.answers.specs.declared.SignedTerm.{SignedTerm}
use Rattle.monotone_walk.specs.declared.Moved.{Moved}
use Rattle.deletion.specs.declared.Removed.{Removed}

abbrev pub family_of : Bool → Family
family_of true = Allowed
family_of false = Forbidden

abbrev pub answered : Status
answered = record { number = 0; at = 0 }

abbrev pub refused_with : ℕ → List ℕ → Status
refused_with e c = record { number = e; at = place_of c }

abbrev pub status : {A : Type 0} → Says A → Status
status (refuses_with e c) = refused_with e c
status (gives a) = answered

abbrev pub stored : {A B : Type 0} → (A → B) → Says A → B → B
stored f (refuses_with e c) old = old
stored f (gives a) old = f a

abbrev pub itself : ℕ → ℕ
itself n = n

abbrev pub minus : Sign → Bool
minus Plus = false
minus Minus = true

-- ---- indices, with a sign and after a deletion

abbrev pub index_at : Bool → ℕ → ℕ → Index
index_at allowed n bits = record { family = family_of allowed; alphabet = n; bits = bits }

abbrev pub alphabet_of_index : Index → ℕ
alphabet_of_index x = x.alphabet

abbrev pub bits_of_index : Index → ℕ
bits_of_index x = x.bits

abbrev pub minus_of_term : SignedTerm → Bool
minus_of_term t = minus t.sign

abbrev pub alphabet_of_term : SignedTerm → ℕ
alphabet_of_term t = t.index.alphabet

abbrev pub bits_of_term : SignedTerm → ℕ
bits_of_term t = t.index.bits

abbrev pub minus_of_removed : Removed → Bool
minus_of_removed d = minus d.sign

abbrev pub symbol_of_removed : Removed → ℕ
symbol_of_removed d = d.symbol

abbrev pub alphabet_of_removed : Removed → ℕ
alphabet_of_removed d = d.index.alphabet

abbrev pub bits_of_removed : Removed → ℕ
bits_of_removed d = d.index.bits

-- ---- walks

abbrev pub current_at : Bool → Index → Option Index
current_at true x = Some x
current_at false x = None

abbrev pub walk_at : Bool → Bool → ℕ → ℕ → ℕ → Walk
walk_at allowed standing over at remaining = record { current = current_at standing (index_at allowed over at); remaining = remaining }

abbrev pub stands_somewhere : Option Index → Bool
stands_somewhere (Some x) = true
stands_somewhere None = false

abbrev pub alphabet_there : Option Index → ℕ
alphabet_there (Some x) = x.alphabet
alphabet_there None = 0

abbrev pub bits_there : Option Index → ℕ
bits_there (Some x) = x.bits
bits_there None = 0

abbrev pub standing_of : Walk → Bool
standing_of w = stands_somewhere w.current

abbrev pub over_of : Walk → ℕ
over_of w = alphabet_there w.current

abbrev pub at_of : Walk → ℕ
at_of w = bits_there w.current

abbrev pub remaining_of : Walk → ℕ
remaining_of w = w.remaining

abbrev pub alphabet_given : Moved → ℕ
alphabet_given m = m.index.alphabet

abbrev pub bits_given : Moved → ℕ
bits_given m = m.index.bits

abbrev pub standing_after : Moved → Bool
standing_after m = standing_of m.state

abbrev pub over_after : Moved → ℕ
over_after m = over_of m.state

abbrev pub at_after : Moved → ℕ
at_after m = at_of m.state

abbrev pub remaining_after : Moved → ℕ
remaining_after m = remaining_of m.state
