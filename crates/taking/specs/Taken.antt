-- When a call takes the index that it is given (02, §8): the record names an alphabet n, its shifted alphabet is at most 64 and every symbol is below n.
-- Assumes nothing.
--   shifted_alphabet_of x    the record's shifted alphabet
--   too_wide x    is it above 64?
--   outside x    is a symbol of its word n or more?
--   taken x s    1 if too wide; 7 if a symbol is outside; otherwise s
--   taken_both x y s    1 if either is too wide; 7 if either has a symbol outside; otherwise s
--   Accepted x    the record is taken: `accepted_is_a_word` says that it is a word over n
--   verdict_of x, verdict_of_both x y, through v s    the same as a value, and what a call goes on to say after it
use Rattle.std.specs.Prelude.{Result, Ok, Err, Bool, ℕ, ◌≤◌, ltb, length}
use Rattle.words.specs.Pick.{pick}
use Rattle.words.specs.Word.{Below, shifted_alphabet}
use Rattle.bits.specs.Member.{reaches}
use Rattle.answers.specs.declared.Index.{Index}
use Rattle.answers.specs.declared.Refusal.TheVariants.{TooWide, Outside}
use Rattle.answers.specs.Says.{Says, refuses_with, refused_if, number_of, carried_by}
use Rattle.answers.specs.Terms.{word_of}
use Rattle.answers.specs.declared.Refusal.{Refusal}

abbrev pub shifted_alphabet_of : Index → ℕ
shifted_alphabet_of x = shifted_alphabet x.family x.alphabet (length (word_of x))

abbrev pub too_wide : Index → Bool
too_wide x = ltb 64 (shifted_alphabet_of x)

abbrev pub outside : Index → Bool
outside x = reaches x.alphabet (word_of x)

abbrev pub taken : {A : Type 0} → Index → Says A → Says A
taken x s = refused_if (too_wide x) 1 (refused_if (outside x) 7 s)

abbrev pub taken_both : {A : Type 0} → Index → Index → Says A → Says A
taken_both x y s = refused_if (too_wide x) 1 (refused_if (too_wide y) 1 (refused_if (outside x) 7 (refused_if (outside y) 7 s)))

pub record Accepted (x : Index) : Type 0 where
  pub narrow : shifted_alphabet_of x ≤ 64
  pub over : Below x.alphabet (word_of x)

-- ---- as a value

abbrev pub verdict_of : Index → Result Unit Refusal
verdict_of x = pick (too_wide x) (Err TooWide) (pick (outside x) (Err Outside) (Ok tt))

abbrev pub verdict_of_both : Index → Index → Result Unit Refusal
verdict_of_both x y =
    pick (too_wide x) (Err TooWide)
    (pick (too_wide y) (Err TooWide) (pick (outside x) (Err Outside) (pick (outside y) (Err Outside) (Ok tt))))

abbrev pub through : {A : Type 0} → Result Unit Refusal → Says A → Says A
through (Ok tt) s = s
through (Err e) s = refuses_with (number_of e) (carried_by e)
