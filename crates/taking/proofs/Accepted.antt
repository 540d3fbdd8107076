-- What a record that is taken is. Assumes nothing.
--   below_is_shifted    the symbols of an index are below n exactly if its bits are below the shifted alphabet
--   outside_is_reaches    so the test of its bits, against the shifted alphabet, is the test of its symbols
--   accepted_is_a_word    a record that is not too wide is accepted exactly if its word is one over its alphabet
--   accepted-passes, passes-accepted    a record is accepted exactly if neither test holds
--   index-accepted    the index of a word over n is accepted, where the width allows
--   taken-accepted, both_accepted    an accepted record changes nothing
--   taken_gives, both_gives    what gives an answer was accepted
--   took, took_both    what the code's verdict makes of an answer is what taking the record makes of it
--   verdict_accepted, both_verdict_accepted    a verdict that accepts is of an accepted record
--   few_bits, wide-alphabet, narrow-alphabet    as the code counts: 64 bits have at most 64 ones, and the width of a record is that of its alphabet or more
use Rattle.std.specs.Prelude.{Result, Ok, Err}
use mathlib.Core.Path.{◌≡◌, refl, sym, ap, subst, ◌∙◌}
use mathlib.Core.Bool.{Bool, true, false}
use mathlib.Core.Logic.{◌↔◌}
use mathlib.Core.List.{List}
use Prim.Native.Nat.{ℕ, ◌^◌, ◌≤◌, ◌<◌}
use native.Mathlib.Omega.{arith}
use borrow.Author.Tests.{ltb-false, lt-ltb, le-ltb}
use lib.Count.{ones-le}
use lib.ListN.{length}
use Rattle.words.specs.declared.Family.{Family}
use Rattle.words.specs.declared.Family.TheVariants.{Forbidden}
use Rattle.words.specs.Word.{Below, Word, shifted_alphabet}
use Rattle.words.specs.Pick.{pick}
use Rattle.words.specs.Bits.{set_bits}
use Rattle.words.proofs.Word.{alphabet_least}
use Rattle.words.proofs.Bits.{set-bits-monotone, set_bits_long}
use Rattle.words.proofs.Shifted.{word-shifted}
use Rattle.bits.specs.Member.{reaches}
use Rattle.bits.proofs.Member.{reaches_not}
use Rattle.answers.specs.declared.Index.{Index}
use Rattle.answers.specs.declared.Refusal.TheVariants.{TooWide, Outside}
use Rattle.answers.specs.Says.{Says, gives, refused_if}
use Rattle.answers.specs.Terms.{index_of, word_of}
use Rattle.answers.proofs.Says.{passed}
use Rattle.answers.proofs.Terms.{word_of_index, word_long, word-monotone, shifted-word}
use Rattle.taking.specs.Taken.{shifted_alphabet_of, too_wide, outside, taken, taken_both, Accepted, verdict_of, verdict_of_both, through}
use Rattle.answers.specs.declared.Refusal.{Refusal}

-- ---- the cheap test

pub below_is_shifted : (x : Index) (n k : ℕ) → length (word_of x) ≡ k → Below n (word_of x) ↔ Below (shifted_alphabet x.family n k) (set_bits x.bits)
below_is_shifted x n k e = (
  λ b. subst (Below (shifted_alphabet x.family n k)) (shifted-word x)
      ((word-shifted x.family n k (word_of x)).0 (record { long = e; monotone = word-monotone x; below = b })).below,
  λ b. ((word-shifted x.family n k (word_of x)).1
      (subst (Word Forbidden (shifted_alphabet x.family n k) k) (sym (shifted-word x))
      (record { long = sym (word_long x) ∙ e; monotone = set-bits-monotone x.bits; below = b }))).below,
)

-- two tests that fail together are one
same_test : (t u : Bool) → (t ≡ false → u ≡ false) → (u ≡ false → t ≡ false) → t ≡ u
same_test false u f g = sym (f refl)
same_test true false f g = g refl
same_test true true f g = refl

pub outside_is_reaches : (x : Index) (n k : ℕ) → length (word_of x) ≡ k → reaches (shifted_alphabet x.family n k) (set_bits x.bits) ≡ reaches n (word_of x)
outside_is_reaches x n k e =
    same_test (reaches (shifted_alphabet x.family n k) (set_bits x.bits)) (reaches n (word_of x))
    (λ t. (reaches_not n (word_of x)).1 ((below_is_shifted x n k e).1 ((reaches_not (shifted_alphabet x.family n k) (set_bits x.bits)).0 t)))
    (λ t. (reaches_not (shifted_alphabet x.family n k) (set_bits x.bits)).1 ((below_is_shifted x n k e).0 ((reaches_not n (word_of x)).0 t)))

-- ---- what is accepted

pub accepted_is_a_word : (x : Index) → Accepted x ↔ ((shifted_alphabet_of x ≤ 64) × Word x.family x.alphabet (length (word_of x)) (word_of x))
accepted_is_a_word x = (
  λ a. (a.narrow, record { long = refl; monotone = word-monotone x; below = a.over }),
  λ p. record { narrow = p.0; over = p.1.below },
)

pub accepted-passes : (x : Index) → Accepted x → (too_wide x ≡ false) × (outside x ≡ false)
accepted-passes x a = (le-ltb 64 (shifted_alphabet_of x) a.narrow, (reaches_not x.alphabet (word_of x)).1 a.over)

pub passes-accepted : (x : Index) → too_wide x ≡ false → outside x ≡ false → Accepted x
passes-accepted x t o =
    record { narrow = ltb-false 64 (shifted_alphabet_of x) t; over = (reaches_not x.alphabet (word_of x)).0 o }

pub index-accepted : (F : Family) (n k : ℕ) (w : List ℕ) → shifted_alphabet F n k ≤ 64 → Word F n k w → Accepted (index_of F n w)
index-accepted F n k w h d =
    let e : word_of (index_of F n w) ≡ w = word_of_index F n w d.monotone in
    record {
      narrow = subst (λ (j : ℕ). shifted_alphabet F n j ≤ 64) (sym (ap length e ∙ d.long)) h;
      over = subst (Below n) (sym e) d.below;
    }

-- ---- taking

pub taken-accepted : {A : Type 0} (x : Index) (s : Says A) → Accepted x → taken x s ≡ s
taken-accepted x s a = simp ((accepted-passes x a).0, (accepted-passes x a).1)

pub both_accepted : {A : Type 0} (x y : Index) (s : Says A) → Accepted x → Accepted y → taken_both x y s ≡ s
both_accepted x y s a b = simp ((accepted-passes x a).0, (accepted-passes x a).1, (accepted-passes y b).0, (accepted-passes y b).1)

pub taken_gives : {A : Type 0} (x : Index) (s : Says A) (v : A) → taken x s ≡ gives v → Accepted x × (s ≡ gives v)
taken_gives x s v e = go (passed (too_wide x) 1 (refused_if (outside x) 7 s) v e)
  where
    go : (too_wide x ≡ false) × (refused_if (outside x) 7 s ≡ gives v) → Accepted x × (s ≡ gives v)
    go p = on (passed (outside x) 7 s v p.1)
      where
        on : (outside x ≡ false) × (s ≡ gives v) → Accepted x × (s ≡ gives v)
        on q = (passes-accepted x p.0 q.0, q.1)

-- ---- by the code's verdict

-- v is the verdict of the code, and w what it was found to be
pub took : {A : Type 0} (x : Index) (s : Says A) (v w : Result Unit Refusal) → v ≡ verdict_of x → v ≡ w → through w s ≡ taken x s
took {A} x s v w e f = ap (λ (z : Result Unit Refusal). through z s) (sym f ∙ e) ∙ go (too_wide x) (outside x)
  where
    go : (t u : Bool) → through (pick t (Err TooWide) (pick u (Err Outside) (Ok tt))) s ≡ refused_if t 1 (refused_if u 7 s)
    go true u = refl
    go false true = refl
    go false false = refl

pub took_both : {A : Type 0} (x y : Index) (s : Says A) (v w : Result Unit Refusal) → v ≡ verdict_of_both x y → v ≡ w → through w s ≡ taken_both x y s
took_both {A} x y s v w e f = ap (λ (z : Result Unit Refusal). through z s) (sym f ∙ e) ∙ go (too_wide x) (too_wide y) (outside x) (outside y)
  where
    go : (t t' u u' : Bool) → through (pick t (Err TooWide) (pick t' (Err TooWide) (pick u (Err Outside) (pick u' (Err Outside) (Ok tt))))) s
        ≡ refused_if t 1 (refused_if t' 1 (refused_if u 7 (refused_if u' 7 s)))
    go true t' u u' = refl
    go false true u u' = refl
    go false false true u' = refl
    go false false false true = refl
    go false false false false = refl

-- an accepted record, from the code's verdict
pub verdict_accepted : (x : Index) (v : Result Unit Refusal) (w : Unit {0}) → v ≡ verdict_of x → v ≡ Ok w → Accepted x
verdict_accepted x v w e f = go (too_wide x) refl (outside x) refl (sym e ∙ f)
  where
    go : (t : Bool) → too_wide x ≡ t → (u : Bool) → outside x ≡ u → pick t (Err TooWide) (pick u (Err Outside) (Ok (tt {0}))) ≡ Ok w → Accepted x
    go true p u q h = absurd (let z : ◌≡◌ {A = ℕ} 0 1 = cc in omega arith)
    go false p true q h = absurd (let z : ◌≡◌ {A = ℕ} 0 1 = cc in omega arith)
    go false p false q h = passes-accepted x p q

-- ---- as the code counts: k is how many bits are set

pub few_bits : (a k : ℕ) → a < 2 ^ 64 → k ≡ length (set_bits a) → k ≤ 64
few_bits a k h e = omega (arith, e ∙ set_bits_long a, ones-le 64 a h)

-- an alphabet above 64 is too wide
pub wide-alphabet : (x : Index) → 64 < x.alphabet → too_wide x ≡ true
wide-alphabet x h = lt-ltb 64 (shifted_alphabet_of x) (omega (arith, h, alphabet_least x.family x.alphabet (length (word_of x))))

-- not too wide, the alphabet itself is at most 64
pub narrow-alphabet : (x : Index) → too_wide x ≡ false → x.alphabet ≤ 64
narrow-alphabet x t =
    omega (
      arith,
      ltb-false 64 (shifted_alphabet_of x) t,
      alphabet_least x.family x.alphabet (length (word_of x)),
    )

-- ---- two records

pub both_verdict_accepted : (x y : Index) (v : Result Unit Refusal) (w : Unit {0}) → v ≡ verdict_of_both x y → v ≡ Ok w → Accepted x × Accepted y
both_verdict_accepted x y v w e f = go (too_wide x) refl (too_wide y) refl (outside x) refl (outside y) refl (sym e ∙ f)
  where
    go : (t : Bool) → too_wide x ≡ t → (t' : Bool) → too_wide y ≡ t' → (u : Bool) → outside x ≡ u → (u' : Bool) → outside y ≡ u'
        → pick t (Err TooWide) (pick t' (Err TooWide) (pick u (Err Outside) (pick u' (Err Outside) (Ok (tt {0}))))) ≡ Ok w
        → Accepted x × Accepted y
    go true p t' p' u q u' q' h = absurd (let z : ◌≡◌ {A = ℕ} 0 1 = cc in omega arith)
    go false p true p' u q u' q' h = absurd (let z : ◌≡◌ {A = ℕ} 0 1 = cc in omega arith)
    go false p false p' true q u' q' h = absurd (let z : ◌≡◌ {A = ℕ} 0 1 = cc in omega arith)
    go false p false p' false q true q' h = absurd (let z : ◌≡◌ {A = ℕ} 0 1 = cc in omega arith)
    go false p false p' false q false q' h = (passes-accepted x p q, passes-accepted y p' q')

pub both_gives : {A : Type 0} (x y : Index) (s : Says A) (v : A) → taken_both x y s ≡ gives v → Accepted x × Accepted y × (s ≡ gives v)
both_gives x y s v e =
    let a = passed (too_wide x) 1 (refused_if (too_wide y) 1 (refused_if (outside x) 7 (refused_if (outside y) 7 s))) v e in
    let b = passed (too_wide y) 1 (refused_if (outside x) 7 (refused_if (outside y) 7 s)) v a.1 in
    let c = passed (outside x) 7 (refused_if (outside y) 7 s) v b.1 in
    let d = passed (outside y) 7 s v c.1 in
    (passes-accepted x a.0 c.0, passes-accepted y b.0 d.0, d.1)
