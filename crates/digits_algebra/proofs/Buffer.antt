-- A call that writes the symbols of its word into a buffer of 64 places first. Assumes nothing.
--   unspelt    where that is refused, the checks of the word refuse so
--   Spelt x k word    the word passes its checks, and its symbols stand in the first k places of the buffer
--   spelt    what writing them tells
use mathlib.Core.Path.{◌≡◌, refl, sym, ap, ◌∙◌}
use mathlib.Core.List.{List, ◌++◌}
use Prim.Native.Nat.{ℕ, ◌≤◌}
use native.Mathlib.Omega.{arith}
use lib.ListN.{length, take, drop, length-append}
use lib.Seq.{take_at}
use Rattle.answers.specs.Says.{Says, refuses_with, gives, places_of, after}
use Rattle.answers.proofs.Says.{gives_same, gives_never}
use Rattle.digits.specs.declared.DigitWord.{DigitWord}
use Rattle.digits.specs.Rules.{symbols_of, check_says, symbols_says}
use Rattle.digits.proofs.Rules.{known, given_refused, symbols_given}

pub record Spelt (x : DigitWord) (k : ℕ) (word : List ℕ) : Type 0 where
  pub count : ℕ
  pub checks : gives count ≡ check_says x
  pub front : take k word ≡ symbols_of x
  pub within : k ≤ length word

-- whatever the checks say
by_checks : (x : DigitWord) (P : Type 0) → ((d : ℕ) (c : List ℕ) → refuses_with d c ≡ check_says x → symbols_says x 64 ≡ refuses_with d c → P)
    → ((c : ℕ) → gives c ≡ check_says x → symbols_says x 64 ≡ gives (symbols_of x) → P) → P
by_checks x P stop pass = go (check_says x) refl
  where
    go : (s : Says ℕ) → check_says x ≡ s → P
    go (refuses_with d c) e = stop d c (sym e) (given_refused x d c _ (sym e))
    go (gives c) e = pass c (sym e) (symbols_given x c 64 (sym e) (known x c (sym e)).short)

pub unspelt : (x : DigitWord) (e : ℕ) (f : List ℕ) → refuses_with e f ≡ places_of (symbols_says x 64) → refuses_with e f ≡ check_says x
unspelt x e f p =
    by_checks x (refuses_with e f ≡ check_says x)
    (λ d c q s. p ∙ ap places_of s ∙ q)
    (λ c q s. absurd (gives_never (length (symbols_of x)) e f (sym (p ∙ ap places_of s))))

pub spelt : (x : DigitWord) (k : ℕ) (base word : List ℕ) → gives k ≡ places_of (symbols_says x 64) → word ≡ after (symbols_says x 64) base → Spelt x k word
spelt x k base word p o =
    by_checks x (Spelt x k word)
    (λ d c q s. absurd (gives_never k d c (p ∙ ap places_of s)))
    (λ c q s.
    let l : k ≡ length (symbols_of x) = gives_same k (length (symbols_of x)) (p ∙ ap places_of s) in
    let w : word ≡ symbols_of x ++ drop (length (symbols_of x)) base = o ∙ ap (λ t. after t base) s in
    record {
      count = c;
      checks = q;
      front = ap (take k) w ∙ take_at (symbols_of x) (drop (length (symbols_of x)) base) k (sym l);
      within = omega (arith, l, ap length w ∙ length-append (symbols_of x) (drop (length (symbols_of x)) base));
    })
