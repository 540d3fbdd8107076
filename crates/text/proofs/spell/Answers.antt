-- `text::spell` meets its contract. The invariant: the places from i on hold the last digits of n, rest is what the digits before them write, and there is room for those.
-- Assumes nothing.
use mathlib.Core.Path.{◌≡◌, sym, ap, subst, ◌∙◌}
use mathlib.Core.List.{List, ◌∷◌}
use Prim.Native.Nat.{ℕ, suc, ◌+◌, ◌-◌, ◌/◌, ◌%◌, ◌^◌, ◌<◌}
use native.Mathlib.Omega.{arith}
use lib.ListN.{length, drop, set, length-set, drop_of_length-le}
use Rattle.text.proofs.Value.{Spelled, spelled_first, spelled_more, spelled_all, room_for_digit, set_front}
use Rattle.text.proofs.spell.Goals as goal

-- the last digit stands at the last place
last_digit : (text : List ℕ) (n : ℕ) → length text ≡ 20 → Spelled (n / 10) (drop 19 (set text 19 (48 + n % 10))) n
last_digit text n e =
    subst (λ (t : List ℕ). Spelled (n / 10) t n)
    (sym (set_front text 19 (48 + n % 10) (omega arith) ∙ ap (λ (t : List ℕ). (48 + n % 10) ∷ t) (drop_of_length-le text {i = 20} (omega arith))))
    (spelled_first n)

-- one more digit stands in front of the others
next_digit : (text : List ℕ) (i rest n : ℕ) → length text ≡ 20 → 0 < i → i < 20 → 0 < rest → Spelled rest (drop i text) n
    → Spelled (rest / 10) (drop (i - 1) (set text (i - 1) (48 + rest % 10))) n
next_digit text i rest n e p h q o =
    let s : suc (i - 1) ≡ i = omega arith in
    subst (λ (t : List ℕ). Spelled (rest / 10) t n)
    (sym (set_front text (i - 1) (48 + rest % 10) (omega arith) ∙ ap (λ (k : ℕ). (48 + rest % 10) ∷ drop k text) s))
    (spelled_more rest (drop i text) n q o)

pub loop-i-init : goal.loop-i-init
loop-i-init c = (omega arith, last_digit c.args.text.now _ c.requires)

pub returns-then-rest-eq0 : goal.returns-then-rest-eq0
returns-then-rest-eq0 c =
    let s : c.loop-i.i - 1 + 1 ≡ c.loop-i.i = omega arith in
    rw s (omega arith, spelled_all _ _ _ c.if-rest-eq0.true c.loop-i.invariant.1)

pub loop-i-preserved : goal.loop-i-preserved
loop-i-preserved c =
    let long : length c.loop-i.text ≡ 20 = c.loop-i.auto.text ∙ simp length-set c.requires in (
      room_for_digit _ _ (omega arith) c.loop-i.invariant.0,
      next_digit _ _ _ _ long (omega arith) (omega arith) (omega arith) c.loop-i.invariant.1,
    )

pub returns : goal.returns
returns c =
    let first : c.loop-i.i ≡ 0 = omega arith in
    let none : c.loop-i.rest ≡ 0 = let room = subst (λ (k : ℕ). c.loop-i.rest < 10 ^ k) first c.loop-i.invariant.0 in omega arith in
    (omega arith, spelled_all _ _ _ none (subst (λ (k : ℕ). Spelled c.loop-i.rest (drop k c.loop-i.text) c.args.n) first c.loop-i.invariant.1))
