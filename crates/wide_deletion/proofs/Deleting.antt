-- What a deletion has in hand is what it says, of a set of any width. Assumes nothing.
--   at-any    the symbol at a position, whatever stands for none
--   symbol_from    for Allowed the shift can be taken off
--   deleted_in    with the sign, the symbol and the closed digits, the answer is that of the deletion
--   none_there, as_gap, no_gap    the refusal, and both for the wide index
use mathlib.Core.Path.{◌≡◌, refl, sym, ap, ◌∙◌}
use mathlib.Core.Bool.{true, false}
use Prim.Native.Nat.{ℕ, ◌+◌, ◌-◌, ◌*◌, ◌/◌, ◌%◌, ◌^◌, ◌≤◌, ◌<◌}
use native.Mathlib.Omega.{arith}
use borrow.Author.Tests.{lt-leb, le-leb}
use lib.Dec.{leb}
use lib.ListN.{length, get_or}
use Rattle.words.specs.declared.Family.{Family}
use Rattle.words.specs.declared.Family.TheVariants.{Allowed}
use Rattle.words.specs.Word.{shift, shifted}
use Rattle.words.specs.Bits.{bits_of, set_bits}
use Rattle.words.specs.Without.{without}
use Rattle.words.proofs.Shifted.{unshifted_at}
use Rattle.answers.specs.declared.Sign.{Sign}
use Rattle.answers.specs.Says.{refuses, gives}
use Rattle.answers.specs.Signs.{sign_in}
use Rattle.packing.proofs.Symbols.{get_d_any, symbol-shift}
use Rattle.deletion.proofs.Without.{without_bits}
use Rattle.seam.specs.Joined.{joined}
use Rattle.widths.specs.Rules.{word_in, delete_in}
use Rattle.widths.proofs.Terms.{word_in_long}
use Rattle.wide.specs.declared.Wide.{Wide}
use Rattle.wide.specs.Answers.{whole_of}
use Rattle.wide.specs.Rules.{wide_delete_says}
use Rattle.wide.proofs.Terms.{wide_of_whole}

pub none_there : (F : Family) (a p : ℕ) → length (set_bits a) ≤ p → delete_in F a p ≡ refuses 7
none_there F a p h =
    let t : leb (length (word_in F a)) p ≡ true = le-leb (length (word_in F a)) p (omega (arith, word_in_long F a)) in
    simp t

pub symbol_from : (a p s : ℕ) → p < length (set_bits a) → s ≡ get_or (set_bits a) p 128 → p ≤ s
symbol_from a p s h e = symbol-shift (record { family = Allowed; alphabet = 0; bits = a }) p s p h (e ∙ get_d_any (set_bits a) p 128 64 h) refl

pub deleted_in : (F : Family) (a p k s y b : ℕ) (g : Sign) → p < length (set_bits a) → s ≡ get_or (set_bits a) p 128 → g ≡ sign_in F p → y ≡ s - shift F p → k + shift F 1 ≡ s + 1
    → b ≡ a / 2 ^ (s + 1) * 2 ^ k + a % 2 ^ s → delete_in F a p ≡ gives (record { sign = g; symbol = y; bits = b })
deleted_in F a p k s y b g h e q v w d =
    let t : leb (length (word_in F a)) p ≡ false = lt-leb (length (word_in F a)) p (omega (arith, word_in_long F a)) in
    let j : get_or (word_in F a) p 0 ≡ y = unshifted_at F (set_bits a) p h ∙ ap (λ (x : ℕ). x - shift F p) (sym (e ∙ get_d_any (set_bits a) p 128 0 h)) ∙ sym v in
    let c : bits_of (shifted F (without p (word_in F a))) ≡ b = sym (d ∙ without_bits F a p s k h (e ∙ get_d_any (set_bits a) p 128 64 h) w) in
    simp (t, j, c, sym q)

pub as_gap : (x : Wide) (F : Family) (p k s y l u : ℕ) (g : Sign) → x.family ≡ F → l < 2 ^ 64 → p < length (set_bits (whole_of x)) → s ≡ get_or (set_bits (whole_of x)) p 128 → g ≡ sign_in F p
    → y ≡ s - shift F p → k + shift F 1 ≡ s + 1 → joined 64 l u ≡ whole_of x / 2 ^ (s + 1) * 2 ^ k + whole_of x % 2 ^ s
    → gives (record { sign = g; symbol = y; index = record { family = x.family; low = l; high = u } }) ≡ wide_delete_says x p
as_gap x F p k s y l u g f m h e q v w d =
    let r : delete_in x.family (whole_of x) p ≡ gives (record { sign = g; symbol = y; bits = joined 64 l u }) =
    ap (λ (G : Family). delete_in G (whole_of x) p) f ∙ deleted_in F (whole_of x) p k s y (joined 64 l u) g h e q v w d in
    ap (λ (z : Wide). gives (record { sign = g; symbol = y; index = z })) (wide_of_whole x.family l u (joined 64 l u) m refl) ∙ sym (simp r)

pub no_gap : (x : Wide) (p : ℕ) → length (set_bits (whole_of x)) ≤ p → refuses 7 ≡ wide_delete_says x p
no_gap x p h = sym (simp (none_there x.family (whole_of x) p h))
