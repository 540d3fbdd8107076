-- What a step of the walk needs, and gives. Assumes nothing.
--   small, all_small    a binomial up to row 64 is below 2^61, and so is the number of sets, so that four of them fit 64 digits together
--   Steps a k m bits later x t    with m how many sets there are, x the lowest number of the set and t those that follow it without a gap
--   some, steps    so it is of a set that is not the last, which is not empty
use mathlib.Core.Path.{◌≡◌, refl, sym, ap, subst, ◌∙◌}
use mathlib.Core.List.{List, [], ◌∷◌}
use Prim.Native.Nat.{ℕ, suc, ◌+◌, ◌-◌, ◌^◌, ◌≤◌, ◌<◌}
use native.Mathlib.Omega.{arith}
use lib.Pow.{pow_pos}
use lib.ListN.{length, get_or}
use Rattle.pascal.specs.Choose.{choose}
use Rattle.pascal.specs.Row.{entry}
use Rattle.pascal.proofs.Choose.{choose_none}
use Rattle.pascal.proofs.Row.{entry_is_choose, choose_fits}
use Rattle.words.specs.declared.Family.TheVariants.{Forbidden}
use Rattle.words.specs.Word.{Word}
use Rattle.words.specs.Rank.{rank_of}
use Rattle.words.specs.Next.{next}
use Rattle.words.specs.Bits.{bits_of, set_bits}
use Rattle.words.proofs.Next.{next_is_a_word}
use Rattle.words.proofs.Bits.{bits_of_set}
use Rattle.lexicographic.specs.Later.{later_words, run}
use Rattle.lexicographic.proofs.Following.{run_short, next_later, single-later, raised_below, later_below}
use Rattle.following.specs.Stands.{Stands}

choose-small : (n k : ℕ) → n ≤ 64 → choose n k < 2 ^ 61
choose-small = choose_fits 61 64 tt

pub small : (n k : ℕ) → n ≤ 64 → entry n k < 2 ^ 61
small n k h = omega (arith, entry_is_choose n k, choose-small n k h)

-- so is their number
pub all_small : (a k m bits later : ℕ) → Stands a k m bits later → m < 2 ^ 61
all_small a k m bits later s = omega (arith, s.all, choose-small a k s.narrow)

pub record Steps (a k m bits later x t : ℕ) : Type 0 where
  pub low : suc (x + t) < a
  pub short : suc t ≤ k
  pub fits : later < 2 ^ 61
  pub single : t ≡ 0 → later_words Forbidden a (next Forbidden (set_bits bits)) + entry (a - 2 - x) (k - 1) ≡ later
  pub several : later_words Forbidden a (next Forbidden (set_bits bits)) + entry (a - x) k + entry (a - t) (k - t)
      ≡ later + entry (a - 1 - (x + t)) (k - 1 - t) + m + entry (a - 2 - (x + t)) (k - t)

pub some : (a k m bits later : ℕ) → Stands a k m bits later → 0 < bits
unfolding bits_of
some a k m bits later s = go (set_bits bits) refl
  where
    go : (w : List ℕ) → set_bits bits ≡ w → 0 < bits
    go [] q = absurd (omega (arith, s.more, ap (choose a) (sym s.word.long ∙ ap length q), choose_none a))
    go (y ∷ ys) q = omega (arith, bits_of_set bits, ap bits_of q, pow_pos y)

pub steps : (a k m bits later x t : ℕ) → Stands a k m bits later → x ≡ get_or (set_bits bits) 0 64 → t ≡ run (set_bits bits) → Steps a k m bits later x t
steps a k m bits later x t s e f = go (set_bits bits) refl
  where
    go : (w : List ℕ) → set_bits bits ≡ w → Steps a k m bits later x t
    go [] q = absurd (omega (arith, s.more, ap (choose a) (sym s.word.long ∙ ap length q), choose_none a))
    go (y ∷ ys) q =
        let w : Word Forbidden a k (y ∷ ys) = subst (Word Forbidden a k) q s.word in
        let z : x ≡ y = e ∙ ap (λ (v : List ℕ). get_or v 0 64) q in
        let g : t ≡ run (y ∷ ys) = f ∙ ap run q in
        let v : Word Forbidden a k (next Forbidden (y ∷ ys)) = next_is_a_word Forbidden a k (y ∷ ys) (omega (arith, w.long)) w (omega (arith, s.more, ap (rank_of Forbidden) q)) in
        let l : suc (y + run (y ∷ ys)) < a = raised_below a 0 y ys w.monotone v.below in
        let c : later ≡ later_words Forbidden a (y ∷ ys) = s.count ∙ ap (later_words Forbidden a) q in
        let n : later_words Forbidden a (next Forbidden (set_bits bits)) ≡ later_words Forbidden a (next Forbidden (y ∷ ys)) = ap (λ (u : List ℕ). later_words Forbidden a (next Forbidden u)) q in
        record {
          low = omega (arith, l, z, g);
          short = omega (arith, run_short y ys, w.long, g);
          fits = omega (arith, c, later_below a k (y ∷ ys) w, choose-small a k s.narrow);
          single = λ h.
              omega (
                arith,
                single-later a k y ys w (sym g ∙ h) (omega (arith, l)),
                n,
                c,
                entry_is_choose (a - 2 - x) (k - 1),
                ap (λ (i : ℕ). choose (a - 2 - i) (k - 1)) z,
              );
          several = omega (
            arith,
            next_later a k y ys t (x + t) w g (omega (arith, z)),
            n,
            c,
            entry_is_choose (a - x) k,
            ap (λ (i : ℕ). choose (a - i) k) z,
            entry_is_choose (a - t) (k - t),
            entry_is_choose (a - 1 - (x + t)) (k - 1 - t),
            s.all,
            entry_is_choose (a - 2 - (x + t)) (k - t),
          );
        }
