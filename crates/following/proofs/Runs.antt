-- The loop that counts the lowest run of a set. Assumes nothing.
--   Runs bits left top t    t numbers after the lowest one are counted, the last of them is top, and left are those above it
--   runs_start    before the first
--   Turn bits left top t s    what the lowest number s of left brings: the run ends, or goes on
--   runs_turn, runs_end    so it is; and the run ends where nothing is left
--   runs_few    and 64 numbers do not follow the lowest one
use mathlib.Core.Path.{◌≡◌, refl, sym, ap, subst, ◌∙◌}
use mathlib.Core.Bool.{Bool, true, false}
use mathlib.Core.List.{List, [], ◌∷◌}
use Prim.Native.Nat.{ℕ, suc, ◌+◌, ◌^◌, ◌≤◌, ◌<◌}
use native.Mathlib.Omega.{arith}
use borrow.Author.Tests.{lt-ltb, le-ltb}
use lib.Dec.{ltb}
use lib.ListN.{length, get_or, drop}
use Rattle.words.specs.declared.Family.TheVariants.{Forbidden}
use Rattle.words.specs.Pick.{pick}
use Rattle.words.specs.Word.{Monotone, Below}
use Rattle.words.specs.Bits.{bits_of, set_bits}
use Rattle.words.proofs.Bits.{below_of_bits, set-bits-monotone, bits_of_set}
use Rattle.words.proofs.Digits.{set-bits-zero}
use Rattle.lexicographic.specs.Later.{run}

pub record Runs (bits left top t : ℕ) : Type 0 where
  pub all : t + run (top ∷ set_bits left) ≡ run (set_bits bits)
  pub monotone : Monotone Forbidden (top ∷ set_bits left)
  pub low : Below 64 (top ∷ set_bits left)
  pub few : t ≤ top

no_set : (a : ℕ) → set_bits a ≡ [] → a ≡ 0
unfolding bits_of
no_set a q = sym (bits_of_set a) ∙ ap bits_of q

pub runs_start : (bits left top : ℕ) → 0 < bits → bits < 2 ^ 64 → set_bits left ≡ drop 1 (set_bits bits) → top ≡ get_or (set_bits bits) 0 64 → Runs bits left top 0
runs_start bits left top p h e f = go (set_bits bits) refl
  where
    go : (w : List ℕ) → set_bits bits ≡ w → Runs bits left top 0
    go [] q = absurd (omega (arith, no_set bits q))
    go (y ∷ ys) q =
        let z : top ≡ y = f ∙ ap (λ (v : List ℕ). get_or v 0 64) q in
        let s : top ∷ set_bits left ≡ set_bits bits = ap (λ (m : ℕ). m ∷ set_bits left) z ∙ ap (λ (v : List ℕ). y ∷ v) (e ∙ ap (drop 1) q) ∙ sym q in
        record {
          all = omega (arith, ap run s);
          monotone = subst (Monotone Forbidden) (sym s) (set-bits-monotone bits);
          low = subst (Below 64) (sym s) (below_of_bits 64 (set_bits bits) (subst (λ (m : ℕ). m < 2 ^ 64) (sym (bits_of_set bits)) h));
          few = omega arith;
        }

pub record Turn (bits left top t s : ℕ) : Type 0 where
  pub low : suc top < 64
  pub stops : (s ≡ top + 1 → ⊥) → t ≡ run (set_bits bits)
  pub again : s ≡ top + 1 → (m : ℕ) → set_bits m ≡ drop 1 (set_bits left) → Runs bits m (top + 1) (t + 1)
  pub less : (m : ℕ) → set_bits m ≡ drop 1 (set_bits left) → length (set_bits m) + 1 ≡ length (set_bits left)

pub runs_turn : (bits left top t s : ℕ) → Runs bits left top t → (left ≡ 0 → ⊥) → s ≡ get_or (set_bits left) 0 64 → Turn bits left top t s
unfolding run
runs_turn bits left top t s r n e = go (set_bits left) refl
  where
    go : (w : List ℕ) → set_bits left ≡ w → Turn bits left top t s
    go [] q = absurd (n (no_set left q))
    go (y ∷ ys) q =
        let z : s ≡ y = e ∙ ap (λ (v : List ℕ). get_or v 0 64) q in
        let m : Monotone Forbidden (top ∷ y ∷ ys) = subst (λ (v : List ℕ). Monotone Forbidden (top ∷ v)) q r.monotone in
        let b : Below 64 (top ∷ y ∷ ys) = subst (λ (v : List ℕ). Below 64 (top ∷ v)) q r.low in
        let a : t + pick (ltb (suc top) y) 0 (suc (run (y ∷ ys))) ≡ run (set_bits bits) = subst (λ (v : List ℕ). t + run (top ∷ v) ≡ run (set_bits bits)) q r.all in
        record {
          low = omega (arith, m.0, b.1.0);
          stops = λ d. stop a (lt-ltb (suc top) y (omega (arith, m.0, d, z)));
          again = λ d k f.
              let x : y ≡ top + 1 = sym z ∙ d in
              let u : set_bits k ≡ ys = f ∙ ap (drop 1) q in
              let v : y ∷ ys ≡ (top + 1) ∷ set_bits k = ap (λ (j : ℕ). j ∷ ys) x ∙ ap (λ (l : List ℕ). (top + 1) ∷ l) (sym u) in
              record {
                all = on a (le-ltb (suc top) y (omega (arith, x))) (ap run (sym v));
                monotone = subst (Monotone Forbidden) v m.1;
                low = subst (Below 64) v b.1;
                few = omega (arith, r.few);
              };
          less = λ k f. omega (arith, ap length q, ap length (f ∙ ap (drop 1) q));
        }
      where
        stop : t + pick (ltb (suc top) y) 0 (suc (run (y ∷ ys))) ≡ run (set_bits bits) → ltb (suc top) y ≡ true → t ≡ run (set_bits bits)
        stop a f = omega (arith, a, ap (λ (x : Bool). pick x 0 (suc (run (y ∷ ys)))) f)

        on : t + pick (ltb (suc top) y) 0 (suc (run (y ∷ ys))) ≡ run (set_bits bits) → ltb (suc top) y ≡ false → {j : ℕ} → j ≡ run (y ∷ ys) → t + 1 + j ≡ run (set_bits bits)
        on a f g = omega (arith, a, g, ap (λ (x : Bool). pick x 0 (suc (run (y ∷ ys)))) f)

pub runs_end : (bits left top t : ℕ) → Runs bits left top t → left ≡ 0 → t ≡ run (set_bits bits)
unfolding run
runs_end bits left top t r z = omega (arith, r.all, ap (λ (v : List ℕ). run (top ∷ v)) (ap set_bits z ∙ set-bits-zero))

pub runs_few : (bits left top t : ℕ) → Runs bits left top t → 64 ≤ t → ⊥
runs_few bits left top t r h = omega (arith, h, r.few, r.low.0)
