-- The set of a rank by the numbers below n that it has not. Assumes nothing.
--   enough    a set of k numbers below n that has a rank has no more than n
--   mirrored    the others have a rank too: that of the set, counted from the end
--   others_value    the set and the others are all the numbers below n
use mathlib.Core.Path.{◌≡◌, sym, ap, subst, ◌∙◌}
use Prim.Native.Nat.{ℕ, suc, ◌+◌, ◌-◌, ◌^◌, ◌≤◌, ◌<◌}
use native.Mathlib.Omega.{arith}
use lib.Count.{ones}
use lib.ListN.{length}
use Rattle.words.specs.declared.Family.TheVariants.{Forbidden}
use Rattle.pascal.specs.Choose.{choose}
use Rattle.pascal.specs.Row.{entry}
use Rattle.words.specs.Word.{Word}
use Rattle.words.specs.Rank.{rank_of}
use Rattle.words.specs.Unrank.{unrank_of}
use Rattle.words.specs.Bits.{set_bits, bits_of}
use Rattle.pascal.proofs.Choose.{choose-enough}
use Rattle.pascal.proofs.Row.{entry_is_choose, entry-mirror}
use Rattle.words.proofs.Unrank.{unrank_is_a_word, rank_of_unrank, unrank_of_rank}
use Rattle.words.proofs.Bits.{bits_of_set, set_of_bits, set-bits-monotone, set_bits_long}
use Rattle.words.proofs.Complement.{ones_of_complement, complement_reverses_rank}
use Rattle.halving.specs.Search.{value}
use Rattle.halving.proofs.Search.{value_fits}

pub enough : (n k r : ℕ) → r < entry n k → k ≤ n
enough n k r h = choose-enough n k (omega (arith, entry_is_choose n k))

pub mirrored : (n k r c : ℕ) → r < entry n k → c ≡ entry n k → c - 1 - r < entry n (n - k)
mirrored n k r c h e = omega (arith, entry-mirror n k (enough n k r h))

-- a set of a rank below the count, as bits
record Ranked (n k r : ℕ) : Type 0 where
  small : value k r < 2 ^ n
  many : ones (value k r) ≡ k
  rank : rank_of Forbidden (set_bits (value k r)) ≡ r

ranked : (n k r : ℕ) → r < choose n k → Ranked n k r
ranked n k r h =
    let w : Word Forbidden n k (unrank_of Forbidden k r) = unrank_is_a_word Forbidden n k r h in
    let s : set_bits (value k r) ≡ unrank_of Forbidden k r = set_of_bits (unrank_of Forbidden k r) w.monotone in
    record {
      small = value_fits n k r h;
      many = sym (set_bits_long (value k r)) ∙ ap length s ∙ w.long;
      rank = ap (rank_of Forbidden) s ∙ rank_of_unrank Forbidden n k r h;
    }

-- a set is that of its rank
by_rank : (a k r : ℕ) → ones a ≡ k → rank_of Forbidden (set_bits a) ≡ r → value k r ≡ a
by_rank a k r e f = subst (λ (j : ℕ). value j r ≡ a) (set_bits_long a ∙ e) (subst (λ (q : ℕ). value (length (set_bits a)) q ≡ a) f at-rank)
  where
    at-rank : value (length (set_bits a)) (rank_of Forbidden (set_bits a)) ≡ a
    at-rank = ap bits_of (unrank_of_rank Forbidden (set_bits a) (set-bits-monotone a)) ∙ bits_of_set a

pub others_value : (n k r c m : ℕ) → r < entry n k → c ≡ entry n k → suc m ≡ 2 ^ n
    → (value (n - k) (c - 1 - r) ≤ m) × (m - value (n - k) (c - 1 - r) ≡ value k r)
others_value n k r c m h e f =
    let l : k ≤ n = enough n k r h in
    let q : ℕ = c - 1 - r in
    let p : q < choose n (n - k) = omega (arith, mirrored n k r c h e, entry_is_choose n (n - k)) in
    let o : Ranked n (n - k) q = ranked n (n - k) q p in
    let b : ℕ = value (n - k) q in
    let x : choose n (ones b) ≡ c = ap (choose n) o.many ∙ sym (entry_is_choose n (n - k)) ∙ entry-mirror n k l ∙ sym e in
    let y : ones (2 ^ n - 1 - b) ≡ k = omega (arith, ones_of_complement n b o.small, o.many) in
    let z : rank_of Forbidden (set_bits (2 ^ n - 1 - b)) ≡ r = omega (arith, complement_reverses_rank n b o.small, x, o.rank) in
    (omega (arith, o.small), omega (arith, by_rank (2 ^ n - 1 - b) k r y z))
