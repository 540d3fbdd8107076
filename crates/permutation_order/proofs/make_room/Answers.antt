-- `permutation_order::make_room` meets its contract: the places passed hold the raised entries. Assumes nothing.
use mathlib.Core.Path.{◌≡◌, refl, sym, ap, subst, ◌∙◌}
use mathlib.Core.List.{List}
use Prim.Native.Nat.{ℕ, zero, suc, ◌+◌}
use native.Mathlib.Nat.{le_refl}
use native.Mathlib.Numerals.{add-one}
use native.Mathlib.Omega.{arith}
use lib.ListN.{length, get_or, replicate}
use Rattle.arrangements.specs.Rank.{raise, lastly}
use Rattle.arrangements.proofs.Unrank.{lastly_at, lastly_end, lastly_long}
use Rattle.answers.proofs.Lent.{Filled, fill_more}
use Rattle.permutation.specs.Record.{capacity, empty_entries, arrangement_of, GoodRecord}
use Rattle.permutation.proofs.Taken.{word_at, holds_below}
use Rattle.permutation.proofs.Filled.{at, filled_record}
use Rattle.permutation_order.specs.Rules.{held}
use Rattle.permutation_order.proofs.make_room.Goals as goal

zero_there : (m k : ℕ) → ◌≡◌ {A = ℕ} (get_or (replicate m 0) k 0) 0
zero_there zero k = refl
zero_there (suc m) zero = refl
zero_there (suc m) (suc k) = zero_there m k

-- past the entries of a good record stand zeros
rebased : (f : ℕ → ℕ) (e out : List ℕ) (n : ℕ) → GoodRecord (held e n) → length e ≡ capacity → Filled f e out (n + 1) → Filled f empty_entries out (n + 1)
rebased f e out n g l o = record { long = o.long ∙ l; done = o.done; rest = λ k h. o.rest k h ∙ g.past k (omega arith) ∙ sym (zero_there capacity k) }

pub raised-requires : goal.raised-requires
raised-requires c =
    omega (arith, c.requires.2, c.loop-i.invariant.rest c.loop-i.i (le_refl c.loop-i.i), holds_below (held c.args.entries.now c.args.n) c.requires.0 c.loop-i.i c.loop-i-test.true)

pub loop-i-preserved : goal.loop-i-preserved
loop-i-preserved c =
    let p = held c.args.entries.now c.args.n in
    fill_more (at (lastly c.args.d (arrangement_of p))) c.args.entries.now c.loop-i.entries c.loop-i.i _ (omega (arith, c.requires.1, c.requires.2, c.loop-i-test.true))
    (c.raised.ensures ∙ ap (raise c.args.d) (c.loop-i.invariant.rest c.loop-i.i (le_refl c.loop-i.i) ∙ sym (word_at p c.loop-i.i c.loop-i-test.true))
    ∙ sym (lastly_at c.args.d (arrangement_of p) c.loop-i.i (omega (arith, c.loop-i-test.true, c.requires.0.permutation.long))))
    c.loop-i.invariant

pub returns : goal.returns
returns c =
    let n : ℕ = c.args.n in
    let w : List ℕ = arrangement_of (held c.args.entries.now n) in
    let i : c.loop-i.i ≡ n = omega arith in
    filled_record (lastly c.args.d w) _ (n + 1) (n + 1)
    (rebased (at (lastly c.args.d w)) c.args.entries.now _ n c.requires.0 c.requires.1
    (fill_more (at (lastly c.args.d w)) c.args.entries.now c.loop-i.entries n c.args.d (omega (arith, c.requires.1, c.requires.2))
    (sym (lastly_end c.args.d w n (sym c.requires.0.permutation.long))) (subst (Filled (at (lastly c.args.d w)) c.args.entries.now c.loop-i.entries) i c.loop-i.invariant)))
    refl (lastly_long c.args.d w ∙ ap suc c.requires.0.permutation.long ∙ sym (add-one n)) (omega (arith, c.requires.2))
