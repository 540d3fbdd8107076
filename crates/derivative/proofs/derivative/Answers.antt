-- `derivative::derivative` meets its contract: each return by the checks that led there. Assumes nothing.
use mathlib.Core.Path.{◌≡◌, refl, sym, ap, subst, ◌∙◌}
use mathlib.Core.Bool.{true, false}
use mathlib.Core.List.{◌++◌}
use Prim.Native.Nat.{ℕ, ◌-◌}
use native.Mathlib.Omega.{arith}
use borrow.Author.Tests.{lt-ltb, le-ltb, le-leb, lt-leb, eq-eqb, ne_eqb}
use lib.Dec.{leb, ltb, eqb}
use lib.ListN.{length, drop}
use Rattle.words.specs.declared.Family.TheVariants.{Allowed}
use Rattle.words.specs.Word.{shifted_alphabet, count}
use Rattle.answers.specs.Says.{gives}
use Rattle.derivatives.specs.Derivative.{entries_of}
use Rattle.derivatives.proofs.Whole.{entries_long}
use Rattle.derivative.specs.Rules.{entry_at, all_inside}
use Rattle.derivative.proofs.Passes.{Narrow, narrow, can_derive}
use Rattle.derivative.proofs.derivative.Goals as goal

pub returns-then-k-gt64 : goal.returns-then-k-gt64
returns-then-k-gt64 c = simp (lt-ltb _ _ c.if-k-gt64.true) record { says = refl; holds = refl }

pub too_wide-requires : goal.too_wide-requires
too_wide-requires c = omega (arith, c.if-k-gt64.false)

pub returns-then-too_wide : goal.returns-then-too_wide
returns-then-too_wide c =
    let k : ltb 64 c.args.k ≡ false = le-ltb _ _ c.if-k-gt64.false in
    let w : ltb 64 (shifted_alphabet Allowed c.args.n c.args.k) ≡ true = sym c.too_wide.ensures ∙ c.if-too_wide.true in
    simp (k, w) record { says = refl; holds = refl }

pub returns-then-k-eq0 : goal.returns-then-k-eq0
returns-then-k-eq0 c =
    let k : ltb 64 c.args.k ≡ false = le-ltb _ _ c.if-k-gt64.false in
    let w : ltb 64 (shifted_alphabet Allowed c.args.n c.args.k) ≡ false = sym c.too_wide.ensures ∙ c.if-too_wide.false in
    let z : eqb c.args.k 0 ≡ true = eq-eqb _ _ c.if-k-eq0.true in
    simp (k, w, z) record { says = refl; holds = refl }

pub returns-then-n-s : goal.returns-then-n-s
returns-then-n-s c =
    let k : ltb 64 c.args.k ≡ false = le-ltb _ _ c.if-k-gt64.false in
    let w : ltb 64 (shifted_alphabet Allowed c.args.n c.args.k) ≡ false = sym c.too_wide.ensures ∙ c.if-too_wide.false in
    let z : eqb c.args.k 0 ≡ false = ne_eqb _ _ c.if-k-eq0.false in
    let l : leb c.args.n c.args.s ≡ true = le-leb _ _ c.if-n-s.true in
    simp (k, w, z, l) record { says = refl; holds = refl }

pub size-want-requires : goal.size-want-requires
size-want-requires c =
    let w : Narrow c.args.n c.args.k = narrow c.args.n c.args.k (omega (arith, c.if-k-gt64.false)) (omega (arith, c.if-k-eq0.false)) (sym c.too_wide.ensures ∙ c.if-too_wide.false) in
    (w.table, w.alphabet, omega (arith, c.if-k-gt64.false))

pub returns-then-have-want : goal.returns-then-have-want
returns-then-have-want c =
    let k : ltb 64 c.args.k ≡ false = le-ltb _ _ c.if-k-gt64.false in
    let w : ltb 64 (shifted_alphabet Allowed c.args.n c.args.k) ≡ false = sym c.too_wide.ensures ∙ c.if-too_wide.false in
    let z : eqb c.args.k 0 ≡ false = ne_eqb _ _ c.if-k-eq0.false in
    let l : leb c.args.n c.args.s ≡ false = lt-leb _ _ c.if-n-s.false in
    let t : eqb (length c.args.table.now) (count Allowed c.args.n c.args.k) ≡ false = subst (λ (x : ℕ). eqb (length c.args.table.now) x ≡ false) c.size-want.ensures (ne_eqb _ _ c.if-have-want.true) in
    simp (k, w, z, l, t) record { says = refl; holds = refl }

pub size-m-requires : goal.size-m-requires
size-m-requires c =
    let w : Narrow c.args.n c.args.k = narrow c.args.n c.args.k (omega (arith, c.if-k-gt64.false)) (omega (arith, c.if-k-eq0.false)) (sym c.too_wide.ensures ∙ c.if-too_wide.false) in
    (omega (arith, w.result), w.alphabet, omega (arith, c.if-k-gt64.false))

pub returns-then-out-m : goal.returns-then-out-m
returns-then-out-m c =
    let k : ltb 64 c.args.k ≡ false = le-ltb _ _ c.if-k-gt64.false in
    let w : ltb 64 (shifted_alphabet Allowed c.args.n c.args.k) ≡ false = sym c.too_wide.ensures ∙ c.if-too_wide.false in
    let z : eqb c.args.k 0 ≡ false = ne_eqb _ _ c.if-k-eq0.false in
    let l : leb c.args.n c.args.s ≡ false = lt-leb _ _ c.if-n-s.false in
    let t : eqb (length c.args.table.now) (count Allowed c.args.n c.args.k) ≡ true = eq-eqb _ _ (c.if-have-want.false ∙ c.size-want.ensures) in
    let o : ltb (length c.args.out.now) (count Allowed c.args.n (c.args.k - 1)) ≡ true = subst (λ (x : ℕ). ltb (length c.args.out.now) x ≡ true) c.size-m.ensures (lt-ltb _ _ c.if-out-m.true) in
    simp (k, w, z, l, t, o) record { says = refl; holds = refl }

pub judge-requires : goal.judge-requires
judge-requires c = can_derive c.args.n c.args.k c.args.s c.size-m.result c.args.table.now (narrow c.args.n c.args.k (omega (arith, c.if-k-gt64.false)) (omega (arith, c.if-k-eq0.false)) (sym c.too_wide.ensures ∙ c.if-too_wide.false)) (omega (arith, c.if-k-eq0.false)) (omega (arith, c.if-n-s.false)) (c.if-have-want.false ∙ c.size-want.ensures) c.size-m.ensures

pub returns-then-not-judge : goal.returns-then-not-judge
returns-then-not-judge c =
    let k : ltb 64 c.args.k ≡ false = le-ltb _ _ c.if-k-gt64.false in
    let w : ltb 64 (shifted_alphabet Allowed c.args.n c.args.k) ≡ false = sym c.too_wide.ensures ∙ c.if-too_wide.false in
    let z : eqb c.args.k 0 ≡ false = ne_eqb _ _ c.if-k-eq0.false in
    let l : leb c.args.n c.args.s ≡ false = lt-leb _ _ c.if-n-s.false in
    let t : eqb (length c.args.table.now) (count Allowed c.args.n c.args.k) ≡ true = eq-eqb _ _ (c.if-have-want.false ∙ c.size-want.ensures) in
    let o : ltb (length c.args.out.now) (count Allowed c.args.n (c.args.k - 1)) ≡ false = subst (λ (x : ℕ). ltb (length c.args.out.now) x ≡ false) c.size-m.ensures (le-ltb _ _ c.if-out-m.false) in
    let j : all_inside (entry_at (c.args.k - 1) c.args.s c.args.table.now) (count Allowed c.args.n (c.args.k - 1)) ≡ false = ap (all_inside (entry_at (c.args.k - 1) c.args.s c.args.table.now)) (sym c.size-m.ensures) ∙ sym c.judge.ensures ∙ c.if-not-judge.true in
    simp (k, w, z, l, t, o, j) record { says = refl; holds = refl }

pub write-requires : goal.write-requires
write-requires c = (can_derive c.args.n c.args.k c.args.s c.size-m.result c.args.table.now (narrow c.args.n c.args.k (omega (arith, c.if-k-gt64.false)) (omega (arith, c.if-k-eq0.false)) (sym c.too_wide.ensures ∙ c.if-too_wide.false)) (omega (arith, c.if-k-eq0.false)) (omega (arith, c.if-n-s.false)) (c.if-have-want.false ∙ c.size-want.ensures) c.size-m.ensures, sym c.judge.ensures ∙ c.if-not-judge.false, c.if-out-m.false)

pub returns : goal.returns
returns c =
    let k : ltb 64 c.args.k ≡ false = le-ltb _ _ c.if-k-gt64.false in
    let w : ltb 64 (shifted_alphabet Allowed c.args.n c.args.k) ≡ false = sym c.too_wide.ensures ∙ c.if-too_wide.false in
    let z : eqb c.args.k 0 ≡ false = ne_eqb _ _ c.if-k-eq0.false in
    let l : leb c.args.n c.args.s ≡ false = lt-leb _ _ c.if-n-s.false in
    let t : eqb (length c.args.table.now) (count Allowed c.args.n c.args.k) ≡ true = eq-eqb _ _ (c.if-have-want.false ∙ c.size-want.ensures) in
    let o : ltb (length c.args.out.now) (count Allowed c.args.n (c.args.k - 1)) ≡ false = subst (λ (x : ℕ). ltb (length c.args.out.now) x ≡ false) c.size-m.ensures (le-ltb _ _ c.if-out-m.false) in
    let j : all_inside (entry_at (c.args.k - 1) c.args.s c.args.table.now) (count Allowed c.args.n (c.args.k - 1)) ≡ true = ap (all_inside (entry_at (c.args.k - 1) c.args.s c.args.table.now)) (sym c.size-m.ensures) ∙ sym c.judge.ensures ∙ c.if-not-judge.false in
    let e = entries_long (entry_at (c.args.k - 1) c.args.s c.args.table.now) (count Allowed c.args.n (c.args.k - 1)) in
    simp (k, w, z, l, t, o, j) record { says = ap gives (c.size-m.ensures ∙ sym e); holds = c.write.ensures ∙ ap (λ (x : ℕ). entries_of (entry_at (c.args.k - 1) c.args.s c.args.table.now) x ++ drop x c.args.out.now) c.size-m.ensures ∙ ap (λ (x : ℕ). entries_of (entry_at (c.args.k - 1) c.args.s c.args.table.now) (count Allowed c.args.n (c.args.k - 1)) ++ drop x c.args.out.now) (sym e) }
