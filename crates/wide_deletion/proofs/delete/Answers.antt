-- `wide_deletion::delete` meets its contract. Assumes nothing.
use Prim.Native.Nat.{◌+◌}
use mathlib.Core.Path.{refl}
use native.Mathlib.Omega.{arith}
use Rattle.words.specs.declared.Family.TheVariants.{Forbidden, Allowed}
use Rattle.seam.proofs.Joined.{joined-lt}
use Rattle.deletion.proofs.Deleting.{symbol_below}
use Rattle.wide.specs.Answers.{whole_of}
use Rattle.wide_deletion.proofs.Deleting.{symbol_from, as_gap, no_gap}
use borrow.Author.Rules.{rules}
use Rattle.wide_deletion.proofs.delete.Goals as goal

pub returns-then-count_ones-p : goal.returns-then-count_ones-p
returns-then-count_ones-p c = no_gap c.args.x c.args.p (omega arith)

pub overflow_add-s : goal.overflow_add-s
overflow_add-s c = omega (arith, symbol_below 128 (whole_of c.args.x) c.args.p c.nth-s.result 128 (joined-lt 64 64 c.args.x.low c.args.x.high (search rules) (search rules)) (omega arith) c.nth-s.ensures)

pub closed-set-requires : goal.closed-set-requires
closed-set-requires c = (symbol_below 128 (whole_of c.args.x) c.args.p c.nth-s.result 128 (joined-lt 64 64 c.args.x.low c.args.x.high (search rules) (search rules)) (omega arith) c.nth-s.ensures, omega arith, omega arith)

pub overflow_sub-symbol : goal.overflow_sub-symbol
overflow_sub-symbol c = symbol_from (whole_of c.args.x) c.args.p _ (omega arith) c.nth-s.ensures

pub closed-set-requires-in-Allowed : goal.closed-set-requires-in-Allowed
closed-set-requires-in-Allowed c = (symbol_below 128 (whole_of c.args.x) c.args.p c.nth-s.result 128 (joined-lt 64 64 c.args.x.low c.args.x.high (search rules) (search rules)) (omega arith) c.nth-s.ensures, omega arith, omega arith)

pub returns-in-Forbidden : goal.returns-in-Forbidden
returns-in-Forbidden c = as_gap c.args.x Forbidden c.args.p (c.nth-s.result + 1) _ _ _ _ _ c.in-Forbidden.is (search rules) (omega arith) c.nth-s.ensures c.from_parity.ensures (omega arith) (omega arith) c.closed-set.ensures

pub returns-in-Allowed : goal.returns-in-Allowed
returns-in-Allowed c = as_gap c.args.x Allowed c.args.p c.nth-s.result _ _ _ _ _ c.in-Allowed.is (search rules) (omega arith) c.nth-s.ensures refl refl refl c.closed-set-in-Allowed.ensures
