-- `requests::after_room` meets its contract: the text up to the next space is the number, and the verb stands after it. Assumes nothing.
use native.Mathlib.Omega.{arith}
use Rattle.requests.proofs.Opening.{no_number_past, no-verb-after, no_number, number-then-verb}
use Rattle.requests.proofs.after_room.Goals as goal

pub returns-then-from-line : goal.returns-then-from-line
returns-then-from-line c = no_number_past _ _ (omega arith)

pub returns-then-end-line : goal.returns-then-end-line
returns-then-end-line c = no-verb-after _ _ _ (omega arith) c.find-end.ensures (omega arith)

pub returns-in_err-room : goal.returns-in_err-room
returns-in_err-room c = rw c.from_residual.ensures (no_number _ _ _ (omega arith) c.find-end.ensures _ c.in_err-room.was c.read_number.ensures)

pub returns : goal.returns
returns c = number-then-verb _ _ _ (omega arith) c.find-end.ensures _ _ c.verb_at.result c.in_ok-room.was c.read_number.ensures c.verb_at.ensures
