-- `terms_line::parse` meets its contract: a line that asks for words has its two spaces where they are found, and the words about them are its parts. Assumes nothing.
use native.Mathlib.Omega.{arith}
use Rattle.terms_line.proofs.Parts.{parts_of_asks, space_of_asks, no_name, no-first, no_second, all-parts}
use Rattle.terms_line.proofs.parse.Goals as goal

pub returns-then-a-line : goal.returns-then-a-line
returns-then-a-line c F n k o = omega (arith, space_of_asks _ _ F n k c.find-a.ensures o)

pub returns-then-b-line : goal.returns-then-b-line
returns-then-b-line c F n k o = omega (arith, (parts_of_asks _ _ _ F n k c.find-a.ensures c.find-b.ensures o).second_space)

pub returns-in_err-family : goal.returns-in_err-family
returns-in_err-family c =
    rw c.from_residual.ensures (no_name _ _ _ c.find-a.ensures c.find-b.ensures _ c.in_err-family.was c.family.ensures)

pub returns-in_err-n : goal.returns-in_err-n
returns-in_err-n c =
    rw c.from_residual-in_err-n.ensures (no-first _ _ _ c.find-a.ensures c.find-b.ensures _ c.in_err-n.was c.read_number.ensures)

pub returns-in_err-k : goal.returns-in_err-k
returns-in_err-k c =
    rw c.from_residual-in_err-k.ensures (no_second _ _ _ c.find-a.ensures c.find-b.ensures _ c.in_err-k.was c.read_number-2.ensures)

pub returns : goal.returns
returns c =
    all-parts _ _ _ c.find-a.ensures c.find-b.ensures _ _ _ _ _ _ c.if-a-line.false c.if-b-line.false
    c.in_ok-family.was c.family.ensures c.in_ok-n.was c.read_number.ensures c.in_ok-k.was c.read_number-2.ensures
