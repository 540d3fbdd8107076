-- `text::put_number` meets its contract: what `put` writes is the numeral that `spell` leaves at the end of the local text. Assumes nothing.
use mathlib.Core.Path.{sym, subst}
use mathlib.Core.List.{List}
use Prim.Native.Nat.{ℕ, ◌-◌}
use native.Mathlib.Omega.{arith}
use lib.ListN.{take, drop, length-drop}
use lib.Seq.{take_all}
use Rattle.text.specs.Numeral.{Numeral}
use Rattle.text.proofs.put_number.Goals as goal

pub returns : goal.returns
returns c =
    record {
      numeral = take (20 - c.spell-from.result) (drop c.spell-from.result c.spell-from.new.text);
      right = subst (λ (t : List ℕ). Numeral t c.args.n) (sym (take_all (20 - c.spell-from.result) (drop c.spell-from.result c.spell-from.new.text) (simp length-drop (omega arith)))) c.spell-from.ensures.1;
      written = c.put.ensures;
    }
