-- `bits::contains` meets its contract: what is shifted down by s has digit s lowest. Assumes nothing.
use Rattle.std.proofs.Common.{ℕ, ◌%◌, eqb, sym, ap, ◌∙◌}
use Rattle.bits.proofs.Member.{stands_is_digit}
use Rattle.bits.proofs.contains.Goals as goal

pub returns : goal.returns
returns c = ap (λ (q : ℕ). eqb (q % 2) 1) c.shr_total.ensures ∙ sym (stands_is_digit c.args.s c.args.a)
