-- `asking::answer_input` is safe: the buffers keep their lengths. Assumes nothing.
use mathlib.Core.Path.{◌≡◌}
use lib.ListN.{length}
use Rattle.asking.proofs.answer_input.Given as goal

abbrev pub invariant-loop : goal.invariant-loop
invariant-loop g l = (length l.block ≡ length l.initial.block) × (length l.line ≡ length l.initial.line) × (length l.bytes ≡ length l.initial.bytes) × (length l.written ≡ length l.initial.written) × (length l.out ≡ length l.initial.out)
