use Rattle.memory.proofs.Lines.{ClosedTo}
use Rattle.memory.proofs.line.close.Given as goal

abbrev pub invariant-loop-i : goal.invariant-loop-i
invariant-loop-i l = ClosedTo l.at l.i l.initial.waiting l.waiting
