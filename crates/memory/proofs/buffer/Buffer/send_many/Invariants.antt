use Rattle.memory.specs.Buffer.{parts, Sends}
use Rattle.memory.proofs.buffer.Buffer.send_many.Given as goal

abbrev pub invariant-loop : goal.invariant-loop
invariant-loop g l = Sends g.M.Memory l.side (parts l.initial.self) l.counter (parts l.self)
