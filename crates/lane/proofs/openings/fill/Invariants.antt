use Rattle.std.proofs.Common.{◌≡◌, length}
use Rattle.lane.specs.Openings.{Filled}
use Rattle.lane.proofs.openings.fill.Given as goal

abbrev pub invariant-loop-a : goal.invariant-loop-a
invariant-loop-a g l = Filled g.M.Memory l.shape.rings l.shape.cells l.initial.memory l.a l.memory × (length (g.M.Memory.meaning l.memory).landed ≡ length (g.M.Memory.meaning l.initial.memory).landed)
