use Rattle.std.proofs.Common.{◌≡◌, length, take}
use Rattle.lane.specs.Moments.{moment}
use Rattle.run.specs.Running.{RunSoFar}
use Rattle.run.proofs.runs.make_moves.Given as goal

abbrev pub invariant-loop-index : goal.invariant-loop-index
invariant-loop-index g l = RunSoFar g.M.Memory g.K.Kind (moment l.initial.play.lane) l.offer.words.now (take l.index l.moves) l.initial.log l.log l.counts (moment l.play.lane) × (length l.log ≡ length l.initial.log)
