use Rattle.std.proofs.Common.{◌≤◌, length, take}
use Rattle.lane.specs.Moments.{moment}
use Rattle.queue.specs.InPlay.{Noted}
use Rattle.queue.proofs.plays.make_all.Given as goal

abbrev pub invariant-loop-i : goal.invariant-loop-i
invariant-loop-i g l = Noted g.M.Memory g.K.Kind (moment l.initial.play.lane) (take l.i l.moves) l.initial.place l.place (moment l.play.lane) × (l.i ≤ length l.moves)
