use Rattle.queue.specs.Turns as turn
use Rattle.queue.proofs.states.Play.make.Goals as goal

pub returns-in-Drain : goal.returns-in-Drain
returns-in-Drain g c = rw c.in-Drain.is (turn.Turn.drains c.drain.ensures)

pub returns-in-Land : goal.returns-in-Land
returns-in-Land g c = rw c.in-Land.is (turn.Turn.lands c.land.ensures)
