use Rattle.run.proofs.Keeping.{run_as_promised}
use Rattle.run.proofs.runs.run.Goals as goal

pub returns : goal.returns
returns g c =
    let w = c.in-Ok.ensures in
    let m = c.make_moves.ensures in
    run_as_promised g.M.Memory g.K.Kind g.met.K.Kind.marked g.met.K.Kind.single w.0 w.2 c.in_ok-play.ensures (rw w.1 at m)
