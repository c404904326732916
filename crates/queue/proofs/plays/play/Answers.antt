use Rattle.queue.proofs.Keeping.{as_promised}
use Rattle.queue.proofs.plays.play.Goals as goal

pub returns : goal.returns
returns g c =
    let t = c.in_ok-start.ensures in
    as_promised g.M.Memory g.K.Kind g.met.K.Kind.marked g.met.K.Kind.single c.args.rings c.args.cells t.shaped c.args.number t.opens t.is c.make_all.ensures c.into_memory.ensures
