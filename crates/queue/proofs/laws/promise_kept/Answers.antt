use Rattle.queue.proofs.Keeping.{promise_kept}
use Rattle.queue.proofs.laws.promise_kept.Goals as goal

pub returns : goal.returns
returns g c = λ number R N x y h end shaped opens leads. promise_kept g.M.Memory g.K.Kind g.met.K.Kind.marked g.met.K.Kind.single R N shaped number x y h end opens leads
