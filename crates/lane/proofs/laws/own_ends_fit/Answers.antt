use Rattle.lane.proofs.Owned as owned
use Rattle.lane.proofs.laws.own_ends_fit.Goals as goal

pub returns : goal.returns
returns g c = owned.own_ends_fit g.M.Memory g.K.Kind
