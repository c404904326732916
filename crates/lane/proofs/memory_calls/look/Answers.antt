use Rattle.lane.proofs.Sizes.{made_extent}
use Rattle.lane.proofs.memory_calls.look.Goals as goal

pub returns : goal.returns
returns g c = record { call = c.in-Ok.ensures; size = made_extent g.M.Memory c.in-Ok.ensures }
