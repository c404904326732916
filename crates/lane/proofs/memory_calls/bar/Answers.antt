use Rattle.lane.proofs.Sizes.{made_extent}
use Rattle.lane.proofs.memory_calls.bar.Goals as goal

pub returns : goal.returns
returns g c = record { call = c.bar.ensures; size = made_extent g.M.Memory c.bar.ensures }
