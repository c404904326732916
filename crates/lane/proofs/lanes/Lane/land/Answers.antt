use Rattle.lane.proofs.Sizes.{made_extent}
use Rattle.lane.proofs.lanes.Lane.land.Goals as goal

pub invariant_of-self-clause-roomy : goal.invariant_of-self-clause-roomy
invariant_of-self-clause-roomy g c = rw (made_extent g.M.Memory c.land.ensures) c.args.self.now.roomy
