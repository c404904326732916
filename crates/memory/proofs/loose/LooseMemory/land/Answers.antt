use Rattle.memory.specs.Meaning.{Land}
use Rattle.memory.proofs.Looses.{loose_made}
use Rattle.memory.proofs.loose.LooseMemory.land.Goals as goal

pub returns : goal.returns
returns c = loose_made (Land c.args.side c.args.pick) _ _ c.land_one.ensures
