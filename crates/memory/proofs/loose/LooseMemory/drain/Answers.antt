use Rattle.memory.specs.Meaning.{Drain}
use Rattle.memory.proofs.Looses.{loose_made}
use Rattle.memory.proofs.loose.LooseMemory.drain.Goals as goal

pub returns : goal.returns
returns c = loose_made Drain _ _ c.land_both.ensures
