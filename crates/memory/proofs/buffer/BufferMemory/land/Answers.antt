use Rattle.memory.specs.Meaning.{Land}
use Rattle.memory.proofs.Buffers.{buffer_made}
use Rattle.memory.proofs.buffer.BufferMemory.land.Goals as goal

pub returns : goal.returns
returns g c = buffer_made g.M.Memory (Land c.args.side c.args.pick) c.args.self.now c.land_below.new.self c.land_below.ensures
