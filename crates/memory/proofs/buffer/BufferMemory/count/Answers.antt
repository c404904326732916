use Rattle.memory.specs.Meaning.{Count}
use Rattle.memory.proofs.Buffers.{buffer_made}
use Rattle.memory.proofs.buffer.BufferMemory.count.Goals as goal

pub returns : goal.returns
returns g c = buffer_made g.M.Memory (Count c.args.side c.count_all.result) c.args.self.now c.count_all.new.self c.count_all.ensures
