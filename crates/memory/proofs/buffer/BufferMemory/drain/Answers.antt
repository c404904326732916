use Rattle.memory.specs.Meaning.{Drain}
use Rattle.memory.proofs.Buffers.{buffer_made}
use Rattle.memory.proofs.buffer.BufferMemory.drain.Goals as goal

pub returns : goal.returns
returns g c = buffer_made g.M.Memory Drain c.args.self.now c.drain_below.new.self c.drain_below.ensures
