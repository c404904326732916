use Rattle.memory.specs.Meaning.{Bar}
use Rattle.memory.proofs.Buffers.{buffer_made}
use Rattle.memory.proofs.buffer.BufferMemory.bar.Goals as goal

pub returns : goal.returns
returns g c = buffer_made g.M.Memory (Bar c.args.side) c.args.self.now c.join.new.self c.join.ensures
