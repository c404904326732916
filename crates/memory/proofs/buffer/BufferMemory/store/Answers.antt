use Rattle.memory.specs.Meaning.{Store}
use Rattle.memory.proofs.Buffers.{buffer_made}
use Rattle.memory.proofs.buffer.BufferMemory.store.Goals as goal

pub returns : goal.returns
returns g c =
    buffer_made g.M.Memory (Store c.args.side c.args.address c.args.word) c.args.self.now c.join.new.self
    (record { size = c.size.result; between = c.size.new.self; sized = c.size.ensures; within = c.in_ok-check.ensures; joins = c.join.ensures })
