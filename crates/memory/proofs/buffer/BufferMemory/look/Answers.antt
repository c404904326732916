use Rattle.std.proofs.Common.{sym, refl, ap, ◌∙◌}
use Rattle.memory.specs.Meaning.{Look}
use Rattle.memory.specs.Entries.{newest}
use Rattle.memory.specs.Buffer.{own_store}
use Rattle.memory.proofs.Buffers.{buffer_made, looked_below}
use Rattle.memory.proofs.buffer.BufferMemory.look.Goals as goal

pub returns-in-Some : goal.returns-in-Some
returns-in-Some g c =
    buffer_made g.M.Memory (Look c.args.side c.args.address c.in-Some.word) c.args.self.now _
    (own_store c.in_ok-check.ensures (sym (c.find_newest.ensures ∙ ap (newest c.args.address) c.entries.ensures.kept) ∙ c.in-Some.is) c.size.ensures refl)

pub returns-in-None : goal.returns-in-None
returns-in-None g c =
    looked_below g.M.Memory c.args.side c.args.address c.size.result c.args.self.now _ c.size.new.self c.look.result
    (sym (c.find_newest.ensures ∙ ap (newest c.args.address) c.entries.ensures.kept) ∙ c.in-None.is)
    c.size.ensures c.look.ensures refl
