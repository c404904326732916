use Rattle.std.proofs.Common.{[], ◌∷◌, ◌++◌, ap, ◌∙◌}
use Rattle.memory.specs.Buffer.{parts}
use Rattle.memory.proofs.Owns.{entry_joined}
use Rattle.memory.proofs.buffer.Buffer.join.Goals as goal

pub returns : goal.returns
returns g c =
    let m = c.make_room.new.self in
    record { roomy = parts m; room = c.make_room.ensures.means; after = entry_joined c.args.side m.below m.depth m.kept c.append.new.kept c.args.entry (c.append.ensures ∙ ap (λ z. z.items ++ (c.args.entry ∷ [])) c.of_mut.ensures.value) }
