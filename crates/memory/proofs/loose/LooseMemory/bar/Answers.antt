use Rattle.std.proofs.Common.{[], ◌∷◌, ◌++◌, refl, ap, ◌∙◌}
use Rattle.memory.specs.Meaning.{Bar, bar, tidy}
use Rattle.memory.specs.Line.{line_in}
use Rattle.memory.proofs.Owns.{line_joined}
use Rattle.memory.proofs.Looses.{loose_made}
use Rattle.memory.proofs.loose.LooseMemory.bar.Goals as goal

pub returns : goal.returns
returns c = loose_made (Bar c.args.side) c.args.self.now _ (record { means = line_joined c.args.side c.args.self.now.words.now c.args.self.now.lines c.bar.new.self bar (c.bar.ensures ∙ ap (λ l. tidy (line_in l ++ (bar ∷ []))) c.of_mut.ensures.value); owner = refl })
