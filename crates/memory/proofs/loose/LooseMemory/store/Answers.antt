use Rattle.memory.specs.Meaning.{Store}
use Rattle.memory.proofs.Looses.{loose_made}
use Rattle.memory.proofs.loose.LooseMemory.store.Goals as goal

pub returns : goal.returns
returns c = loose_made (Store c.args.side c.args.address c.args.word) _ _ (record { means = (c.in_ok-check.ensures, c.accept.ensures.means); owner = c.accept.ensures.owner })
