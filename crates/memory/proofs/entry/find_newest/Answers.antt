use Rattle.std.proofs.Common.{refl, arith}
use Rattle.memory.proofs.Entries.{newest_more, newest_all}
use Rattle.memory.proofs.entry.find_newest.Goals as goal

pub loop-kept-preserved : goal.loop-kept-preserved
loop-kept-preserved c = newest_more c.args.entries.now c.loop-kept.kept-index c.args.address c.loop-kept.found c.find_newer-found.result _ (omega arith) refl c.find_newer-found.ensures c.loop-kept.invariant

pub returns : goal.returns
returns c = newest_all c.args.entries.now c.loop-kept.kept-index c.args.address c.loop-kept.found (omega arith) c.loop-kept.invariant
