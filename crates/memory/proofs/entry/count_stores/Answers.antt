use Rattle.std.proofs.Common.{arith, ◌≡◌, count_by, ◌∙◌}
use Rattle.std.proofs.lemmas.Grind.{common_steps}
use Rattle.memory.specs.Entries.{is_store}
use Rattle.memory.proofs.Entries.{count_own}
use Rattle.memory.proofs.entry.count_stores.Goals as goal

pub returns-clause-count : goal.returns-clause-count
returns-clause-count c = let counted : c.count.result ≡ count_by (is_store c.args.size) c.args.entries.now = grind (arith, common_steps) in counted ∙ count_own c.args.size c.args.entries.now
