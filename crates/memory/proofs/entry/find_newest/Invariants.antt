use Rattle.std.proofs.Common.{◌≡◌, drop}
use Rattle.memory.specs.Entries.{newest, newest_from}
use Rattle.memory.proofs.entry.find_newest.Given as goal

abbrev pub invariant-loop-kept : goal.invariant-loop-kept
invariant-loop-kept l = newest_from l.address l.found (drop l.kept-index l.entries) ≡ newest l.address l.entries
