use Rattle.std.proofs.Common.{rules}
use Rattle.words.proofs.readings.Reading.new.Goals as goal

pub invariant_of-result : goal.invariant_of-result
invariant_of-result c = record { in_range = (search rules, search rules, search rules); measured = search rules }
