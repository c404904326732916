-- Whether an end is that of a call under way.
use Rattle.std.specs.Prelude.{Bool, true, false}
use Rattle.lane.specs.declared.ends.End.{End}
use Rattle.lane.specs.declared.ends.End.TheVariants as end

abbrev pub is_busy : {S : Type 0} → End S → Bool
is_busy (end.Idle e) = false
is_busy (end.Busy e) = true
