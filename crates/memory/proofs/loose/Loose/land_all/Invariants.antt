use Rattle.std.proofs.Common.{◌≡◌}
use Rattle.memory.specs.Meaning.{line, stores}
use Rattle.memory.specs.Owner.{SameWords}
use Rattle.memory.specs.Loose.{loose_meaning, all_landed}
use Rattle.memory.proofs.loose.Loose.land_all.Given as goal

abbrev pub invariant-loop-side : goal.invariant-loop-side
invariant-loop-side l = (all_landed l.side (loose_meaning l.self) ≡ all_landed l.side (loose_meaning l.initial.self)) × SameWords l.initial.self.words l.self.words

abbrev pub decreases-loop-side : goal.decreases-loop-side
decreases-loop-side l = stores (line l.side (loose_meaning l.self))
