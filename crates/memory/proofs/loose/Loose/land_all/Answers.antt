use Rattle.std.proofs.Common.{sym, ◌∙◌, arith}
use Rattle.memory.specs.Loose.{loose_meaning}
use Rattle.memory.proofs.Looses.{one_less_left, nothing_left}
use Rattle.memory.proofs.loose.Loose.land_all.Goals as goal

pub loop-side-preserved : goal.loop-side-preserved
loop-side-preserved c = (one_less_left c.args.side (loose_meaning c.loop-side.self) (loose_meaning c.land_oldest.new.self) c.land_oldest.ensures.lands.means ∙ c.loop-side.invariant.0, c.land_oldest.ensures.lands.owner ∙ c.loop-side.invariant.1)

pub returns : goal.returns
returns c = record { means = sym (nothing_left c.args.side c.loop-side.self (omega (arith, c.waits.ensures.count, c.loop-side-test.false))) ∙ c.loop-side.invariant.0; owner = c.loop-side.invariant.1 }
