use Rattle.std.proofs.Common.{rules}
use Rattle.lane.proofs.Rows.{found_as}
use Rattle.lane.specs.TakeTable.{an_item, no_item}
use Rattle.lane.proofs.stands.Hand+Take+K.found.Goals as goal

pub returns-in-Ok : goal.returns-in-Ok
returns-in-Ok g c = record {
  found = found_as g.K.Kind (an_item c.in-Ok.item c.in-Ok.ensures) c.stand.ensures.0 c.stand.ensures.1;
  kept = search rules;
}

pub returns-in-Err : goal.returns-in-Err
returns-in-Err g c = record {
  found = found_as g.K.Kind (no_item c.in-Err.ensures.1) c.finish.ensures.0 c.finish.ensures.1;
  kept = search rules;
}
