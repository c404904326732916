use Rattle.std.proofs.Common.{◌∙◌}
use Rattle.lane.proofs.Sizes.{made_extent, opens_room}
use Rattle.lane.proofs.lanes.Lane.open.Goals as goal

pub fill-requires : goal.fill-requires
fill-requires g c =
    let o = c.in-Ok.ensures in
    let s = o.2 in
    rw (o.0, o.1) (rw (made_extent g.M.Memory c.drain.ensures ∙ made_extent g.M.Memory s.asked, ← s.asked.rule.0) s.enough)

pub invariant_of-result-clause-roomy : goal.invariant_of-result-clause-roomy
invariant_of-result-clause-roomy g c =
    let o = c.in-Ok.ensures in
    let s = o.2 in
    opens_room g.M.Memory c.in-Ok.shape.rings c.in-Ok.shape.cells (record { sized = _; drained = _; filled = _; size = s.size; asked = s.asked; enough = rw (o.0, o.1) s.enough; first_drain = c.drain.ensures; stores = c.fill.ensures; second_drain = c.drain-2.ensures })
