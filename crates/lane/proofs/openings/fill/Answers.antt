use Rattle.std.proofs.Common.{refl, ◌∙◌}
use Rattle.lane.specs.Openings.{bare_start, one_more}
use Rattle.lane.proofs.openings.fill.Goals as goal

pub loop-a-init : goal.loop-a-init
loop-a-init g c = (bare_start, refl)

pub loop-a-preserved : goal.loop-a-preserved
loop-a-preserved g c =
    let h = c.store.ensures in
    let k = h.call in
    (one_more c.loop-a.invariant.0 (rw c.first_word.ensures at k), h.size ∙ c.loop-a.invariant.1)
