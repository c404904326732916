use Rattle.std.proofs.Common.{sym, ap, ◌∙◌}
use Rattle.lane.specs.Ends.{lane_of}
use Rattle.lane.proofs.Underway.{busy_put}
use Rattle.queue.specs.Busy.{is_busy}
use Rattle.queue.specs.InPlay as inplay
use Rattle.queue.proofs.turns.feeding.Goals as goal

pub returns-in-Busy : goal.returns-in-Busy
returns-in-Busy g c =
    let e = c.in-Busy.is in
    (sym (ap lane_of e) ∙ c.requires.0, inplay.Begins.goes_on (busy_put _ (sym c.requires.1 ∙ ap is_busy e)))

pub returns-in-Ok : goal.returns-in-Ok
returns-in-Ok g c =
    let t = c.in-Ok.ensures in
    (t.same_lane ∙ t.fits.0, rw t.after (inplay.Begins.begins t.fits.1))
