use Rattle.std.proofs.Common.{refl, sym, ap, ◌∙◌}
use Rattle.lane.specs.Stages.{taking}
use Rattle.lane.specs.Moments.{Moment}
use Rattle.lane.proofs.Underway.{put_ends}
use Rattle.queue.specs.Plays.{put_said}
use Rattle.queue.specs.Turns as turn
use Rattle.queue.proofs.EndTurns.{said_as, end_fits}
use Rattle.queue.proofs.Histories.{put_stays}
use Rattle.queue.proofs.turns.feed.Goals as goal

pub unreachable-requires : goal.unreachable-requires
unreachable-requires g c =
    let b = c.feeding-busy.ensures in
    let s = put_stays b.1 in
    let h = c.in_default.ensures in
    h.unfit (b.0 ∙ sym s.number, s.busy)

pub invariant_of-result : goal.invariant_of-result
invariant_of-result g c =
    let b = c.feeding-busy.ensures in
    let s = put_stays b.1 in
    let h = c.in-Ok.ensures in
    let n = ap (λ (q : Moment _ _). q.number) h.step.after in
    let o = c.args.play.drawer_fits in
    record {
      feeder_fits = end_fits c.in-Ok.stepped c.turn_end-feeder.ensures.end h.same_lane (b.0 ∙ sym s.number) n (put_ends g.M.Memory g.K.Kind _ _ h.step.row);
      drawer_fits = (o.0 ∙ sym s.number ∙ sym n, o.1 ∙ sym (ap (λ e. taking e.stage) (ap (λ (q : Moment _ _). q.drawer) h.step.after ∙ s.drawer)));
    }

pub returns : goal.returns
returns g c =
    let h = c.in-Ok.ensures in
    turn.Turn.feeds c.feeding-busy.ensures.1 (record { answer = _; step = h.step; says = said_as _ put_said refl (λ a s h. h.1) _ _ c.turn_end-feeder.ensures.said })
