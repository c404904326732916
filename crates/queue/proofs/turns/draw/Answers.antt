use Rattle.std.proofs.Common.{refl, sym, ap, ◌∙◌}
use Rattle.lane.specs.Stages.{putting}
use Rattle.lane.specs.Moments.{Moment}
use Rattle.lane.proofs.Underway.{take_ends}
use Rattle.queue.specs.Plays.{take_said}
use Rattle.queue.specs.Turns as turn
use Rattle.queue.proofs.EndTurns.{said_as, end_fits}
use Rattle.queue.proofs.Histories.{take_stays}
use Rattle.queue.proofs.turns.draw.Goals as goal

pub unreachable-requires : goal.unreachable-requires
unreachable-requires g c =
    let b = c.drawing-busy.ensures in
    let s = take_stays b.1 in
    let h = c.in_default.ensures in
    h.unfit (b.0 ∙ sym s.number, s.busy)

pub invariant_of-result : goal.invariant_of-result
invariant_of-result g c =
    let b = c.drawing-busy.ensures in
    let s = take_stays b.1 in
    let h = c.in-Ok.ensures in
    let n = ap (λ (q : Moment _ _). q.number) h.step.after in
    let o = c.args.play.feeder_fits in
    record {
      drawer_fits = end_fits c.in-Ok.stepped c.turn_end-drawer.ensures.end h.same_lane (b.0 ∙ sym s.number) n (take_ends g.M.Memory g.K.Kind _ _ h.step.row);
      feeder_fits = (o.0 ∙ sym s.number ∙ sym n, o.1 ∙ sym (ap (λ e. putting e.stage) (ap (λ (q : Moment _ _). q.feeder) h.step.after ∙ s.feeder)));
    }

pub returns : goal.returns
returns g c =
    let h = c.in-Ok.ensures in
    turn.Turn.draws c.drawing-busy.ensures.1 (record { answer = _; step = h.step; says = said_as _ take_said refl (λ a s h. h.1) _ _ c.turn_end-drawer.ensures.said })
