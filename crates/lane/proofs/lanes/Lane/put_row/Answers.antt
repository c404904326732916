use Rattle.std.proofs.Common.{ap, ◌∙◌, arith}
use Rattle.lane.specs.PutTable.{p1_bare, p1_full, p2_bare, p2_ring, p2_odd, p3, p4, p5, p6, p7, p8}
use Rattle.lane.specs.Hands.{hand_to, hand_done, over}
use Rattle.lane.specs.declared.answers.PutAnswer.TheVariants.{Accepted}
use Rattle.lane.specs.Layout.{ring_is}
use Rattle.lane.specs.Stages.{put_looks}
use Rattle.lane.specs.declared.sides.Put.TheVariants as put
use Rattle.lane.proofs.Rows.{stepped}
use Rattle.lane.proofs.lanes.Lane.put_row.Goals as goal

pub returns-in-P1-eq0 : goal.returns-in-P1-eq0
returns-in-P1-eq0 g c =
    let i = c.in-P1-eq0 in
    let h = c.put_look-seen.ensures.sees.own_seen i.item i.is-0 in
    stepped g.M.Memory g.K.Kind (p1_bare i.item i.is-0 (rw i.is-1 at h)) c.stand.ensures.0 c.stand.ensures.1

pub returns-in-P1-default : goal.returns-in-P1-default
returns-in-P1-default g c =
    let i = c.in-P1-default in
    let h = c.put_look-seen.ensures.sees.own_seen i.item i.is-0 in
    let s = c.stand-in-P1-default.ensures in
    stepped g.M.Memory g.K.Kind (p1_full i.item c.put_look-seen.result i.is-0 h (omega arith)) s.0 s.1

pub returns-in-P2-eq0 : goal.returns-in-P2-eq0
returns-in-P2-eq0 g c =
    let i = c.in-P2-eq0 in
    let h = c.put_look-seen.ensures.sees.free_seen i.item i.is-0 in
    let s = c.finish.ensures in
    stepped g.M.Memory g.K.Kind (p2_bare i.item i.is-0 (rw i.is-1 at h)) s.0 s.1

pub returns-in-P4-default : goal.returns-in-P4-default
returns-in-P4-default g c =
    let i = c.in-P4-default in
    let e = c.put_look-seen.ensures.sees.blind (ap put_looks i.is-0) in
    let h = c.bar.ensures.call in
    let s = c.stand-in-P4-default.ensures in
    stepped g.M.Memory g.K.Kind (p4 i.item i.n i.is-0 (rw e at h)) s.0 s.1

pub returns-in-P7-default : goal.returns-in-P7-default
returns-in-P7-default g c =
    let i = c.in-P7-default in
    let e = c.put_look-seen.ensures.sees.blind (ap put_looks i.is-0) in
    let h = c.bar-in-P7-default.ensures.call in
    let s = c.stand-in-P7-default.ensures in
    stepped g.M.Memory g.K.Kind (p7 i.item i.is-0 (rw e at h)) s.0 s.1

pub returns-in-Some : goal.returns-in-Some
returns-in-Some g c =
    let i = c.in-P2-default in
    let h = c.put_look-seen.ensures.sees.free_seen i.item i.is-0 in
    let r = rw c.in-Some.is at c.ring_of.ensures in
    let s = c.stand-in-Some.ensures in
    stepped g.M.Memory g.K.Kind (p2_ring i.item c.in-Some.n i.is-0 (rw r.1 at h) r.0) s.0 s.1

pub returns-in-None : goal.returns-in-None
returns-in-None g c =
    let i = c.in-P2-default in
    let h = c.put_look-seen.ensures.sees.free_seen i.item i.is-0 in
    let r = rw c.in-None.is at c.ring_of.ensures in
    let s = c.finish-in-None.ensures in
    stepped g.M.Memory g.K.Kind (p2_odd i.item c.put_look-seen.result i.is-0 h (omega arith) r) s.0 s.1

pub returns-in-P3-default : goal.returns-in-P3-default
returns-in-P3-default g c =
    let i = c.in-P3-default in
    let e = c.put_look-seen.ensures.sees.blind (ap put_looks i.is-0) in
    let h = c.store.ensures in
    let k = h.call.call in
    let s = c.stand-in-P3-default.ensures in
    stepped g.M.Memory g.K.Kind (p3 i.item i.n i.is-0 (rw e at k)) (s.0 ∙ ap (λ h. hand_to h (put.P4 i.item i.n) h.places) h.moved) s.1

pub returns-in-P5-default : goal.returns-in-P5-default
returns-in-P5-default g c =
    let i = c.in-P5-default in
    let e = c.put_look-seen.ensures.sees.blind (ap put_looks i.is-0) in
    let h = c.store-in-P5-default.ensures in
    let k = h.call.call in
    let s = c.stand-in-P5-default.ensures in
    stepped g.M.Memory g.K.Kind (p5 i.item i.n i.is-0 (rw (e, c.word_of.ensures) at k)) (s.0 ∙ ap (λ h. hand_to h (put.P6 i.item i.n) h.places) h.moved) s.1

pub returns-in-P6-default : goal.returns-in-P6-default
returns-in-P6-default g c =
    let i = c.in-P6-default in
    let e = c.put_look-seen.ensures.sees.blind (ap put_looks i.is-0) in
    let h = c.store-in-P6-default.ensures in
    let k = h.call.call in
    let s = c.stand-in-P6-default.ensures in
    stepped g.M.Memory g.K.Kind (p6 i.item i.n i.is-0 (rw (e, c.word_of-in-P6-default.ensures) at k)) (s.0 ∙ ap (λ h. hand_to h (put.P7 i.item) (ring_is i.n h.places)) h.moved) s.1

pub returns-in-P8-default : goal.returns-in-P8-default
returns-in-P8-default g c =
    let i = c.in-P8-default in
    let e = c.put_look-seen.ensures.sees.blind (ap put_looks i.is-0) in
    let h = c.store-in-P8-default.ensures in
    let k = h.call.call in
    let s = c.finish-in-P8-default.ensures in
    stepped g.M.Memory g.K.Kind (p8 i.item i.is-0 (rw (e, c.to_word.ensures) at k)) (s.0 ∙ ap (λ h. hand_done put.Idle h.places) h.moved) (s.1 ∙ ap (λ h. over h Accepted) h.moved)
