use Rattle.std.proofs.Common.{refl, ap, ◌∙◌, arith}
use Rattle.lane.specs.TakeTable.{t1_bare, t3_bare, t8_bare, t2_own, t2_other, t2_odd, t4_bare, t4_ring, t4_odd, t5, t6, t7, t9}
use Rattle.lane.specs.Hands.{hand_to, hand_done, over}
use Rattle.lane.specs.declared.answers.TakeAnswer.TheVariants.{Taken}
use Rattle.lane.specs.Stages.{take_looks, at_own}
use Rattle.lane.specs.declared.sides.Take.TheVariants as take
use Rattle.lane.specs.Layout.{ring_is}
use Rattle.lane.proofs.Rows.{taken, t1_found, t3_found, t8_found}
use Rattle.lane.proofs.lanes.Lane.take_row.Goals as goal

pub returns-in-T1-eq0 : goal.returns-in-T1-eq0
returns-in-T1-eq0 g c =
    let i = c.in-T1-eq0 in
    let h = c.take_look-seen.ensures.sees.own_seen (ap at_own i.is-0) in
    let s = c.stand.ensures in
    taken g.M.Memory g.K.Kind (t1_bare i.is-0 (rw i.is-1 at h)) s.0 s.1

pub returns-in-T3-eq0 : goal.returns-in-T3-eq0
returns-in-T3-eq0 g c =
    let i = c.in-T3-eq0 in
    let h = c.take_look-seen.ensures.sees.own_seen (ap at_own i.is-0) in
    let s = c.stand-in-T3-eq0.ensures in
    taken g.M.Memory g.K.Kind (t3_bare i.is-0 (rw i.is-1 at h)) s.0 s.1

pub returns-in-T8-eq0 : goal.returns-in-T8-eq0
returns-in-T8-eq0 g c =
    let i = c.in-T8-eq0 in
    let h = c.take_look-seen.ensures.sees.own_seen (ap at_own i.is-0) in
    let s = c.finish-in-T8-eq0.ensures in
    taken g.M.Memory g.K.Kind (t8_bare i.is-0 (rw i.is-1 at h)) s.0 s.1

pub returns-in-T1-default : goal.returns-in-T1-default
returns-in-T1-default g c =
    let i = c.in-T1-default in
    let h = c.take_look-seen.ensures.sees.own_seen (ap at_own i.is-0) in
    taken g.M.Memory g.K.Kind (t1_found g.M.Memory g.K.Kind _ _ c.take_look-seen.result h (omega arith) i.is-0 c.found.ensures.found) refl refl

pub returns-in-T3-default : goal.returns-in-T3-default
returns-in-T3-default g c =
    let i = c.in-T3-default in
    let h = c.take_look-seen.ensures.sees.own_seen (ap at_own i.is-0) in
    taken g.M.Memory g.K.Kind (t3_found g.M.Memory g.K.Kind _ _ c.take_look-seen.result h (omega arith) i.is-0 c.found-in-T3-default.ensures.found) refl refl

pub returns-in-T8-default : goal.returns-in-T8-default
returns-in-T8-default g c =
    let i = c.in-T8-default in
    let h = c.take_look-seen.ensures.sees.own_seen (ap at_own i.is-0) in
    taken g.M.Memory g.K.Kind (t8_found g.M.Memory g.K.Kind _ _ c.take_look-seen.result h (omega arith) i.is-0 c.found-in-T8-default.ensures.found) refl refl

pub returns-in-T4-eq0 : goal.returns-in-T4-eq0
returns-in-T4-eq0 g c =
    let i = c.in-T4-eq0 in
    let h = c.take_look-seen.ensures.sees.next_seen i.is-0 in
    let s = c.finish-in-T4-eq0.ensures in
    taken g.M.Memory g.K.Kind (t4_bare i.is-0 (rw i.is-1 at h)) s.0 s.1

pub returns-in-T6-default : goal.returns-in-T6-default
returns-in-T6-default g c =
    let i = c.in-T6-default in
    let e = c.take_look-seen.ensures.sees.blind (ap take_looks i.is-0) in
    let h = c.bar.ensures.call in
    let s = c.stand-in-T6-default.ensures in
    taken g.M.Memory g.K.Kind (t6 i.n i.is-0 (rw e at h)) s.0 s.1

pub returns-in-Some : goal.returns-in-Some
returns-in-Some g c =
    let i = c.in-T2-default in
    let h = c.take_look-seen.ensures.sees.mark_seen i.is-0 in
    let r = rw c.in-Some.is at c.ring_of.ensures in
    let s = c.finish.ensures in
    taken g.M.Memory g.K.Kind (t2_own i.is-0 (rw (r.1, c.if-n-own.true) at h)) s.0 s.1

pub returns-in-Some-2 : goal.returns-in-Some-2
returns-in-Some-2 g c =
    let i = c.in-T2-default in
    let h = c.take_look-seen.ensures.sees.mark_seen i.is-0 in
    let r = rw c.in-Some.is at c.ring_of.ensures in
    let s = c.stand-in-Some-2.ensures in
    taken g.M.Memory g.K.Kind (t2_other c.in-Some.n i.is-0 (rw r.1 at h) r.0 c.if-n-own.false) s.0 s.1

pub returns-in-None : goal.returns-in-None
returns-in-None g c =
    let i = c.in-T2-default in
    let h = c.take_look-seen.ensures.sees.mark_seen i.is-0 in
    let r = rw c.in-None.is at c.ring_of.ensures in
    let s = c.finish-in-None.ensures in
    taken g.M.Memory g.K.Kind (t2_odd c.take_look-seen.result i.is-0 h r) s.0 s.1

pub returns-in-Some-ring_of : goal.returns-in-Some-ring_of
returns-in-Some-ring_of g c =
    let i = c.in-T4-default in
    let h = c.take_look-seen.ensures.sees.next_seen i.is-0 in
    let r = rw c.in-Some-ring_of.is at c.ring_of-in-T4-default.ensures in
    let s = c.stand-in-Some-ring_of.ensures in
    taken g.M.Memory g.K.Kind (t4_ring c.in-Some-ring_of.n i.is-0 (rw r.1 at h) r.0) s.0 s.1

pub returns-in-None-ring_of : goal.returns-in-None-ring_of
returns-in-None-ring_of g c =
    let i = c.in-T4-default in
    let h = c.take_look-seen.ensures.sees.next_seen i.is-0 in
    let r = rw c.in-None-ring_of.is at c.ring_of-in-T4-default.ensures in
    let s = c.finish-in-None-ring_of.ensures in
    taken g.M.Memory g.K.Kind (t4_odd c.take_look-seen.result i.is-0 h (omega arith) r) s.0 s.1

pub returns-in-T5-default : goal.returns-in-T5-default
returns-in-T5-default g c =
    let i = c.in-T5-default in
    let e = c.take_look-seen.ensures.sees.blind (ap take_looks i.is-0) in
    let h = c.store.ensures in
    let k = h.call.call in
    let s = c.stand-in-T5-default.ensures in
    taken g.M.Memory g.K.Kind (t5 i.n i.is-0 (rw e at k)) (s.0 ∙ ap (λ h. hand_to h (take.T6 i.n) h.places) h.moved) s.1

pub returns-in-T7-default : goal.returns-in-T7-default
returns-in-T7-default g c =
    let i = c.in-T7-default in
    let e = c.take_look-seen.ensures.sees.blind (ap take_looks i.is-0) in
    let h = c.store-in-T7-default.ensures in
    let k = h.call.call in
    let s = c.stand-in-T7-default.ensures in
    taken g.M.Memory g.K.Kind (t7 i.n i.is-0 (rw (e, c.word_of.ensures) at k)) (s.0 ∙ ap (λ h. hand_to h take.T8 (ring_is i.n h.places)) h.moved) s.1

pub returns-in-T9-default : goal.returns-in-T9-default
returns-in-T9-default g c =
    let i = c.in-T9-default in
    let e = c.take_look-seen.ensures.sees.blind (ap take_looks i.is-0) in
    let h = c.store-in-T9-default.ensures in
    let k = h.call.call in
    let s = c.finish-in-T9-default.ensures in
    taken g.M.Memory g.K.Kind (t9 i.item i.is-0 (rw e at k)) (s.0 ∙ ap (λ h. hand_done take.Idle h.places) h.moved) (s.1 ∙ ap (λ h. over h (Taken i.item)) h.moved)
