use Rattle.std.proofs.Common.{◌<◌, ◌≤◌, length, sym, refl, inl, inr, arith, length-take, ltb-true, ltb-false}
use Rattle.std.proofs.lemmas.List.{take_more, set-get_or}
use Rattle.queue.proofs.Histories.{noted_none, noted_more, same_first, turn_going}
use Rattle.queue.proofs.plays.make_all.Goals as goal

pub loop-i-init : goal.loop-i-init
loop-i-init g c = (noted_none g.M.Memory g.K.Kind _ _, omega arith)

pub loop-i-preserved : goal.loop-i-preserved
loop-i-preserved g c =
    let t = c.in-Some.ensures.lookup in
    let h : c.loop-i.i < length c.args.moves.now = ltb-true _ _ (sym t.0) in
    let i = c.loop-i.i in
    let n = noted_more g.M.Memory g.K.Kind i refl c.loop-i.invariant.0 (turn_going g.M.Memory g.K.Kind c.make-next.ensures) (omega (arith, length-take i c.args.moves.now)) (omega arith) in
    (rw (take_more c.args.moves.now i c.in-Some.m.now h, ← t.1) n, omega arith)

pub returns-in_default : goal.returns-in_default
returns-in_default g c =
    let h : length c.args.moves.now ≤ c.loop-i.i = ltb-false _ _ (sym c.in_default.ensures.lookup.0) in
    let p = c.loop-i.invariant.0 in
    rw (set-get_or c.loop-i.place c.loop-i.i c.index-place-i.result) (rw (same_first c.loop-i.i (length c.args.place.now) c.args.moves.now (omega arith) (inl (omega arith))) at p)

pub returns-after-loop-i : goal.returns-after-loop-i
returns-after-loop-i g c =
    let p = c.loop-i.invariant.0 in
    rw (same_first c.loop-i.i (length c.args.place.now) c.args.moves.now (omega arith) (inr (omega arith))) at p
