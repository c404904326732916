use Rattle.std.proofs.Common.{◌≡◌, ℕ, List, length, take, sym, refl, ◌∙◌, subst, arith}
use Rattle.lane.specs.Moments.{moment}
use Rattle.std.proofs.lemmas.List.{take_more, length-take}
use Rattle.run.specs.Running.{RunSoFar}
use Rattle.run.proofs.Moving.{came_ok, came_err}
use Rattle.run.proofs.Sofar.{run_none, run_more, made_all, made_to_unknown, made_to_stop}
use Rattle.run.proofs.runs.make_moves.Goals as goal

pub loop-index-init : goal.loop-index-init
loop-index-init g c = (run_none g.M.Memory g.K.Kind _ _ _ c.requires, refl)

pub returns-in_default : goal.returns-in_default
returns-in_default g c = rw c.end_at.ensures.tally (made_to_unknown g.M.Memory g.K.Kind c.args.moves.now c.loop-index.index c.loop-index.invariant.0 c.loop-index-test.true c.in_default.ensures c.end_at.ensures.memory)

pub returns-in-Err : goal.returns-in-Err
returns-in-Err g c = rw c.end_at-in-Err.ensures.tally (made_to_stop g.M.Memory g.K.Kind c.args.moves.now c.loop-index.index c.loop-index.invariant.0 c.loop-index-test.true c.in-Ok.ensures c.loop-index.invariant.1 (came_err g.M.Memory g.K.Kind _ _ _ _ _ _ _ _ c.in-Err.is c.obey-next.ensures) c.end_at-in-Err.ensures.memory)

pub loop-index-preserved : goal.loop-index-preserved
loop-index-preserved g c =
    let l : length c.obey-next.new.log ≡ length c.args.log.now = c.obey-next.auto.log ∙ c.loop-index.invariant.1 in
    let t : length (take c.loop-index.index c.args.moves.now) ≡ c.loop-index.index = omega (arith, length-take c.loop-index.index c.args.moves.now) in
    let p = run_more g.M.Memory g.K.Kind c.loop-index.index _ c.loop-index.invariant.0 (sym t) c.in-Ok.ensures c.loop-index.invariant.1 l (came_ok g.M.Memory g.K.Kind _ _ _ _ _ _ _ _ c.in-Ok-came.is c.obey-next.ensures) in
    (subst (λ (b : List ℕ). RunSoFar g.M.Memory g.K.Kind (moment c.args.play.lane) c.args.offer.now.words.now b c.args.log.now c.obey-next.new.log c.in-Ok-came.more (moment c.obey-next.result.play.lane)) (sym (take_more c.args.moves.now c.loop-index.index 0 c.loop-index-test.true)) p, l)

pub returns : goal.returns
returns g c = rw c.end_at-2.ensures.tally (made_all g.M.Memory g.K.Kind c.args.moves.now c.loop-index.index c.loop-index.invariant.0 c.loop-index-test.false c.loop-index.auto.index-end c.end_at-2.ensures.memory)
