use Rattle.std.proofs.Common.{sym, ◌∙◌, leb-false, leb-true}
use Rattle.run.proofs.Moving.{put_rests, put_full, put_comes}
use Rattle.run.proofs.Turning.{fed_on}
use Rattle.run.proofs.running.put.Goals as goal

pub returns-in_default : goal.returns-in_default
returns-in_default g c = put_rests g.M.Memory g.K.Kind c.args.offer.now.words.now c.args.index _ c.args.counts c.args.log.now c.in_default.ensures

pub returns-then-is_full : goal.returns-then-is_full
returns-then-is_full g c = put_full g.M.Memory g.K.Kind c.args.offer.now.words.now c.args.index _ c.args.counts c.args.log.now c.in-Some.ensures.0 (leb-true _ _ (sym c.is_full.ensures ∙ c.if-is_full.true))

pub returns : goal.returns
returns g c = put_comes g.M.Memory g.K.Kind c.args.offer.now.words.now c.args.index _ c.args.counts c.args.log.now c.note_put-counts.result _ _ c.in-Some.ensures.0 c.in-Some.ensures.1 (leb-false _ _ (sym c.is_full.ensures ∙ c.if-is_full.false)) (fed_on g.M.Memory g.K.Kind _ c.make-play.ensures) c.note_put-counts.ensures
