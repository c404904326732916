use Rattle.std.proofs.Common.{sym, ◌∙◌, leb-false, leb-true}
use Rattle.run.proofs.Moving.{take_full, take_comes}
use Rattle.run.proofs.Turning.{drawn_on}
use Rattle.run.proofs.running.take.Goals as goal

pub returns-then-is_full : goal.returns-then-is_full
returns-then-is_full g c = take_full g.M.Memory g.K.Kind c.args.offer.now.words.now c.args.index _ c.args.counts c.args.log.now (leb-true _ _ (sym c.is_full.ensures ∙ c.if-is_full.true))

pub returns : goal.returns
returns g c = take_comes g.M.Memory g.K.Kind c.args.offer.now.words.now c.args.index _ c.args.counts c.args.log.now c.note_take-counts.result _ _ (leb-false _ _ (sym c.is_full.ensures ∙ c.if-is_full.false)) (drawn_on g.M.Memory g.K.Kind _ c.make-play.ensures) c.note_take-counts.ensures
