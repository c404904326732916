use Rattle.run.proofs.Moving.{drain_comes, land_comes}
use Rattle.run.proofs.running.obey.Goals as goal

pub returns-in-Drain : goal.returns-in-Drain
returns-in-Drain g c = rw c.in-Drain.is (drain_comes g.M.Memory g.K.Kind c.args.offer.now.words.now c.args.index _ c.args.counts c.args.log.now _ c.make-play.ensures)

pub returns-in-Land : goal.returns-in-Land
returns-in-Land g c = rw c.in-Land.is (land_comes g.M.Memory g.K.Kind c.args.offer.now.words.now c.args.index _ c.args.counts c.args.log.now c.in-Land.side c.in-Land.pick _ c.make-play-in-Land.ensures)
