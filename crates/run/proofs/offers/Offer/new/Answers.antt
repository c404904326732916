use Rattle.run.proofs.Spelling.{spelled_more, spelled_all, spelled_at}
use Rattle.run.proofs.offers.Offer.new.Goals as goal

pub loop-index-preserved : goal.loop-index-preserved
loop-index-preserved g c = spelled_more g.K.Kind c.args.words.now c.loop-index.index c.in_default.field-0 c.loop-index-test.true c.in_default.ensures c.loop-index.invariant

pub invariant_of-result : goal.invariant_of-result
invariant_of-result g c = record { all_read = λ n h no. (let p = spelled_at g.K.Kind c.args.words.now n h (spelled_all g.K.Kind c.args.words.now c.loop-index.index c.loop-index-test.false c.loop-index.invariant) in no p.0 p.1) }
