use Rattle.std.proofs.Common.{take}
use Rattle.run.specs.Spelling.{Spelled}
use Rattle.run.proofs.offers.Offer.new.Given as goal

abbrev pub invariant-loop-index : goal.invariant-loop-index
invariant-loop-index g l = Spelled g.K.Kind (take l.index l.words)
