use Rattle.std.proofs.Common.{rules, length}
use borrow.Author.Tests.{tests}
use Rattle.std.proofs.lemmas.Iterator.{YieldsList-from_range}
use Rattle.std.proofs.lemmas.Iterator.Consumers.{nth_from_yields_List, YieldsList-from_filter}
use Rattle.memory.proofs.Lines.{lands, numbered_at}
use Rattle.memory.proofs.line.place_of.Goals as goal

pub returns : goal.returns
returns c =
    let n = length c.args.waiting.now in
    numbered_at c.args.waiting.now c.args.k c.nth.result (nth_from_yields_List c.nth.result _ c.args.k c.nth.ensures.ran (YieldsList-from_filter _ (lands c.args.waiting.now) (YieldsList-from_range 0 n n c.filter.ensures.source (search rules)) c.filter.ensures.closure (λ x b q k. search (rules, tests))))
