use Rattle.std.proofs.Common.{rules, length, ◌∙◌}
use borrow.Author.Tests.{tests}
use Rattle.std.specs.List.{range_with_len}
use Rattle.std.proofs.lemmas.List.Sums.{length-filter}
use Rattle.std.proofs.lemmas.Iterator.{YieldsList-from_range}
use Rattle.std.proofs.lemmas.Iterator.Consumers.{count_from_yields_List, YieldsList-from_filter}
use Rattle.memory.proofs.Lines.{lands, count_all}
use Rattle.memory.proofs.line.count_ready.Goals as goal

pub returns : goal.returns
returns c f =
    let n = length c.args.waiting.now in
    let test = lands c.args.waiting.now in
    count_from_yields_List c.filter.result c.count.result c.count.ensures.ran (YieldsList-from_filter _ test (YieldsList-from_range 0 n n c.filter.ensures.source (search rules)) c.filter.ensures.closure (λ x b q k. search (rules, tests)))
    ∙ (length-filter test (range_with_len 0 n) ∙ count_all c.args.waiting.now f)
