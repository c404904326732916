use Rattle.book.proofs.Passing.{planned}
use Rattle.book.proofs.plans.read_plan.Goals as goal

pub returns-clause-planned : goal.returns-clause-planned
returns-clause-planned c =
    let l = c.in_ok-layout.ensures in
    let s = c.in_ok-settings.ensures in
    planned c.args.book.now c.in_ok-layout.layout c.in_ok-settings.settings l.judged l.layout s.judged s.settled
