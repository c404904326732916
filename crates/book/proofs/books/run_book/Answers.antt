use Rattle.book.proofs.Finishing.{stop_within, calls_few, early}
use Rattle.book.proofs.books.run_book.Goals as goal

pub shared_ref_as_front-result : goal.shared_ref_as_front-result
shared_ref_as_front-result c = calls_few c.args.book.now c.in_ok-plan.plan c.in_ok-tally.tally c.run_plan.new.log c.in_ok-tally.ensures

pub end_of-requires : goal.end_of-requires
end_of-requires c = stop_within c.args.book.now c.in_ok-plan.plan c.in_ok-plan.ensures.planned c.in_ok-tally.tally c.run_plan.new.log c.in_ok-tally.ensures

pub returns-clause-early : goal.returns-clause-early
returns-clause-early c = early c.args.book.now c.in_ok-plan.plan c.in_ok-plan.ensures.planned c.in_ok-tally.tally c.run_plan.new.log c.in_ok-tally.ensures
