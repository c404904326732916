use Rattle.std.proofs.Common.{[], Err, ◌∙◌, ap, subst}
use Rattle.book.specs.Choices.{RunBy}
use Rattle.book.specs.ItemWords.{words_in}
use Rattle.book.specs.Books.{bytes_of}
use Rattle.book.specs.declared.header.Layout.{Layout}
use Rattle.book.proofs.Finishing.{fault_within}
use Rattle.book.proofs.books.run_plan.Goals as goal

pub bad_run-requires : goal.bad_run-requires
bad_run-requires c =
    let h = c.in-Err.ensures in
    let w = c.read_words.ensures ∙ ap words_in c.part_of.ensures in
    let book = c.args.book.now in
    let plan = c.args.plan.now in
    fault_within book plan c.requires c.in-Err.fault c.run.new.log (subst (λ (l : Layout). RunBy plan.settings (words_in (bytes_of l.words book)) (bytes_of l.moves book) (Err c.in-Err.fault) []) c.requires.layout (rw (w, c.part_of-2.ensures) at h))
