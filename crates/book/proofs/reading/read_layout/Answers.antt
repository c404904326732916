use Rattle.std.proofs.lemmas.Result.{err_from_is_err_and}
use Rattle.book.proofs.Pairs.{pairs_refused}
use Rattle.book.proofs.reading.read_layout.Goals as goal

pub returns-in_err-check_pairs-clause-judged : goal.returns-in_err-check_pairs-clause-judged
returns-in_err-check_pairs-clause-judged c =
    let p = err_from_is_err_and c.from_residual-in_err-check_pairs.result c.from_residual-in_err-check_pairs.ensures.1 in
    let h = c.in-Some.ensures in
    rw (p.1, p.2) (pairs_refused c.args.book.now c.in-Some.header _ c.in_ok-check.ensures h.1 h.0 c.in_err-check_pairs.ensures)
