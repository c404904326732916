use Rattle.std.proofs.Common.{arith}
use Rattle.book.proofs.Pairs.{walked, header_is, third_length}
use Rattle.book.proofs.reading.take_header.Goals as goal

pub returns : goal.returns
returns c =
    let s = c.in_ok-settings.ensures in
    let w = c.in_ok-words.ensures in
    let m = c.in_ok-moves.ensures in
    let k = walked c.args.book.now _ _ s.1 w.1 in
    (header_is k s.0 w.0 m.0, omega (arith, third_length k))
