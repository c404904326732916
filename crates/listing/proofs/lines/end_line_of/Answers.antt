use Rattle.std.proofs.Common.{◌≡◌, ◌^◌, ◌<◌, ◌++◌, codes, refl, rules, arith}
use Rattle.listing.proofs.Pieces.{end_pieces}
use Rattle.listing.proofs.Sizes.{end_short}
use Rattle.listing.proofs.lines.end_line_of.Goals as goal

pub returns-clause-text : goal.returns-clause-text
returns-clause-text c =
    let first : c.new-text.result.bytes.items ++ codes "end " ≡ codes "end " = rw c.new-text.ensures refl in
    cc (end_pieces c.args.end.now)

pub returns-clause-short : goal.returns-clause-short
returns-clause-short c =
    let n : c.unwrap_or-told.result.number < 256 = search rules in
    let b : c.unwrap_or-told.result.byte < 2 ^ 64 = search rules in
    end_short c.args.end.now (omega arith) (rw c.unwrap_or-told.ensures at n) (rw c.unwrap_or-told.ensures at b)
