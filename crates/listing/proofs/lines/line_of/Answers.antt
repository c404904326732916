use Rattle.std.proofs.Common.{◌≡◌, ◌++◌, decimal, refl, arith}
use Rattle.listing.proofs.Pieces.{pieces}
use Rattle.listing.proofs.Sizes.{line_short}
use Rattle.listing.proofs.lines.line_of.Goals as goal

pub returns-clause-text : goal.returns-clause-text
returns-clause-text c =
    let first : c.new-text.result.bytes.items ++ decimal c.args.call.now.index ≡ decimal c.args.call.now.index = rw c.new-text.ensures refl in
    cc (pieces c.args.call.now)

pub returns-clause-short : goal.returns-clause-short
returns-clause-short c = line_short c.args.call.now (omega arith)
