use Rattle.std.proofs.Common.{length, ap, arith}
use Rattle.listing.proofs.Pieces.{line_length}
use Rattle.listing.proofs.Sizes.{line_short}
use Rattle.listing.proofs.lines.line_length.Goals as goal

pub returns : goal.returns
returns c = record {
  counted = omega (arith, line_length c.args.call.now, ap length c.side_and_answer.ensures.text);
  short = λ h. omega (arith, line_length c.args.call.now, ap length c.side_and_answer.ensures.text, line_short c.args.call.now (omega arith) h);
}
