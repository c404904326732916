use Rattle.std.proofs.Common.{arith}
use Rattle.listing.proofs.Whole.{some_text}
use Rattle.listing.proofs.listings.put_listing.Goals as goal

pub returns-then-total-place-clause-within : goal.returns-then-total-place-clause-within
returns-then-total-place-clause-within c =
    (omega (arith, some_text c.args.records.now c.args.end.now, c.put_lines.ensures.counted), omega (arith, c.put_lines.ensures.counted, c.in_ok-total.ensures.counted))
