use Rattle.std.proofs.Common.{◌+◌, arith}
use Rattle.listing.proofs.Sizes.{early_at, too_long}
use Rattle.listing.proofs.Whole.{length_more, next_fits}
use Rattle.listing.proofs.listings.listing_length.Goals as goal

pub loop-call-preserved : goal.loop-call-preserved
loop-call-preserved c =
    let n = c.line_length.ensures.counted in (
      omega (arith, c.in_ok-total.ensures, length_more c.args.records.now c.loop-call.call-index c.loop-call-test.true),
      λ early. omega (arith, c.in_ok-total.ensures, c.loop-call.invariant.1 early, c.line_length.ensures.short (early_at c.args.records.now c.loop-call.call-index early c.loop-call-test.true)),
    )

pub returns-in_err-total-clause-counted : goal.returns-in_err-total-clause-counted
returns-in_err-total-clause-counted c =
    let n = c.line_length.ensures.counted in
    rw c.from_residual.ensures (λ h. c.in_err-total.ensures (omega (arith, next_fits c.args.records.now c.args.end.now c.loop-call.call-index c.loop-call-test.true)))

pub returns-in_err-total-clause-short : goal.returns-in_err-total-clause-short
returns-in_err-total-clause-short c =
    rw c.from_residual.ensures (λ early.
    let k = c.line_length.ensures.short (early_at c.args.records.now c.loop-call.call-index early c.loop-call-test.true) in
    too_long (c.loop-call.total + c.line_length.result) _ c.in_err-total.ensures (omega (arith, c.loop-call.invariant.1 early)))
