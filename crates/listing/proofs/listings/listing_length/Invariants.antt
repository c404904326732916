use Rattle.std.proofs.Common.{◌≡◌, ◌*◌, ◌≤◌, length, take}
use Rattle.listing.specs.Bounds.{Early}
use Rattle.listing.specs.Listing.{lines}
use Rattle.listing.proofs.listings.listing_length.Given as goal

abbrev pub invariant-loop-call : goal.invariant-loop-call
invariant-loop-call l = (l.total ≡ length (lines (take l.call-index l.records))) × (Early l.records → l.total ≤ 37 * l.call-index)
