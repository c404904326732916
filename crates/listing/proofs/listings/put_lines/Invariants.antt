use Rattle.std.proofs.Common.{take}
use Rattle.listing.specs.Places.{Written}
use Rattle.listing.specs.Listing.{lines}
use Rattle.listing.proofs.listings.put_lines.Given as goal

abbrev pub invariant-loop-call : goal.invariant-loop-call
invariant-loop-call l = Written (lines (take l.call-index l.records)) l.initial.place l.place l.at
