use Rattle.std.proofs.Common.{arith}
use Rattle.listing.proofs.Digits.{one_digit, one_more, few}
use Rattle.listing.proofs.texts.+decimal_length.Goals as goal

pub returns-then-n-lt10 : goal.returns-then-n-lt10
returns-then-n-lt10 t c = record { counted = omega (arith, one_digit c.args.n c.if-n-lt10.true); few = (omega arith, omega arith) }

pub returns-else-n-lt10 : goal.returns-else-n-lt10
returns-else-n-lt10 t c =
    let e = one_more c.args.n c.if-n-lt10.false (omega arith) in
    let f = few c.args.n (omega arith) in
    let h = c.decimal_length.ensures.counted in
    record { counted = omega arith; few = (omega arith, omega arith) }
