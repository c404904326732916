use Rattle.std.proofs.Common.{◌≡◌, suc, ◌+◌, ◌-◌, length-set, arith}
use Rattle.listing.proofs.Digits.{next_digit}
use Rattle.listing.proofs.texts.digits_of.Goals as goal

pub loop-i-preserved : goal.loop-i-preserved
loop-i-preserved c =
    let k = 15 - c.loop-i.i in
    let a : 16 - (c.loop-i.i + 1) ≡ k = omega arith in
    let b : 16 - c.loop-i.i ≡ suc k = omega arith in
    (rw length-set c.loop-i.invariant.0, rw a (next_digit k c.loop-i.rest _ c.loop-i.digits _ (omega (arith, c.loop-i.invariant.0)) c.hexadecimal_digit.ensures (rw b at c.loop-i.invariant.1)))
