use Rattle.std.proofs.Common.{◌≡◌, ◌-◌, ◌++◌, length, drop}
use Rattle.listing.specs.Numerals.{hexadecimal}
use Rattle.listing.proofs.texts.digits_of.Given as goal

abbrev pub invariant-loop-i : goal.invariant-loop-i
invariant-loop-i l = (length l.digits ≡ 16) × (hexadecimal (16 - l.i) l.rest ++ drop (16 - l.i) l.digits ≡ hexadecimal 16 l.word)
