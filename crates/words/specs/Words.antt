-- The word of each kind of item. A word has 64 bits; byte 7 is the most significant.
use Rattle.std.specs.Prelude.{ℕ, ◌+◌, ◌*◌, ◌^◌, cond, ℤ, Some, None, Option, ◌==◌}
use Rattle.std.specs.Int.{w16, cast_unsigned, cast_signed}
use Rattle.words.specs.declared.edits.Edit.{Edit}
use Rattle.words.specs.declared.readings.Reading.{Reading}
use Rattle.words.specs.declared.rings.RingNumber.{RingNumber}
use Rattle.words.specs.Settings.{code}

-- n, with its lowest byte in byte k
abbrev pub byte : ℕ → ℕ → ℕ
byte k n = n * 256 ^ k

abbrev pub edit_word : Edit → ℕ
edit_word e = byte 7 (code e.setting) + byte 6 e.deck + byte 5 e.stage + byte 4 0 + byte 0 e.value

-- a temperature in two's complement of 16 bits; that of an open probe is 0x8000
abbrev pub temperature_bits : Option ℤ → ℕ
temperature_bits None = 0x8000
temperature_bits (Some tenths) = cast_unsigned w16 tenths

-- the temperature that 16 bits stand for
abbrev pub bits_temperature : ℕ → Option ℤ
bits_temperature n = cond (n == 0x8000) None (Some (cast_signed w16 n))

abbrev pub reading_word : Reading → ℕ
reading_word r =
    byte 7 16 + byte 6 r.deck + byte 5 r.probe + byte 4 0 + byte 2 r.tick
    + byte 0 (temperature_bits r.tenths)

abbrev pub ring_word : RingNumber → ℕ
ring_word n = n.number + 1
