-- How items and faults read in text.
use Rattle.std.specs.Prelude.{ℕ, suc, ◌/◌, ◌%◌, List, ◌∷◌, ◌++◌, ℤ, pos, negsuc, Some, None, codes, decimal, Option}
use Rattle.std.specs.Fmt.{signed_decimal}
use Rattle.words.specs.declared.edits.Edit.{Edit}
use Rattle.words.specs.declared.faults.ItemFault.{ItemFault}
use Rattle.words.specs.declared.faults.ItemFault.TheVariants.{OutOfRange, NoItem}
use Rattle.words.specs.declared.parts.Part.{Part}
use Rattle.words.specs.declared.parts.Part.TheVariants.{Deck, Stage, Value, Probe, Tick, Temperature, Ring}
use Rattle.words.specs.declared.readings.Reading.{Reading}
use Rattle.words.specs.declared.rings.RingNumber.{RingNumber}
use Rattle.words.specs.Ranges.{least, most}
use Rattle.words.specs.Settings.{name, unit}

abbrev pub edit_text : Edit → List ℕ
edit_text e =
    codes "edit " ++ (name e.setting
    ++ (codes " " ++ (decimal e.deck ++ (codes " " ++ (decimal e.stage ++ (codes " " ++ decimal e.value))))))

-- tenths of a degree, as degrees with one place
abbrev pub one_place : ℕ → List ℕ
one_place n = decimal (n / 10) ++ (codes "." ++ decimal (n % 10))

abbrev pub degrees : ℤ → List ℕ
degrees (pos n) = one_place n
degrees (negsuc n) = codes "-" ++ one_place (suc n)

abbrev pub temperature_text : Option ℤ → List ℕ
temperature_text None = codes "open"
temperature_text (Some tenths) = degrees tenths

abbrev pub reading_text : Reading → List ℕ
reading_text r =
    codes "reading " ++ (decimal r.deck
    ++ (codes " " ++ (decimal r.probe
    ++ (codes " " ++ (decimal r.tick ++ (codes " " ++ temperature_text r.tenths))))))

abbrev pub ring_text : RingNumber → List ℕ
ring_text n = codes "ring " ++ decimal n.number

abbrev pub part_text : Part → List ℕ
part_text Deck = codes "deck"
part_text Stage = codes "stage"
part_text (Value s) = name s ++ (codes " in " ++ unit s)
part_text Probe = codes "probe"
part_text Tick = codes "tick"
part_text Temperature = codes "temperature in tenths of " ++ (194 ∷ 176 ∷ codes "C")
part_text Ring = codes "ring"

abbrev pub fault_text : ItemFault → List ℕ
fault_text (OutOfRange p) = part_text p ++ (codes " must be " ++ (signed_decimal (least p) ++ (codes " to " ++ signed_decimal (most p))))
fault_text (NoItem w) = codes "this is the word of no such item"
