-- The range of each number of an item: the one place where a range stands.
use Rattle.std.specs.Prelude.{◌≡◌, ◌⊎◌, List, [], ◌∷◌, ℤ, pos, negsuc, ◌≤ℤ◌, Some, None, Option}
use Rattle.words.specs.declared.faults.ItemFault.{ItemFault}
use Rattle.words.specs.declared.faults.ItemFault.TheVariants.{OutOfRange}
use Rattle.words.specs.declared.parts.Part.{Part}
use Rattle.words.specs.declared.parts.Part.TheVariants.{Deck, Stage, Value, Probe, Tick, Temperature, Ring}
use Rattle.words.specs.declared.settings.Setting.{Setting}
use Rattle.words.specs.declared.settings.Setting.TheVariants.{TopHeat, BottomHeat, Steam, Damper, StageTime}

-- negsuc 499 is -500
abbrev pub least : Part → ℤ
least Deck = pos 1
least Stage = pos 1
least (Value s) = pos 0
least Probe = pos 1
least Tick = pos 0
least Temperature = negsuc 499
least Ring = pos 0

abbrev pub most : Part → ℤ
most Deck = pos 12
most Stage = pos 8
most (Value TopHeat) = pos 350
most (Value BottomHeat) = pos 350
most (Value Steam) = pos 60000
most (Value Damper) = pos 100
most (Value StageTime) = pos 86400
most Probe = pos 4
most Tick = pos 65535
most Temperature = pos 5000
most Ring = pos 7

abbrev pub InRange : Part → ℤ → Type 0
InRange p n = (least p ≤ℤ n) × (n ≤ℤ most p)

-- a number, with the part of an item that it is to be
pub record Number : Type 0 where
  pub part : Part
  pub is : ℤ

-- the fault names the first of these numbers that is out of its range
abbrev pub FirstOut : List Number → ItemFault → Type 0
FirstOut [] f = ⊥
FirstOut (n ∷ l) f =
    ((InRange n.part n.is → ⊥) × (f ≡ OutOfRange n.part)) ⊎ (InRange n.part n.is × FirstOut l f)

-- the numbers of each kind of item, in the order in which they are checked
abbrev pub edit_numbers : Setting → ℤ → ℤ → ℤ → List Number
edit_numbers s deck stage value =
    record { part = Deck; is = deck }
    ∷ (record { part = Stage; is = stage } ∷ (record { part = Value s; is = value } ∷ []))

abbrev pub temperature_numbers : Option ℤ → List Number
temperature_numbers None = []
temperature_numbers (Some tenths) = record { part = Temperature; is = tenths } ∷ []

abbrev pub reading_numbers : ℤ → ℤ → ℤ → Option ℤ → List Number
reading_numbers deck probe tick tenths =
    record { part = Deck; is = deck }
    ∷ (record { part = Probe; is = probe } ∷ (record { part = Tick; is = tick } ∷ temperature_numbers tenths))

abbrev pub ring_numbers : ℤ → List Number
ring_numbers n = record { part = Ring; is = n } ∷ []

-- a temperature, where there is one, is in its range
abbrev pub Measured : Option ℤ → Type 0
Measured o = (tenths : ℤ) → o ≡ Some tenths → InRange Temperature tenths
