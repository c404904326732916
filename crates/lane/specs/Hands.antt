-- A side at the beginning, and as a call leaves it.
use Rattle.std.specs.Prelude.{ℕ, ◌+◌, replicate, Some, Option}
use Rattle.lane.specs.declared.sides.Places.{Places}
use Rattle.lane.specs.declared.sides.Hand.{Hand}
use Rattle.lane.specs.declared.sides.Put.{Put}
use Rattle.lane.specs.declared.sides.Take.{Take}
use Rattle.lane.specs.declared.answers.Ended.{Ended}

abbrev pub Feeder : Type 0 → Type 0
Feeder K = Hand (Put K)

abbrev pub Drawer : Type 0 → Type 0
Drawer K = Hand (Take K)

abbrev pub first_places : ℕ → Places
first_places free = record { ring = 0; at = replicate 8 0; next = 0; free = free }

module _ {S : Type 0} where
  -- no call is under way
  abbrev pub hand_done : S → Places → Hand S
  hand_done idle p = record { stage = idle; steps = 0; places = p }

  abbrev pub first_hand : S → ℕ → Hand S
  first_hand idle free = hand_done idle (first_places free)

  module _ (h : Hand S) where
    -- a call begins, with no step yet
    abbrev pub hand_begun : S → Hand S
    hand_begun s = record { stage = s; steps = 0; places = h.places }

    -- one step more, and the call stands at s, with these positions
    abbrev pub hand_to : S → Places → Hand S
    hand_to s p = record { stage = s; steps = h.steps + 1; places = p }

    -- the answer of a call, with the number of its own steps
    abbrev pub over : {A : Type 0} → A → Option (Ended A)
    over a = Some (record { answer = a; steps = h.steps + 1 })
