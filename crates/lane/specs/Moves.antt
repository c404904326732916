-- A store with the position that moves on with it.
use Rattle.std.specs.Prelude.{◌≡◌, ℕ}
use Rattle.memory.specs.declared.Memory as memory
use Rattle.memory.specs.declared.Side.{Side}
use Rattle.memory.specs.Meaning.{Store}
use Rattle.lane.specs.declared.sides.Spot.{Spot}
use Rattle.lane.specs.declared.sides.Hand.{Hand}
use Rattle.lane.specs.Layout.{Within, spot_cell, moved_on}
use Rattle.lane.specs.Calls.{Called}

module _ {X : Type 0} (G : memory.Ghosts X) (R N : ℕ) where
  -- the word is stored where the side h stands, and only its position there moves on
  pub record StoredOn {S : Type 0} (s : Side) (spot : Spot) (w : ℕ) (h h' : Hand S) (x y : X) : Type 0 where
    pub call : Called G (Store s (spot_cell R N h.places spot) w) x y
    pub moved : h' ≡ record { stage = h.stage; steps = h.steps; places = moved_on R N h.places spot }
    pub within : Within R N h'.places
