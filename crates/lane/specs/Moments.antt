-- A lane as it is met between two steps, and what a step, a landing and a drain make of it.
use Rattle.std.specs.Prelude.{◌≡◌, ℕ, Option}
use Rattle.memory.specs.declared.Memory as memory
use Rattle.memory.specs.declared.Side.{Side}
use Rattle.memory.specs.Meaning.{Land, Drain}
use Rattle.words.specs.declared.kinds.Kind as kind
use Rattle.lane.specs.Hands.{Feeder, Drawer}
use Rattle.lane.specs.declared.answers.Ended.{Ended}
use Rattle.lane.specs.declared.answers.PutAnswer.{PutAnswer}
use Rattle.lane.specs.declared.answers.TakeAnswer.{TakeAnswer}
use Rattle.lane.specs.declared.lanes.Lane.{Lane}
use Rattle.lane.specs.Calls.{Makes}
use Rattle.lane.specs.PutTable.{PutRow}
use Rattle.lane.specs.TakeTable.{TakeRow}

pub record Moment (K X : Type 0) : Type 0 where
  pub number : ℕ
  pub rings : ℕ
  pub cells : ℕ
  pub memory : X
  pub feeder : Feeder K
  pub drawer : Drawer K

module _ {K X : Type 0} where
  abbrev pub moment : {κ : kind.Ghosts K} {G : memory.Ghosts X} → Lane K X κ G → Moment K X
  moment l = record { number = l.number; rings = l.shape.rings; cells = l.shape.cells; memory = l.memory; feeder = l.feeder; drawer = l.drawer }

  -- m with another memory and another feeder, another drawer, or both sides as they were
  abbrev pub fed : Moment K X → X → Feeder K → Moment K X
  fed m y f = record { number = m.number; rings = m.rings; cells = m.cells; memory = y; feeder = f; drawer = m.drawer }

  abbrev pub drawn : Moment K X → X → Drawer K → Moment K X
  drawn m y d = record { number = m.number; rings = m.rings; cells = m.cells; memory = y; feeder = m.feeder; drawer = d }

  abbrev pub remembering : Moment K X → X → Moment K X
  remembering m y = record { number = m.number; rings = m.rings; cells = m.cells; memory = y; feeder = m.feeder; drawer = m.drawer }

module _ {K X : Type 0} (G : memory.Ghosts X) (κ : kind.Ghosts K) where
  -- a step of a put, with its answer where the put is over: one row of the table, and nothing else changes
  pub record PutStep (m n : Moment K X) (a : Option (Ended (PutAnswer K))) : Type 0 where
    pub row : PutRow G κ m.rings m.cells m.feeder m.memory n.feeder n.memory a
    pub after : n ≡ fed m n.memory n.feeder

  pub record TakeStep (m n : Moment K X) (a : Option (Ended (TakeAnswer K))) : Type 0 where
    pub row : TakeRow G κ m.rings m.cells m.drawer m.memory n.drawer n.memory a
    pub after : n ≡ drawn m n.memory n.drawer

module _ {K X : Type 0} (G : memory.Ghosts X) where
  -- a landing, or a drain: only the memory changes
  pub record Landing (s : Side) (pick : ℕ) (m n : Moment K X) : Type 0 where
    pub call : Makes G (Land s pick) m.memory n.memory
    pub after : n ≡ remembering m n.memory

  pub record Draining (m n : Moment K X) : Type 0 where
    pub call : Makes G Drain m.memory n.memory
    pub after : n ≡ remembering m n.memory
