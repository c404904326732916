-- What follows from the rules for any memory, and what the loose memory makes of two waiting stores.
use Rattle.std.specs.Prelude.{◌≡◌, ℕ, ◌<◌, List, [], ◌∷◌, length, slice_index}
use Rattle.memory.specs.declared.Side.{Side}
use Rattle.memory.specs.declared.Side.TheVariants.{Feeder}
use Rattle.memory.specs.Meaning.{Entry, store, bar, Meaning, line, Lands, Call, Land, Rule}
use Rattle.memory.specs.Loose.{LooseCall}

-- every store of a line is to an address below n
abbrev pub StoresBelow : ℕ → List Entry → Type 0
StoresBelow n [] = Unit {0}
StoresBelow n (bar ∷ l) = StoresBelow n l
StoresBelow n (store a w ∷ l) = (a < n) × StoresBelow n l

-- every waiting store has an address of the memory
abbrev pub Addressed : Meaning → Type 0
Addressed m = (s : Side) → StoresBelow (length m.landed) (line s m)

-- no store is lost: from a memory in which nothing waits, every waiting store always has its address, and lands there
pub record NoStoreLost : Type 0 where
  pub at_first : (v : List ℕ) → Addressed (record { landed = v; feeder = []; drawer = [] })
  pub kept : (k : Call) (m o : Meaning) → Rule k m o → Addressed m → Addressed o
  pub lands : (s : Side) (a w : ℕ) (m n : Meaning) → Addressed m → Lands s a w m n → slice_index n.landed a ≡ w

-- two stores of the feeder to different addresses, with nothing or a bar between them
abbrev pub two_stores : Meaning
two_stores = record { landed = 0 ∷ 0 ∷ []; feeder = store 0 5 ∷ store 1 6 ∷ []; drawer = [] }

abbrev pub two_barred : Meaning
two_barred = record { landed = 0 ∷ 0 ∷ []; feeder = store 0 5 ∷ bar ∷ store 1 6 ∷ []; drawer = [] }

-- on the loose memory pick 1 lands the younger; with a bar between, the older
pub record LoosePicks : Type 0 where
  pub younger : (o : Meaning) → LooseCall (Land Feeder 1) two_stores o → o ≡ record { landed = 0 ∷ 6 ∷ []; feeder = store 0 5 ∷ []; drawer = [] }
  pub older : (o : Meaning) → LooseCall (Land Feeder 1) two_barred o → o ≡ record { landed = 5 ∷ 0 ∷ []; feeder = store 1 6 ∷ []; drawer = [] }
