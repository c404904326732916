-- A memory call that the lane makes.
use Rattle.std.specs.Prelude.{◌≡◌, length}
use Rattle.memory.specs.declared.Memory as memory
use Rattle.memory.specs.Meaning.{Call, Made}

-- exactly the call k is made, from x to y
abbrev pub Makes : {X : Type 0} → memory.Ghosts X → Call → X → X → Type 0
Makes G k x y = Made G.meaning G.calls k x y

-- exactly the call k, and the memory has as many addresses as before
pub record Called {X : Type 0} (G : memory.Ghosts X) (k : Call) (x y : X) : Type 0 where
  pub call : Makes G k x y
  pub size : length (G.meaning y).landed ≡ length (G.meaning x).landed
