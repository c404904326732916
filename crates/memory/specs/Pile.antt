-- The controller's own pile: a store buffer of depth 8 over the loose memory.
use Rattle.std.specs.Prelude.{◌≡◌, ℕ, List, []}
use Rattle.std.specs.Borrow.{MutBor}
use Rattle.memory.specs.declared.loose.Loose.{Loose}
use Rattle.memory.specs.declared.buffer.Buffer.{Buffer}
use Rattle.memory.specs.Owner.{SameWords}
use Rattle.memory.specs.Prompt.{quiet}
use Rattle.memory.specs.Loose.{loose_meaning}
use Rattle.memory.specs.Buffer.{parts}

-- a pile over these words, in which nothing waits
pub record Piled (words : MutBor (List ℕ)) (b : Buffer Loose) : Type 0 where
  pub empty : parts b ≡ record { below = b.below; depth = 8; feeder = []; drawer = [] }
  pub below : loose_meaning b.below ≡ quiet words.now
  pub owner : SameWords words b.below.words
