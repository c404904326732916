-- A move on a lane in play: a step with no call under way begins one.
use Rattle.std.specs.Prelude.{◌≡◌, ℕ}
use Rattle.memory.specs.declared.Memory as memory
use Rattle.memory.specs.declared.Side.{Side}
use Rattle.words.specs.declared.kinds.Kind as kind
use Rattle.lane.specs.Layout.{Shaped}
use Rattle.lane.specs.Moments.{Moment, Landing, Draining}
use Rattle.lane.specs.Openings.{Opens, opened}
use Rattle.queue.specs.declared.moves.Move.{Move}
use Rattle.queue.specs.declared.moves.Move.TheVariants.{Feed, Draw, Drain, Land}
use Rattle.queue.specs.declared.moves.Said.{Said}
use Rattle.queue.specs.declared.moves.Said.TheVariants.{Nothing}
use Rattle.queue.specs.InPlay.{Begun, TakeBegins, PutTurn, TakeTurn}

module _ {K X : Type 0} (G : memory.Ghosts X) (κ : kind.Ghosts K) where
  -- what a move makes of the lane, and what it answers
  pub data Turn : Move K → Moment K X → Said K → Moment K X → Type 0 where
    feeds : {i : K} {m n o : Moment K X} {s : Said K} → Begun i m n → PutTurn G κ n o s → Turn (Feed i) m s o
    draws : {m n o : Moment K X} {s : Said K} → TakeBegins m n → TakeTurn G κ n o s → Turn Draw m s o
    drains : {m n : Moment K X} → Draining G m n → Turn Drain m Nothing n
    lands : {s : Side} {pick : ℕ} {m n : Moment K X} → Landing G s pick m n → Turn (Land s pick) m Nothing n

module _ {K X : Type 0} (G : memory.Ghosts X) where
  -- a lane just opened over x
  pub record JustOpenedOver (number R N : ℕ) (x : X) (m : Moment K X) : Type 0 where
    pub shaped : Shaped R N
    pub opens : Opens G R N x m.memory
    pub is : m ≡ opened number R N m.memory
