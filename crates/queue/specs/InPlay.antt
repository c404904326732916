-- A lane in play, with the ends that fit it.
use Rattle.std.specs.Prelude.{◌≡◌, ◌≢◌, List, ◌++◌, length, drop, Some, None, Option}
use Rattle.memory.specs.declared.Memory as memory
use Rattle.words.specs.declared.kinds.Kind as kind
use Rattle.lane.specs.declared.sides.Put.TheVariants as put
use Rattle.lane.specs.declared.sides.Take.TheVariants as take
use Rattle.lane.specs.declared.answers.Ended.{Ended}
use Rattle.lane.specs.Moments.{Moment, PutStep, TakeStep}
use Rattle.lane.specs.Ends.{put_begun, take_begun}
use Rattle.queue.specs.declared.moves.Move.{Move}
use Rattle.queue.specs.declared.moves.Said.{Said}
use Rattle.queue.specs.declared.moves.Said.TheVariants.{Nothing}
use Rattle.queue.specs.History.{Event, Leads}
use Rattle.queue.specs.Plays.{Plays, put_said, take_said}

-- a call is under way, or one begins, so that m becomes as it is due
pub data Begins {T Y : Type 0} (idle stage : T) (m due : Y) : Y → Type 0 where
  goes_on : (stage ≢ idle) → Begins idle stage m due m
  begins : stage ≡ idle → Begins idle stage m due due

-- a step, by what it says: its answer, where it ends the call
pub record Says {A K : Type 0} (Step : Option (Ended A) → Type 0) (said : Option (Ended A) → Said K) (s : Said K) : Type 0 where
  pub answer : Option (Ended A)
  pub step : Step answer
  pub says : s ≡ said answer

-- what a step with this answer says: nothing while the call goes on, else what say makes of the answer
abbrev pub SaidBy : {A K : Type 0} → (Ended A → Said K → Type 0) → Option (Ended A) → Said K → Type 0
SaidBy say None s = s ≡ Nothing
SaidBy say (Some a) s = say a s

module _ {K X : Type 0} where
  -- a put is under way, or one of this item begins
  abbrev pub Begun : K → Moment K X → Moment K X → Type 0
  Begun i m n = Begins put.Idle m.feeder.stage m (put_begun m i) n

  -- a take is under way, or one begins
  abbrev pub TakeBegins : Moment K X → Moment K X → Type 0
  TakeBegins m n = Begins take.Idle m.drawer.stage m (take_begun m) n

module _ {K X : Type 0} (G : memory.Ghosts X) (κ : kind.Ghosts K) where
  abbrev pub PutTurn : Moment K X → Moment K X → Said K → Type 0
  PutTurn m n s = Says (PutStep G κ m n) put_said s

  abbrev pub TakeTurn : Moment K X → Moment K X → Said K → Type 0
  TakeTurn m n s = Says (TakeStep G κ m n) take_said s

module _ {K X : Type 0} (G : memory.Ghosts X) (κ : kind.Ghosts K) where
  -- the moves lead from one moment to another, with these answers
  pub record Going (start : Moment K X) (ms : List (Move K)) (answers : List (Said K)) (end : Moment K X) : Type 0 where
    pub history : List (Event K)
    pub plays : Plays ms answers history
    pub leads : Leads G κ start history end

  -- and the answers stand at the beginning of the place
  pub record Noted (start : Moment K X) (ms : List (Move K)) (before after : List (Said K)) (end : Moment K X) : Type 0 where
    pub answers : List (Said K)
    pub going : Going start ms answers end
    pub stands : after ≡ answers ++ drop (length answers) before
