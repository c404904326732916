-- What happens on a lane, one event after another.
use Rattle.std.specs.Prelude.{◌≡◌, ℕ, List, [], ◌∷◌, Option}
use Rattle.memory.specs.declared.Memory as memory
use Rattle.memory.specs.declared.Side.{Side}
use Rattle.memory.specs.Meaning.{Meaning}
use Rattle.words.specs.declared.kinds.Kind as kind
use Rattle.lane.specs.declared.sides.Put.TheVariants as put
use Rattle.lane.specs.declared.sides.Take.TheVariants as take
use Rattle.lane.specs.declared.answers.Ended.{Ended}
use Rattle.lane.specs.declared.answers.PutAnswer.{PutAnswer}
use Rattle.lane.specs.declared.answers.TakeAnswer.{TakeAnswer}
use Rattle.lane.specs.Moments.{Moment, PutStep, TakeStep, Landing, Draining}
use Rattle.lane.specs.Ends.{put_begun, take_begun}

-- what has happened; a step with what the memory meant as it met it and as it left it, and the answer of the call that it ended, if any
pub data Event (K : Type 0) : Type 0 where
  begins_put : K → Event K
  steps_put : Meaning → Meaning → Option (Ended (PutAnswer K)) → Event K
  begins_take : Event K
  steps_take : Meaning → Meaning → Option (Ended (TakeAnswer K)) → Event K
  lands : Side → ℕ → Event K
  drains : Event K
  -- a call through an end that is not the lane's is refused, by 5
  refuses : Event K

module _ {K X : Type 0} (G : memory.Ghosts X) (κ : kind.Ghosts K) where
  -- an event takes the lane from one moment to the next; a step makes one row of its table
  pub data Happens : Event K → Moment K X → Moment K X → Type 0 where
    put_begins : {m n : Moment K X} {i : K} → m.feeder.stage ≡ put.Idle → n ≡ put_begun m i → Happens (begins_put i) m n
    put_steps : {m n : Moment K X} {a : Option (Ended (PutAnswer K))} → PutStep G κ m n a → Happens (steps_put (G.meaning m.memory) (G.meaning n.memory) a) m n
    take_begins : {m n : Moment K X} → m.drawer.stage ≡ take.Idle → n ≡ take_begun m → Happens begins_take m n
    take_steps : {m n : Moment K X} {a : Option (Ended (TakeAnswer K))} → TakeStep G κ m n a → Happens (steps_take (G.meaning m.memory) (G.meaning n.memory) a) m n
    landing : {m n : Moment K X} {s : Side} {pick : ℕ} → Landing G s pick m n → Happens (lands s pick) m n
    draining : {m n : Moment K X} → Draining G m n → Happens drains m n
    refused : {m : Moment K X} → Happens refuses m m

  -- the events lead from the first moment to the last
  pub data Leads : Moment K X → List (Event K) → Moment K X → Type 0 where
    at_rest : {m : Moment K X} → Leads m [] m
    first : {m n o : Moment K X} {e : Event K} {h : List (Event K)} → Happens e m n → Leads n h o → Leads m (e ∷ h) o
