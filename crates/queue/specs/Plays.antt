-- A list of moves on a lane: what it makes happen, and what it answers.
use Rattle.std.specs.Prelude.{◌≡◌, ℕ, List, [], ◌∷◌, ◌++◌, length, take as first, drop, Some, None, Option}
use Rattle.memory.specs.declared.Memory as memory
use Rattle.memory.specs.declared.Side.{Side}
use Rattle.memory.specs.Meaning.{Meaning}
use Rattle.words.specs.declared.kinds.Kind as kind
use Rattle.lane.specs.declared.answers.Ended.{Ended}
use Rattle.lane.specs.declared.answers.PutAnswer.{PutAnswer}
use Rattle.lane.specs.declared.answers.TakeAnswer.{TakeAnswer}
use Rattle.lane.specs.Layout.{Shaped}
use Rattle.lane.specs.Moments.{Moment}
use Rattle.lane.specs.Openings.{Opens, opened}
use Rattle.queue.specs.declared.moves.Said.{Said}
use Rattle.queue.specs.declared.moves.Said.TheVariants.{Nothing, Put, Take}
use Rattle.queue.specs.declared.moves.Move.{Move}
use Rattle.queue.specs.declared.moves.Move.TheVariants.{Feed, Draw, Drain, Land}
use Rattle.queue.specs.History.{Event, begins_put, steps_put, begins_take, steps_take, lands, drains, Leads}
use Rattle.queue.specs.Promise.{Promise}

module _ {K : Type 0} where
  -- what a move answers: how the call came out that it ended, if it ended one
  abbrev pub put_said : Option (Ended (PutAnswer K)) → Said K
  put_said None = Nothing
  put_said (Some e) = Put e

  abbrev pub take_said : Option (Ended (TakeAnswer K)) → Said K
  take_said None = Nothing
  take_said (Some e) = Take e

  -- these moves, with these answers, make this history: a step with no call under way begins one
  pub data Plays : List (Move K) → List (Said K) → List (Event K) → Type 0 where
    no_move : Plays [] [] []
    feed_begins : {ms : List (Move K)} {said : List (Said K)} {h : List (Event K)} (i : K) (x y : Meaning) (a : Option (Ended (PutAnswer K))) → Plays ms said h → Plays (Feed i ∷ ms) (put_said a ∷ said) (begins_put i ∷ steps_put x y a ∷ h)
    feed_goes_on : {ms : List (Move K)} {said : List (Said K)} {h : List (Event K)} (i : K) (x y : Meaning) (a : Option (Ended (PutAnswer K))) → Plays ms said h → Plays (Feed i ∷ ms) (put_said a ∷ said) (steps_put x y a ∷ h)
    draw_begins : {ms : List (Move K)} {said : List (Said K)} {h : List (Event K)} (x y : Meaning) (a : Option (Ended (TakeAnswer K))) → Plays ms said h → Plays (Draw ∷ ms) (take_said a ∷ said) (begins_take ∷ steps_take x y a ∷ h)
    draw_goes_on : {ms : List (Move K)} {said : List (Said K)} {h : List (Event K)} (x y : Meaning) (a : Option (Ended (TakeAnswer K))) → Plays ms said h → Plays (Draw ∷ ms) (take_said a ∷ said) (steps_take x y a ∷ h)
    land : {ms : List (Move K)} {said : List (Said K)} {h : List (Event K)} (s : Side) (pick : ℕ) → Plays ms said h → Plays (Land s pick ∷ ms) (Nothing ∷ said) (lands s pick ∷ h)
    drain : {ms : List (Move K)} {said : List (Said K)} {h : List (Event K)} → Plays ms said h → Plays (Drain ∷ ms) (Nothing ∷ said) (drains ∷ h)

module _ {K X : Type 0} (G : memory.Ghosts X) (κ : kind.Ghosts K) where
  -- a lane is opened over x; the moves are made on it, as many as there is place for their answers;
  -- the answers stand at the beginning of the place; the memory is left as y; and the history of all this keeps the promise
  pub record PlayedAsPromised (number R N : ℕ) (ms : List (Move K)) (x : X) (before after : List (Said K)) (y : X) : Type 0 where
    pub shaped : Shaped R N
    pub memory : X
    pub opens : Opens G R N x memory
    pub history : List (Event K)
    pub answers : List (Said K)
    pub plays : Plays (first (length before) ms) answers history
    pub told : after ≡ answers ++ drop (length answers) before
    pub end : Moment K X
    pub leads : Leads G κ (opened number R N memory) history end
    pub left : y ≡ end.memory
    pub promise : Promise R N history
