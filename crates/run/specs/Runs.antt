-- A run: bytes as moves, what they make happen, and the records that they leave.
use Rattle.std.specs.Prelude.{◌≡◌, ℕ, ◌<◌, Bool, true, false, not, List, [], ◌∷◌, ◌++◌, map, length, drop, is_some, Some, None, Option, slice_index}
use Rattle.memory.specs.declared.Side.{Side}
use Rattle.memory.specs.Meaning.{Meaning}
use Rattle.words.specs.declared.kinds.Kind as kind
use Rattle.lane.specs.declared.answers.Ended.{Ended}
use Rattle.lane.specs.declared.answers.PutAnswer.{PutAnswer}
use Rattle.lane.specs.declared.answers.PutAnswer.TheVariants as put
use Rattle.lane.specs.declared.answers.TakeAnswer.{TakeAnswer}
use Rattle.lane.specs.declared.answers.TakeAnswer.TheVariants as take
use Rattle.queue.specs.History.{Event}
use Rattle.queue.specs.History as history
use Rattle.run.specs.declared.orders.Order.{Order}
use Rattle.run.specs.declared.orders.Order.TheVariants.{Feed, Draw, Drain, Land}
use Rattle.run.specs.declared.faults.Stop.{Stop}
use Rattle.run.specs.declared.faults.Stop.TheVariants.{Damaged, UnknownMove, LogFull}
use Rattle.run.specs.declared.records.Record.{Record}
use Rattle.run.specs.Logs.{put_told, take_told, ended_call, at_move}
use Rattle.run.specs.Orders.{Asks, Unknown}

-- where a run stands: the words of the items not yet accepted, of which the first is offered, and whether a put and a take are under way
pub record Standing : Type 0 where
  pub left : List ℕ
  pub putting : Bool
  pub taking : Bool

abbrev pub standing : List ℕ → Bool → Bool → Standing
standing ws p t = record { left = ws; putting = p; taking = t }

-- a call goes on while it has no answer
abbrev pub goes_on : {A : Type 0} → Option (Ended A) → Bool
goes_on a = not (is_some a)

module _ {K : Type 0} where
  -- a step begins a call where none is under way
  abbrev pub begun_put : Bool → K → List (Event K)
  begun_put false i = history.begins_put i ∷ []
  begun_put true i = []

  abbrev pub begun_take : Bool → List (Event K)
  begun_take false = history.begins_take ∷ []
  begun_take true = []

  -- how many items an answer accepts
  abbrev pub accepting : Option (Ended (PutAnswer K)) → ℕ
  accepting None = 0
  accepting (Some e) = elim e.answer [ put.Accepted ↦ 1 | put.NoRing j ↦ 0 | put.Damaged ↦ 0 ]

  -- the answer tells of a damaged word
  abbrev pub put_damaged : Option (Ended (PutAnswer K)) → Bool
  put_damaged None = false
  put_damaged (Some e) = elim e.answer [ put.Accepted ↦ false | put.NoRing j ↦ false | put.Damaged ↦ true ]

  abbrev pub take_damaged : Option (Ended (TakeAnswer K)) → Bool
  take_damaged None = false
  take_damaged (Some e) = elim e.answer [ take.Taken i ↦ false | take.Empty ↦ false | take.Damaged ↦ true ]

-- the move would make a memory call of a put or a take: a drawer step, or a feeder step with an item to offer
pub data Steps : Standing → Order → Type 0 where
  offers : {w : ℕ} {ws : List ℕ} {p t : Bool} → Steps (standing (w ∷ ws) p t) Feed
  draws : {s : Standing} → Steps s Draw

module _ {K : Type 0} (κ : kind.Ghosts K) where
  -- move n is made: what it makes happen, and the record of the call that it ends; an item that is accepted is no longer left
  pub data Makes (n : ℕ) : Standing → Order → List (Event K) → List Record → Standing → Type 0 where
    puts : {i : K} {ws : List ℕ} {p t : Bool} (x y : Meaning) (a : Option (Ended (PutAnswer K))) → put_damaged a ≡ false → Makes n (standing (κ.word i ∷ ws) p t) Feed (begun_put p i ++ (history.steps_put x y a ∷ [])) (map (at_move n) (ended_call (put_told κ i) a)) (standing (drop (accepting a) (κ.word i ∷ ws)) (goes_on a) t)
    -- with no item left a feeder step does nothing
    rests : {p t : Bool} → Makes n (standing [] p t) Feed [] [] (standing [] p t)
    takes : {ws : List ℕ} {p t : Bool} (x y : Meaning) (a : Option (Ended (TakeAnswer K))) → take_damaged a ≡ false → Makes n (standing ws p t) Draw (begun_take t ++ (history.steps_take x y a ∷ [])) (map (at_move n) (ended_call (take_told κ) a)) (standing ws p (goes_on a))
    drains : {s : Standing} → Makes n s Drain (history.drains ∷ []) [] s
    lands : {s : Standing} {side : Side} {pick : ℕ} → Makes n s (Land side pick) (history.lands side pick ∷ []) [] s

  -- a step meets a damaged word: the call is over and leaves no record
  pub data MeetsDamage : Standing → Order → List (Event K) → Type 0 where
    puts : {i : K} {ws : List ℕ} {p t : Bool} (x y : Meaning) (a : Option (Ended (PutAnswer K))) → put_damaged a ≡ true → MeetsDamage (standing (κ.word i ∷ ws) p t) Feed (begun_put p i ++ (history.steps_put x y a ∷ []))
    takes : {s : Standing} (x y : Meaning) (a : Option (Ended (TakeAnswer K))) → take_damaged a ≡ true → MeetsDamage s Draw (begun_take s.taking ++ (history.steps_take x y a ∷ []))

  -- with these words to offer and a log of this many places, these bytes make this history and leave these records;
  -- a step of a call is made only while the log has a place
  pub data Runs (places : ℕ) (words : List ℕ) : List ℕ → List (Event K) → List Record → Standing → Type 0 where
    not_yet : Runs places words [] [] [] (standing words false false)
    one_more : {bytes : List ℕ} {h e : List (Event K)} {rs r : List Record} {s t : Standing} {o : Order} (byte : ℕ) → Runs places words bytes h rs s → Asks byte o → (Steps s o → length rs < places) → Makes (length bytes) s o e r t → Runs places words (bytes ++ (byte ∷ [])) (h ++ e) (rs ++ r) t

  -- why a run has made no more of its moves than these, and what has happened besides
  pub data Stopped (places : ℕ) (moves : List ℕ) (made : ℕ) (rs : List Record) (s : Standing) : Option Stop → List (Event K) → Type 0 where
    all_made : made ≡ length moves → Stopped places moves made rs s None []
    unknown : made < length moves → Unknown (slice_index moves made) → Stopped places moves made rs s (Some (UnknownMove made)) []
    log_full : {o : Order} → made < length moves → Asks (slice_index moves made) o → Steps s o → length rs ≡ places → Stopped places moves made rs s (Some (LogFull made)) []
    damaged : {o : Order} {e : List (Event K)} → made < length moves → Asks (slice_index moves made) o → length rs < places → MeetsDamage s o e → Stopped places moves made rs s (Some (Damaged made)) e
