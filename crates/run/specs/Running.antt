-- A run between two moves, and what a move makes of it.
use Rattle.std.specs.Prelude.{◌≡◌, ℕ, ◌+◌, ◌<◌, ◌≤◌, true, false, List, ◌++◌, map, length, take as first, drop, Some, None, Ok, Err, Option, Result, ◌≢◌}
use Rattle.memory.specs.declared.Memory as memory
use Rattle.words.specs.declared.kinds.Kind as kind
use Rattle.lane.specs.declared.answers.Ended.{Ended}
use Rattle.lane.specs.declared.answers.PutAnswer.{PutAnswer}
use Rattle.lane.specs.declared.answers.TakeAnswer.{TakeAnswer}
use Rattle.lane.specs.Moments.{Moment}
use Rattle.lane.specs.Stages.{putting, taking}
use Rattle.queue.specs.History.{Event, Leads}
use Rattle.queue.specs.declared.moves.Said.{Said}
use Rattle.queue.specs.declared.moves.Said.TheVariants.{Nothing, Put, Take}
use Rattle.run.specs.declared.faults.Stop.{Stop}
use Rattle.run.specs.declared.faults.Stop.TheVariants.{Damaged, LogFull}
use Rattle.run.specs.declared.orders.Order.{Order}
use Rattle.run.specs.declared.records.Answer.{Answer}
use Rattle.run.specs.declared.records.Record.{Record}
use Rattle.run.specs.declared.tallies.Counts.{Counts}
use Rattle.run.specs.Logs.{Call, call_of, ended_call, put_told, take_told, at_move}
use Rattle.run.specs.Runs.{Standing, standing, accepting, put_damaged, take_damaged, Steps, Makes, MeetsDamage, Runs}

-- the log with the records of these calls, which move n ended, behind the records that it has
pub record Noted (n : ℕ) (cs : List Call) (calls : ℕ) (log log' : List Record) (calls' : ℕ) : Type 0 where
  pub counted : calls' ≡ calls + length (map (at_move n) cs)
  pub logged : log' ≡ first calls log ++ (map (at_move n) cs ++ drop (calls + length (map (at_move n) cs)) log)

module _ {K : Type 0} where
  -- how the put ended of which a move tells, and the take
  abbrev pub said_put : Said K → Option (Ended (PutAnswer K))
  said_put Nothing = None
  said_put (Put e) = Some e
  said_put (Take e) = None

  abbrev pub said_take : Said K → Option (Ended (TakeAnswer K))
  said_take Nothing = None
  said_take (Put e) = None
  said_take (Take e) = Some e

-- a call that ended is noted, or stops the run where there is nothing to tell of it
abbrev pub CallNoted : ℕ → Option Answer → ℕ → ℕ → List Record → List Record → Result ℕ Stop → Type 0
CallNoted n a steps calls log log' (Ok k) = (a ≢ None) × Noted n (call_of steps a) calls log log' k
CallNoted n a steps calls log log' (Err s) = (a ≡ None) × (s ≡ Damaged n) × (log' ≡ log)

module _ {K : Type 0} (κ : kind.Ghosts K) where
  -- a step of a put of item i, and a step of a take, is noted where it ended the call
  abbrev pub PutNoted : ℕ → K → Option (Ended (PutAnswer K)) → Counts → List Record → List Record → Result Counts Stop → Type 0
  PutNoted n i a c log log' (Ok d) = (put_damaged a ≡ false) × (d.accepted ≡ c.accepted + accepting a) × Noted n (ended_call (put_told κ i) a) c.calls log log' d.calls
  PutNoted n i a c log log' (Err s) = (put_damaged a ≡ true) × (s ≡ Damaged n) × (log' ≡ log)

  abbrev pub TakeNoted : ℕ → Option (Ended (TakeAnswer K)) → Counts → List Record → List Record → Result Counts Stop → Type 0
  TakeNoted n a c log log' (Ok d) = (take_damaged a ≡ false) × (d.accepted ≡ c.accepted) × Noted n (ended_call (take_told κ) a) c.calls log log' d.calls
  TakeNoted n a c log log' (Err s) = (take_damaged a ≡ true) × (s ≡ Damaged n) × (log' ≡ log)

-- where a run stands, by its lane and the number of items accepted
abbrev pub stands_at : {K X : Type 0} → List ℕ → ℕ → Moment K X → Standing
stands_at words accepted m = standing (drop accepted words) (putting m.feeder.stage) (taking m.drawer.stage)

module _ {K X : Type 0} (G : memory.Ghosts X) (κ : kind.Ghosts K) where
  -- move n is made
  pub record Moved (n : ℕ) (words : List ℕ) (o : Order) (c : Counts) (m : Moment K X) (log : List Record) (d : Counts) (m' : Moment K X) (log' : List Record) : Type 0 where
    pub events : List (Event K)
    pub cs : List Call
    pub makes : Makes κ n (stands_at words c.accepted m) o events (map (at_move n) cs) (stands_at words d.accepted m')
    pub leads : Leads G κ m events m'
    pub place : Steps (stands_at words c.accepted m) o → c.calls < length log
    pub noted : Noted n cs c.calls log log' d.calls

  -- move n is not made, for want of a place in the log, or meets a damaged word
  pub data Halted (n : ℕ) (words : List ℕ) (o : Order) (c : Counts) (m : Moment K X) (log : List Record) : Moment K X → Stop → Type 0 where
    full : Steps (stands_at words c.accepted m) o → length log ≤ c.calls → Halted n words o c m log m (LogFull n)
    broken : {m' : Moment K X} {e : List (Event K)} → c.calls < length log → MeetsDamage κ (stands_at words c.accepted m) o e → Leads G κ m e m' → Halted n words o c m log m' (Damaged n)

  -- what becomes of move n
  abbrev pub ComesTo : ℕ → List ℕ → Order → Counts → Moment K X → List Record → Result Counts Stop → Moment K X → List Record → Type 0
  ComesTo n words o c m log (Ok d) m' log' = Moved n words o c m log d m' log'
  ComesTo n words o c m log (Err s) m' log' = Halted n words o c m log m' s × (log' ≡ log)

  -- the run so far
  pub record RunSoFar (start : Moment K X) (words bytes : List ℕ) (before after : List Record) (c : Counts) (m : Moment K X) : Type 0 where
    pub events : List (Event K)
    pub records : List Record
    pub runs : Runs κ (length before) words bytes events records (stands_at words c.accepted m)
    pub leads : Leads G κ start events m
    pub counted : c.calls ≡ length records
    pub few : c.calls ≤ length before
    pub logged : after ≡ records ++ drop c.calls before

-- a lane on which no call is under way
pub record Ready {K X : Type 0} (m : Moment K X) : Type 0 where
  pub no_put : putting m.feeder.stage ≡ false
  pub no_take : taking m.drawer.stage ≡ false
