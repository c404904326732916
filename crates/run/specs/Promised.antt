-- What a run leaves, and what is promised of it.
use Rattle.std.specs.Prelude.{◌≡◌, ℕ, List, ◌++◌, map, length, take as first, drop}
use Rattle.memory.specs.declared.Memory as memory
use Rattle.words.specs.declared.kinds.Kind as kind
use Rattle.lane.specs.Moments.{Moment}
use Rattle.lane.specs.Openings.{Openable, Opens, Unopened, opened}
use Rattle.queue.specs.History.{Event, Leads}
use Rattle.queue.specs.Promise.{Promise}
use Rattle.run.specs.declared.faults.RunFault.{RunFault}
use Rattle.run.specs.declared.faults.RunFault.TheVariants.{Opening, Word}
use Rattle.run.specs.declared.records.Record.{Record}
use Rattle.run.specs.declared.tallies.Tally.{Tally}
use Rattle.run.specs.Spelling.{Spelled, FirstOdd}
use Rattle.run.specs.Logs.{call, ended_calls, words_in, words_out}
use Rattle.run.specs.Runs.{Standing, Runs, Stopped}

module _ {K X : Type 0} (G : memory.Ghosts X) (κ : kind.Ghosts K) where
  -- why a run does not begin: opening is refused, or all is well with it and a word is no item's; the memory means what it meant
  abbrev pub Unbegun : ℕ → ℕ → List ℕ → RunFault → X → X → Type 0
  Unbegun R N words (Opening why) x y = Unopened G R N why x y
  Unbegun R N words (Word f) x y = Openable G R N x y × FirstOdd κ words f

  -- the moves are made from this moment on, until the last or a stop; the log has the records of the calls that ended,
  -- and is as it was behind them; the memory is left as y
  pub record MadeMoves (start : Moment K X) (words moves : List ℕ) (before after : List Record) (t : Tally) (y : X) : Type 0 where
    pub events : List (Event K)
    pub records : List Record
    pub stands : Standing
    pub runs : Runs κ (length before) words (first t.moves moves) events records stands
    pub unfinished : List (Event K)
    pub stopped : Stopped κ (length before) moves t.moves records stands t.stop unfinished
    pub end : Moment K X
    pub leads : Leads G κ start (events ++ unfinished) end
    pub left : y ≡ end.memory
    pub counted : t.calls ≡ length records
    pub logged : after ≡ records ++ drop (length records) before

  -- a lane is opened over x and the moves are made on it; the records are the calls of that history which ended, in order,
  -- and the history keeps the promise
  pub record RanAsPromised (R N : ℕ) (words moves : List ℕ) (x : X) (before after : List Record) (t : Tally) (y : X) : Type 0 where
    pub asked : X
    pub openable : Openable G R N x asked
    pub spelled : Spelled κ words
    pub memory : X
    pub opens : Opens G R N asked memory
    pub made : MadeMoves (opened 0 R N memory) words moves before after t y
    pub tells_of_calls : map call made.records ≡ ended_calls κ (made.events ++ made.unfinished)
    pub promise : Promise R N (made.events ++ made.unfinished)
    -- what came out is the first of what went in, and what went in is the first of what was offered, in order
    pub out_as_in : words_out made.records ≡ first (length (words_out made.records)) (words_in made.records)
    pub in_as_offered : words_in made.records ≡ first (length (words_in made.records)) words
