-- How a log tells of the calls of a history.
use Rattle.std.specs.Prelude.{ℕ, List, [], ◌∷◌, ◌++◌, Some, None, Option}
use Rattle.words.specs.declared.kinds.Kind as kind
use Rattle.lane.specs.declared.answers.Ended.{Ended}
use Rattle.lane.specs.declared.answers.PutAnswer.{PutAnswer}
use Rattle.lane.specs.declared.answers.PutAnswer.TheVariants as put
use Rattle.lane.specs.declared.answers.TakeAnswer.{TakeAnswer}
use Rattle.lane.specs.declared.answers.TakeAnswer.TheVariants as take
use Rattle.queue.specs.History.{Event, begins_put, steps_put, begins_take, steps_take, lands, drains, refuses}
use Rattle.queue.specs.Calls.{PutCall, Account, noted, nothing_yet}
use Rattle.run.specs.declared.records.Answer.{Answer}
use Rattle.run.specs.declared.records.Answer.TheVariants.{Accepted, NoRing, Taken, Empty}
use Rattle.run.specs.declared.records.Record.{Record}

-- a call that is over: how it ended, and in how many own steps
pub record Call : Type 0 where
  pub answer : Answer
  pub steps : ℕ

module _ {K : Type 0} (κ : kind.Ghosts K) where
  -- how the log tells of the answer to a put of item i, and of the answer to a take: of a damaged word it tells nothing
  abbrev pub put_told : K → PutAnswer K → Option Answer
  put_told i put.Accepted = Some (Accepted (κ.word i))
  put_told i (put.NoRing j) = Some (NoRing (κ.word j))
  put_told i put.Damaged = None

  abbrev pub take_told : TakeAnswer K → Option Answer
  take_told (take.Taken i) = Some (Taken (κ.word i))
  take_told take.Empty = Some Empty
  take_told take.Damaged = None

-- the call that is over with this answer, as the log tells of it
abbrev pub call_of : ℕ → Option Answer → List Call
call_of n None = []
call_of n (Some x) = record { answer = x; steps = n } ∷ []

-- the call that a step ends, if it ends one
abbrev pub ended_call : {A : Type 0} → (A → Option Answer) → Option (Ended A) → List Call
ended_call told None = []
ended_call told (Some e) = call_of e.steps (told e.answer)

module _ {K : Type 0} (κ : kind.Ghosts K) where
  abbrev pub put_call : Option (PutCall K) → Option (Ended (PutAnswer K)) → List Call
  put_call None a = []
  put_call (Some c) a = ended_call (put_told κ c.item) a

  -- the call that an event ends, after the calls noted before
  abbrev pub ends : Account K → Event K → List Call
  ends b (begins_put i) = []
  ends b (steps_put x y a) = put_call b.putting a
  ends b begins_take = []
  ends b (steps_take x y a) = ended_call (take_told κ) a
  ends b (lands s p) = []
  ends b drains = []
  ends b refuses = []

  abbrev pub ended_from : Account K → List (Event K) → List Call
  ended_from b [] = []
  ended_from b (e ∷ h) = ends b e ++ ended_from (noted b e) h

  -- the calls of a history that are over, in the order of their answers
  abbrev pub ended_calls : List (Event K) → List Call
  ended_calls h = ended_from nothing_yet h

-- a record without the move that it names, and the record of a call that move n ended
abbrev pub call : Record → Call
call r = record { answer = r.answer; steps = r.steps }

abbrev pub at_move : ℕ → Call → Record
at_move n c = record { index = n; answer = c.answer; steps = c.steps }

-- the word of an item that went in, and of one that came out
abbrev pub in_word : Answer → List ℕ
in_word (Accepted w) = w ∷ []
in_word (NoRing w) = []
in_word (Taken w) = []
in_word Empty = []

abbrev pub out_word : Answer → List ℕ
out_word (Accepted w) = []
out_word (NoRing w) = []
out_word (Taken w) = w ∷ []
out_word Empty = []

-- the words that went in, and those that came out, by a log
abbrev pub words_in : List Record → List ℕ
words_in [] = []
words_in (r ∷ rs) = in_word r.answer ++ words_in rs

abbrev pub words_out : List Record → List ℕ
words_out [] = []
words_out (r ∷ rs) = out_word r.answer ++ words_out rs
