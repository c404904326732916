-- The calls of a history and the line of items, read off its events alone: items offered, answers, and what the memory meant.
use Rattle.std.specs.Prelude.{ℕ, ◌-◌, ◌*◌, Bool, true, false, ◌&&◌, List, [], ◌∷◌, ◌++◌, length, drop, Some, None, Option}
use Rattle.memory.specs.declared.Side.TheVariants.{Feeder}
use Rattle.memory.specs.Meaning.{Meaning}
use Rattle.lane.specs.declared.answers.Ended.{Ended}
use Rattle.lane.specs.declared.answers.PutAnswer.{PutAnswer}
use Rattle.lane.specs.declared.answers.PutAnswer.TheVariants as put
use Rattle.lane.specs.declared.answers.TakeAnswer.{TakeAnswer}
use Rattle.lane.specs.declared.answers.TakeAnswer.TheVariants as take
use Rattle.queue.specs.Waiting.{waiting_below}
use Rattle.queue.specs.History.{Event, begins_put, steps_put, begins_take, steps_take, lands, drains, refuses}

-- a call that is over after n own steps
abbrev pub ended : {A : Type 0} → A → ℕ → Option (Ended A)
ended a n = Some (record { answer = a; steps = n })

-- what a step meets: the items accepted and not taken, oldest first, and what the memory means
pub record Sight (K : Type 0) : Type 0 where
  pub untaken : List K
  pub memory : Meaning

-- how many stores the feeder has waiting for cells of the rings: each is the store of an untaken item
abbrev pub waiting_for_cells : {K : Type 0} → ℕ → ℕ → Sight K → ℕ
waiting_for_cells R N s = waiting_below (R * N) Feeder s.memory

-- how many of the untaken items have arrived: their stores no longer wait
abbrev pub arrived : {K : Type 0} → ℕ → ℕ → Sight K → ℕ
arrived R N s = length s.untaken - waiting_for_cells R N s

-- a put: the item that it offers, what each of its own steps met, and its answer once it is over
pub record PutCall (K : Type 0) : Type 0 where
  pub item : K
  pub met : List (Sight K)
  pub answer : Option (Ended (PutAnswer K))

-- a take: whether it began right after a drain with both sides idle, the items untaken when it began, and the rest as for a put
pub record TakeCall (K : Type 0) : Type 0 where
  pub after_drain : Bool
  pub began : List K
  pub met : List (Sight K)
  pub answer : Option (Ended (TakeAnswer K))

module _ {K : Type 0} where
  -- the item that an answer accepts, and the item that an answer gives
  abbrev pub if_accepted : Option (Ended (PutAnswer K)) → K → List K
  if_accepted None i = []
  if_accepted (Some e) i = elim e.answer [ put.Accepted ↦ i ∷ [] | put.NoRing j ↦ [] | put.Damaged ↦ [] ]

  abbrev pub if_taken : Option (Ended (TakeAnswer K)) → List K
  if_taken None = []
  if_taken (Some e) = elim e.answer [ take.Taken i ↦ i ∷ [] | take.Empty ↦ [] | take.Damaged ↦ [] ]

  -- the items accepted, and the items taken, by these calls
  abbrev pub accepted_by : List (PutCall K) → List K
  accepted_by [] = []
  accepted_by (c ∷ cs) = if_accepted c.answer c.item ++ accepted_by cs

  abbrev pub taken_by : List (TakeCall K) → List K
  taken_by [] = []
  taken_by (c ∷ cs) = if_taken c.answer ++ taken_by cs

-- the calls that are over, in the order of their answers; the calls under way; and whether a drain came last, with both sides idle
pub record Account (K : Type 0) : Type 0 where
  pub puts : List (PutCall K)
  pub takes : List (TakeCall K)
  pub putting : Option (PutCall K)
  pub taking : Option (TakeCall K)
  pub drained : Bool

abbrev pub idle : {C : Type 0} → Option C → Bool
idle None = true
idle (Some c) = false

-- the call under way, if one is
abbrev pub under_way : {C : Type 0} → Option C → List C
under_way None = []
under_way (Some c) = c ∷ []

module _ {K : Type 0} where
  abbrev pub nothing_yet : Account K
  nothing_yet = record { puts = []; takes = []; putting = None; taking = None; drained = false }

  -- the line after these calls: accepted without the first, which were taken
  abbrev pub untaken_of : Account K → List K
  untaken_of b = drop (length (taken_by b.takes)) (accepted_by b.puts)

  -- what a step meets after these calls
  abbrev pub sight : Account K → Meaning → Sight K
  sight b m = record { untaken = untaken_of b; memory = m }

  -- with other puts, with other takes, with only the drain noted
  abbrev pub with_puts : Account K → List (PutCall K) → Option (PutCall K) → Account K
  with_puts b cs p = record { puts = cs; putting = p; takes = b.takes; taking = b.taking; drained = false }

  abbrev pub with_takes : Account K → List (TakeCall K) → Option (TakeCall K) → Account K
  with_takes b cs t = record { puts = b.puts; putting = b.putting; takes = cs; taking = t; drained = false }

  abbrev pub with_drained : Account K → Bool → Account K
  with_drained b d = record { puts = b.puts; putting = b.putting; takes = b.takes; taking = b.taking; drained = d }

  -- the call under way has made one step more, and has this answer
  abbrev pub put_met : PutCall K → Sight K → Option (Ended (PutAnswer K)) → PutCall K
  put_met c s a = record { item = c.item; met = c.met ++ (s ∷ []); answer = a }

  abbrev pub take_met : TakeCall K → Sight K → Option (Ended (TakeAnswer K)) → TakeCall K
  take_met c s a = record { after_drain = c.after_drain; began = c.began; met = c.met ++ (s ∷ []); answer = a }

  -- it goes on, or is over
  abbrev pub put_noted : Account K → Option (PutCall K) → Sight K → Option (Ended (PutAnswer K)) → Account K
  put_noted b None s a = b
  put_noted b (Some c) s None = with_puts b b.puts (Some (put_met c s None))
  put_noted b (Some c) s (Some e) = with_puts b (b.puts ++ (put_met c s (Some e) ∷ [])) None

  abbrev pub take_noted : Account K → Option (TakeCall K) → Sight K → Option (Ended (TakeAnswer K)) → Account K
  take_noted b None s a = b
  take_noted b (Some c) s None = with_takes b b.takes (Some (take_met c s None))
  take_noted b (Some c) s (Some e) = with_takes b (b.takes ++ (take_met c s (Some e) ∷ [])) None

  -- the account after one more event, and after a history
  abbrev pub noted : Account K → Event K → Account K
  noted b (begins_put i) = with_puts b b.puts (Some (record { item = i; met = []; answer = None }))
  noted b (steps_put x y a) = put_noted b b.putting (sight b x) a
  noted b begins_take = with_takes b b.takes (Some (record { after_drain = b.drained; began = untaken_of b; met = []; answer = None }))
  noted b (steps_take x y a) = take_noted b b.taking (sight b x) a
  noted b (lands s p) = with_drained b false
  noted b drains = with_drained b (idle b.putting && idle b.taking)
  noted b refuses = b

  abbrev pub account_from : Account K → List (Event K) → Account K
  account_from b [] = b
  account_from b (e ∷ h) = account_from (noted b e) h

  abbrev pub account : List (Event K) → Account K
  account h = account_from nothing_yet h

  -- the calls of a history, those over and then the one under way
  abbrev pub puts : List (Event K) → List (PutCall K)
  puts h = (account h).puts ++ under_way (account h).putting

  abbrev pub takes : List (Event K) → List (TakeCall K)
  takes h = (account h).takes ++ under_way (account h).taking

  abbrev pub accepted : List (Event K) → List K
  accepted h = accepted_by (account h).puts

  abbrev pub taken : List (Event K) → List K
  taken h = taken_by (account h).takes
