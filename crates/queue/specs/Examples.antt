-- A history read as calls, and histories that the promise excludes.
use Rattle.std.specs.Prelude.{◌≡◌, ℕ, true, List, [], ◌∷◌, ◌++◌, None}
use Rattle.memory.specs.Meaning.{Meaning}
use Rattle.lane.specs.declared.answers.PutAnswer.TheVariants.{Accepted, NoRing}
use Rattle.lane.specs.declared.answers.TakeAnswer.TheVariants.{Taken, Empty}
use Rattle.queue.specs.History.{Event, begins_put, steps_put, begins_take, steps_take, drains}
use Rattle.queue.specs.Calls.{Sight, ended, puts, takes, accepted, taken}
use Rattle.queue.specs.Promise.{Promise}

-- nothing waits; items are numbers
abbrev pub quiet : Meaning
quiet = record { landed = []; feeder = []; drawer = [] }

-- an item is put, in three steps
abbrev pub put_in : ℕ → List (Event ℕ)
put_in i = begins_put i ∷ steps_put quiet quiet None ∷ steps_put quiet quiet None ∷ steps_put quiet quiet (ended Accepted 3) ∷ []

-- an item is taken, in two steps
abbrev pub take_out : ℕ → List (Event ℕ)
take_out i = begins_take ∷ steps_take quiet quiet None ∷ steps_take quiet quiet (ended (Taken i) 2) ∷ []

-- 7 is put; a drain; it is taken; a put of 9 has begun
abbrev pub story : List (Event ℕ)
story = put_in 7 ++ (drains ∷ (take_out 7 ++ (begins_put 9 ∷ [])))

abbrev pub no_item : Sight ℕ
no_item = record { untaken = []; memory = quiet }

abbrev pub seven : Sight ℕ
seven = record { untaken = 7 ∷ []; memory = quiet }

pub record ReadAsCalls : Type 0 where
  pub its_accepted : accepted story ≡ 7 ∷ []
  pub its_taken : taken story ≡ 7 ∷ []
  pub its_puts : puts story ≡ record { item = 7; met = no_item ∷ no_item ∷ no_item ∷ []; answer = ended Accepted 3 } ∷ record { item = 9; met = []; answer = None } ∷ []
  pub its_takes : takes story ≡ record { after_drain = true; began = 7 ∷ []; met = seven ∷ seven ∷ []; answer = ended (Taken 7) 2 } ∷ []

-- 7 and 8 are put, and 8 is taken first
abbrev pub swapped : List (Event ℕ)
swapped = put_in 7 ++ (put_in 8 ++ take_out 8)

-- 7 has arrived, and a take is empty
abbrev pub empty_take : List (Event ℕ)
empty_take = put_in 7 ++ (begins_take ∷ steps_take quiet quiet None ∷ steps_take quiet quiet (ended Empty 2) ∷ [])

-- all is free, and a put lacks a ring
abbrev pub lacking_put : List (Event ℕ)
lacking_put = begins_put 7 ∷ steps_put quiet quiet None ∷ steps_put quiet quiet (ended (NoRing 7) 2) ∷ []

-- a put goes on for nine steps
abbrev pub endless_put : List (Event ℕ)
endless_put = begins_put 7 ∷ steps_put quiet quiet None ∷ steps_put quiet quiet None ∷ steps_put quiet quiet None ∷ steps_put quiet quiet None ∷ steps_put quiet quiet None ∷ steps_put quiet quiet None ∷ steps_put quiet quiet None ∷ steps_put quiet quiet None ∷ steps_put quiet quiet None ∷ []

-- an answer that tells another number of steps than were made
abbrev pub miscounted_take : List (Event ℕ)
miscounted_take = put_in 7 ++ (begins_take ∷ steps_take quiet quiet None ∷ steps_take quiet quiet (ended (Taken 7) 3) ∷ [])

-- of a lane of two rings of two cells
pub record Excluded : Type 0 where
  pub no_swapped_order : Promise 2 2 swapped → ⊥
  pub no_empty_take_with_an_arrived_item : Promise 2 2 empty_take → ⊥
  pub no_lack_while_all_is_free : Promise 2 2 lacking_put → ⊥
  pub no_endless_put : Promise 2 2 endless_put → ⊥
  pub no_miscounted_take : Promise 2 2 miscounted_take → ⊥
