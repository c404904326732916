-- What a step's answer tells of the line of items, by what was met at the call's first step.
use Rattle.std.proofs.Common.{◌≡◌, ℕ, ◌-◌, ◌*◌, ◌<◌, ◌≤◌, List, [], ◌∷◌, ◌++◌, length, None, Option}
use Rattle.memory.specs.declared.Side.TheVariants.{Feeder}
use Rattle.memory.specs.Meaning.{Meaning}
use Rattle.lane.specs.declared.sides.Put.{Put}
use Rattle.lane.specs.declared.sides.Put.TheVariants as put
use Rattle.lane.specs.declared.sides.Take.{Take}
use Rattle.lane.specs.declared.sides.Take.TheVariants as take
use Rattle.lane.specs.declared.answers.Ended.{Ended}
use Rattle.lane.specs.declared.answers.PutAnswer.{PutAnswer}
use Rattle.lane.specs.declared.answers.PutAnswer.TheVariants as putting
use Rattle.lane.specs.declared.answers.TakeAnswer.{TakeAnswer}
use Rattle.lane.specs.declared.answers.TakeAnswer.TheVariants as taking
use Rattle.queue.specs.Waiting.{waiting_below}
use Rattle.queue.specs.Calls.{ended}

-- at a call's first step the new number is kept, else the old one
abbrev pub first_put : {K : Type 0} → Put K → ℕ → ℕ → ℕ
first_put put.Idle a b = b
first_put (put.P1 i) a b = a
first_put (put.P2 i) a b = b
first_put (put.P3 i n) a b = b
first_put (put.P4 i n) a b = b
first_put (put.P5 i n) a b = b
first_put (put.P6 i n) a b = b
first_put (put.P7 i) a b = b
first_put (put.P8 i) a b = b

abbrev pub first_take : {K : Type 0} → Take K → ℕ → ℕ → ℕ
first_take take.Idle a b = b
first_take take.T1 a b = a
first_take take.T2 a b = b
first_take take.T3 a b = b
first_take take.T4 a b = b
first_take (take.T5 n) a b = b
first_take (take.T6 n) a b = b
first_take (take.T7 n) a b = b
first_take take.T8 a b = b
first_take (take.T9 i) a b = b

-- how many items of the line us have arrived: their stores no longer wait
abbrev pub number : {K : Type 0} → ℕ → ℕ → List K → Meaning → ℕ
number R N us m = length us - waiting_below (R * N) Feeder m

-- what a put's answer says: w1 stores waited, and n1 items were untaken, at its first step
pub data PutTale {K : Type 0} (R N : ℕ) (s : Put K) (w1 n1 : ℕ) (us : List K) : Option (Ended (PutAnswer K)) → List K → Type 0 where
  going : PutTale R N s w1 n1 us None us
  accepted : (n : ℕ) (i : K) → s ≡ put.P8 i → PutTale R N s w1 n1 us (ended putting.Accepted n) (us ++ (i ∷ []))
  no_ring : (n : ℕ) (i : K) → (w1 ≡ 0 → (R - 1) * N ≤ n1) → PutTale R N s w1 n1 us (ended (putting.NoRing i) n) us

-- what a take's answer says: a1 items had arrived at its first step, and now is how many have at this one
pub data TakeTale {K : Type 0} (a1 now : ℕ) : List K → Option (Ended (TakeAnswer K)) → List K → Type 0 where
  going : {us : List K} → TakeTale a1 now us None us
  taken : {us : List K} (n : ℕ) (i : K) → 0 < now → TakeTale a1 now (i ∷ us) (ended (taking.Taken i) n) us
  empty : {us : List K} (n : ℕ) → a1 ≡ 0 → TakeTale a1 now us (ended taking.Empty n) us
