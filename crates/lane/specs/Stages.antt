-- What is known of a call by the row where it stands.
use Rattle.std.specs.Prelude.{ℕ, Bool, true, false}
use Rattle.lane.specs.declared.sides.Put.{Put}
use Rattle.lane.specs.declared.sides.Put.TheVariants as put
use Rattle.lane.specs.declared.sides.Take.{Take}
use Rattle.lane.specs.declared.sides.Take.TheVariants as take

module _ {K : Type 0} where
  -- whether a call is under way
  abbrev pub putting : Put K → Bool
  putting put.Idle = false
  putting (put.P1 i) = true
  putting (put.P2 i) = true
  putting (put.P3 i n) = true
  putting (put.P4 i n) = true
  putting (put.P5 i n) = true
  putting (put.P6 i n) = true
  putting (put.P7 i) = true
  putting (put.P8 i) = true

  abbrev pub taking : Take K → Bool
  taking take.Idle = false
  taking take.T1 = true
  taking take.T2 = true
  taking take.T3 = true
  taking take.T4 = true
  taking (take.T5 n) = true
  taking (take.T6 n) = true
  taking (take.T7 n) = true
  taking take.T8 = true
  taking (take.T9 i) = true

  -- the ring in hand, or 0
  abbrev pub put_ring : Put K → ℕ
  put_ring put.Idle = 0
  put_ring (put.P1 i) = 0
  put_ring (put.P2 i) = 0
  put_ring (put.P3 i n) = n
  put_ring (put.P4 i n) = n
  put_ring (put.P5 i n) = n
  put_ring (put.P6 i n) = n
  put_ring (put.P7 i) = 0
  put_ring (put.P8 i) = 0

  abbrev pub take_ring : Take K → ℕ
  take_ring take.Idle = 0
  take_ring take.T1 = 0
  take_ring take.T2 = 0
  take_ring take.T3 = 0
  take_ring take.T4 = 0
  take_ring (take.T5 n) = n
  take_ring (take.T6 n) = n
  take_ring (take.T7 n) = n
  take_ring take.T8 = 0
  take_ring (take.T9 i) = 0

  -- the most steps that a call which stands there has made
  abbrev pub put_steps : Put K → ℕ
  put_steps put.Idle = 0
  put_steps (put.P1 i) = 0
  put_steps (put.P2 i) = 1
  put_steps (put.P3 i n) = 2
  put_steps (put.P4 i n) = 3
  put_steps (put.P5 i n) = 4
  put_steps (put.P6 i n) = 5
  put_steps (put.P7 i) = 6
  put_steps (put.P8 i) = 7

  abbrev pub take_steps : Take K → ℕ
  take_steps take.Idle = 0
  take_steps take.T1 = 0
  take_steps take.T2 = 1
  take_steps take.T3 = 2
  take_steps take.T4 = 3
  take_steps (take.T5 n) = 4
  take_steps (take.T6 n) = 5
  take_steps (take.T7 n) = 6
  take_steps take.T8 = 7
  take_steps (take.T9 i) = 8

  -- whether the row has a look, and whether that is a look at the own cell for an item
  abbrev pub put_looks : Put K → Bool
  put_looks put.Idle = false
  put_looks (put.P1 i) = true
  put_looks (put.P2 i) = true
  put_looks (put.P3 i n) = false
  put_looks (put.P4 i n) = false
  put_looks (put.P5 i n) = false
  put_looks (put.P6 i n) = false
  put_looks (put.P7 i) = false
  put_looks (put.P8 i) = false

  abbrev pub take_looks : Take K → Bool
  take_looks take.Idle = false
  take_looks take.T1 = true
  take_looks take.T2 = true
  take_looks take.T3 = true
  take_looks take.T4 = true
  take_looks (take.T5 n) = false
  take_looks (take.T6 n) = false
  take_looks (take.T7 n) = false
  take_looks take.T8 = true
  take_looks (take.T9 i) = false

  abbrev pub at_own : Take K → Bool
  at_own take.Idle = false
  at_own take.T1 = true
  at_own take.T2 = false
  at_own take.T3 = true
  at_own take.T4 = false
  at_own (take.T5 n) = false
  at_own (take.T6 n) = false
  at_own (take.T7 n) = false
  at_own take.T8 = true
  at_own (take.T9 i) = false
