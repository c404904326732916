-- The step table of a put: one line for each outcome of a row, in the rows' order.
use Rattle.std.specs.Prelude.{◌≡◌, ℕ, ◌<◌, false, None, Option, ◌≢◌}
use Rattle.memory.specs.declared.Memory as memory
use Rattle.memory.specs.declared.Side.TheVariants as side
use Rattle.memory.specs.Meaning.{Look, Store, Bar}
use Rattle.words.specs.declared.kinds.Kind as kind
use Rattle.lane.specs.declared.sides.Places.{Places}
use Rattle.lane.specs.declared.sides.Put.{Put}
use Rattle.lane.specs.declared.sides.Put.TheVariants.{Idle, P1, P2, P3, P4, P5, P6, P7, P8}
use Rattle.lane.specs.declared.answers.Ended.{Ended}
use Rattle.lane.specs.declared.answers.PutAnswer.{PutAnswer}
use Rattle.lane.specs.declared.answers.PutAnswer.TheVariants.{Accepted, NoRing, Damaged}
use Rattle.lane.specs.Hands.{Feeder, hand_to, hand_done, over}
use Rattle.lane.specs.Layout.{own_cell, next_cell, free_cell, mark_cell, own_on, next_on, free_on, ring_is, ring_word, NamesNoRing}
use Rattle.lane.specs.Stages.{put_looks}
use Rattle.lane.specs.Calls.{Makes}

module _ {X K : Type 0} (G : memory.Ghosts X) (κ : kind.Ghosts K) (R N : ℕ) where
  module _ (f : Feeder K) (x : X) where
    -- where the put stands
    abbrev At : Put K → Type 0
    At s = f.stage ≡ s

    abbrev here : Places
    here = f.places

    abbrev own : ℕ
    own = own_cell N f.places

    abbrev next : ℕ
    next = next_cell R N f.places

    abbrev free : ℕ
    free = free_cell R N f.places

    -- the one memory call of the step, from x to y
    abbrev Looks : ℕ → ℕ → X → Type 0
    Looks a w y = Makes G (Look side.Feeder a w) x y

    abbrev Stores : ℕ → ℕ → X → Type 0
    Stores a w y = Makes G (Store side.Feeder a w) x y

    abbrev Bars : X → Type 0
    Bars y = Makes G (Bar side.Feeder) x y

    -- from the feeder f and the memory x to the next ones, with the answer where the put is over
    pub data PutRow : Feeder K → X → Option (Ended (PutAnswer K)) → Type 0 where
      p1_bare : {y : X} (i : K) → At (P1 i) → Looks own 0 y → PutRow (hand_to f (P7 i) here) y None
      p1_full : {y : X} (i : K) (w : ℕ) → At (P1 i) → Looks own w y → (w ≢ 0) → PutRow (hand_to f (P2 i) here) y None
      p2_bare : {y : X} (i : K) → At (P2 i) → Looks free 0 y → PutRow (hand_done Idle here) y (over f (NoRing i))
      p2_ring : {y : X} (i : K) (n : ℕ) → At (P2 i) → Looks free (ring_word n) y → n < R → PutRow (hand_to f (P3 i n) here) y None
      p2_odd : {y : X} (i : K) (w : ℕ) → At (P2 i) → Looks free w y → (w ≢ 0) → NamesNoRing R w → PutRow (hand_done Idle here) y (over f Damaged)
      p3 : {y : X} (i : K) (n : ℕ) → At (P3 i n) → Stores free 0 y → PutRow (hand_to f (P4 i n) (free_on R here)) y None
      p4 : {y : X} (i : K) (n : ℕ) → At (P4 i n) → Bars y → PutRow (hand_to f (P5 i n) here) y None
      p5 : {y : X} (i : K) (n : ℕ) → At (P5 i n) → Stores next (ring_word n) y → PutRow (hand_to f (P6 i n) (next_on R here)) y None
      p6 : {y : X} (i : K) (n : ℕ) → At (P6 i n) → Stores (mark_cell R N) (ring_word n) y → PutRow (hand_to f (P7 i) (ring_is n here)) y None
      p7 : {y : X} (i : K) → At (P7 i) → Bars y → PutRow (hand_to f (P8 i) here) y None
      p8 : {y : X} (i : K) → At (P8 i) → Stores own (κ.word i) y → PutRow (hand_done Idle (own_on N here)) y (over f Accepted)

  -- the look of a put that stands at s, where its row has one
  pub record PutSees (s : Put K) (p : Places) (x : X) (w : ℕ) (y : X) : Type 0 where
    pub own_seen : (i : K) → s ≡ P1 i → Makes G (Look side.Feeder (own_cell N p) w) x y
    pub free_seen : (i : K) → s ≡ P2 i → Makes G (Look side.Feeder (free_cell R N p) w) x y
    pub blind : put_looks s ≡ false → y ≡ x
