-- The step table of a take: one line for each outcome of a row, in the rows' order.
use Rattle.std.specs.Prelude.{◌≡◌, ℕ, ◌<◌, true, false, None, Option, ◌≢◌}
use Rattle.memory.specs.declared.Memory as memory
use Rattle.memory.specs.declared.Side.TheVariants as side
use Rattle.memory.specs.Meaning.{Look, Store, Bar}
use Rattle.words.specs.declared.kinds.Kind as kind
use Rattle.lane.specs.declared.sides.Places.{Places}
use Rattle.lane.specs.declared.sides.Take.{Take}
use Rattle.lane.specs.declared.sides.Take.TheVariants.{Idle, T1, T2, T3, T4, T5, T6, T7, T8, T9}
use Rattle.lane.specs.declared.answers.Ended.{Ended}
use Rattle.lane.specs.declared.answers.TakeAnswer.{TakeAnswer}
use Rattle.lane.specs.declared.answers.TakeAnswer.TheVariants.{Taken, Empty, Damaged}
use Rattle.lane.specs.Hands.{Drawer, hand_to, hand_done, over}
use Rattle.lane.specs.Layout.{own_cell, next_cell, free_cell, mark_cell, own_on, next_on, free_on, ring_is, ring_word, NamesNoRing}
use Rattle.lane.specs.Stages.{take_looks, at_own}
use Rattle.lane.specs.Calls.{Makes}

-- the word is neither bare nor that of an item
abbrev pub NamesNoItem : {K : Type 0} → kind.Ghosts K → ℕ → Type 0
NamesNoItem {K} κ w = (w ≢ 0) × ((i : K) → κ.word i ≢ w)

-- what a take makes of a word in its own cell that is not bare
pub data Found {K : Type 0} (κ : kind.Ghosts K) (d : Drawer K) (w : ℕ) : Drawer K → Option (Ended (TakeAnswer K)) → Type 0 where
  an_item : (i : K) → κ.word i ≡ w → Found κ d w (hand_to d (T9 i) d.places) None
  no_item : ((i : K) → κ.word i ≢ w) → Found κ d w (hand_done Idle d.places) (over d Damaged)

module _ {X K : Type 0} (G : memory.Ghosts X) (κ : kind.Ghosts K) (R N : ℕ) where
  module _ (d : Drawer K) (x : X) where
    -- where the take stands
    abbrev At : Take K → Type 0
    At s = d.stage ≡ s

    abbrev here : Places
    here = d.places

    abbrev own : ℕ
    own = own_cell N d.places

    abbrev next : ℕ
    next = next_cell R N d.places

    abbrev free : ℕ
    free = free_cell R N d.places

    abbrev mark : ℕ
    mark = mark_cell R N

    -- the one memory call of the step, from x to y
    abbrev Looks : ℕ → ℕ → X → Type 0
    Looks a w y = Makes G (Look side.Drawer a w) x y

    abbrev Stores : ℕ → ℕ → X → Type 0
    Stores a w y = Makes G (Store side.Drawer a w) x y

    abbrev Bars : X → Type 0
    Bars y = Makes G (Bar side.Drawer) x y

    -- from the drawer d and the memory x to the next ones, with the answer where the take is over
    pub data TakeRow : Drawer K → X → Option (Ended (TakeAnswer K)) → Type 0 where
      t1_bare : {y : X} → At T1 → Looks own 0 y → TakeRow (hand_to d T2 here) y None
      t1_item : {y : X} (i : K) → At T1 → Looks own (κ.word i) y → TakeRow (hand_to d (T9 i) here) y None
      t1_odd : {y : X} (w : ℕ) → At T1 → Looks own w y → NamesNoItem κ w → TakeRow (hand_done Idle here) y (over d Damaged)
      t2_own : {y : X} → At T2 → Looks mark (ring_word here.ring) y → TakeRow (hand_done Idle here) y (over d Empty)
      t2_other : {y : X} (n : ℕ) → At T2 → Looks mark (ring_word n) y → n < R → (n ≢ here.ring) → TakeRow (hand_to d T3 here) y None
      t2_odd : {y : X} (w : ℕ) → At T2 → Looks mark w y → NamesNoRing R w → TakeRow (hand_done Idle here) y (over d Damaged)
      t3_bare : {y : X} → At T3 → Looks own 0 y → TakeRow (hand_to d T4 here) y None
      t3_item : {y : X} (i : K) → At T3 → Looks own (κ.word i) y → TakeRow (hand_to d (T9 i) here) y None
      t3_odd : {y : X} (w : ℕ) → At T3 → Looks own w y → NamesNoItem κ w → TakeRow (hand_done Idle here) y (over d Damaged)
      t4_bare : {y : X} → At T4 → Looks next 0 y → TakeRow (hand_done Idle here) y (over d Empty)
      t4_ring : {y : X} (n : ℕ) → At T4 → Looks next (ring_word n) y → n < R → TakeRow (hand_to d (T5 n) here) y None
      t4_odd : {y : X} (w : ℕ) → At T4 → Looks next w y → (w ≢ 0) → NamesNoRing R w → TakeRow (hand_done Idle here) y (over d Damaged)
      t5 : {y : X} (n : ℕ) → At (T5 n) → Stores next 0 y → TakeRow (hand_to d (T6 n) (next_on R here)) y None
      t6 : {y : X} (n : ℕ) → At (T6 n) → Bars y → TakeRow (hand_to d (T7 n) here) y None
      t7 : {y : X} (n : ℕ) → At (T7 n) → Stores free (ring_word here.ring) y → TakeRow (hand_to d T8 (ring_is n (free_on R here))) y None
      t8_bare : {y : X} → At T8 → Looks own 0 y → TakeRow (hand_done Idle here) y (over d Empty)
      t8_item : {y : X} (i : K) → At T8 → Looks own (κ.word i) y → TakeRow (hand_to d (T9 i) here) y None
      t8_odd : {y : X} (w : ℕ) → At T8 → Looks own w y → NamesNoItem κ w → TakeRow (hand_done Idle here) y (over d Damaged)
      t9 : {y : X} (i : K) → At (T9 i) → Stores own 0 y → TakeRow (hand_done Idle (own_on N here)) y (over d (Taken i))

  -- the look of a take that stands at s, where its row has one
  pub record TakeSees (s : Take K) (p : Places) (x : X) (w : ℕ) (y : X) : Type 0 where
    pub own_seen : at_own s ≡ true → Makes G (Look side.Drawer (own_cell N p) w) x y
    pub mark_seen : s ≡ T2 → Makes G (Look side.Drawer (mark_cell R N) w) x y
    pub next_seen : s ≡ T4 → Makes G (Look side.Drawer (next_cell R N p) w) x y
    pub blind : take_looks s ≡ false → y ≡ x
