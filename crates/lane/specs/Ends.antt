-- Which end fits a lane, and what the calls through ends give.
use Rattle.std.specs.Prelude.{◌≡◌, ℕ, Some, None, Option, ◌≢◌, ⊤}
use Rattle.memory.specs.declared.Memory as memory
use Rattle.words.specs.declared.kinds.Kind as kind
use Rattle.lane.specs.declared.sides.Put.TheVariants as put
use Rattle.lane.specs.declared.sides.Take.TheVariants as take
use Rattle.lane.specs.declared.answers.Ended.{Ended}
use Rattle.lane.specs.declared.answers.PutAnswer.{PutAnswer}
use Rattle.lane.specs.declared.answers.TakeAnswer.{TakeAnswer}
use Rattle.lane.specs.declared.ends.Feeds.{Feeds}
use Rattle.lane.specs.declared.ends.Draws.{Draws}
use Rattle.lane.specs.declared.ends.Idle.{Idle}
use Rattle.lane.specs.declared.ends.Busy.{Busy}
use Rattle.lane.specs.declared.ends.End.{End}
use Rattle.lane.specs.declared.ends.End.TheVariants as end
use Rattle.lane.specs.declared.ends.Unbegun.{Unbegun}
use Rattle.lane.specs.declared.ends.NoStep.{NoStep}
use Rattle.lane.specs.declared.ends.Stepped.{Stepped}
use Rattle.lane.specs.declared.ends.Stepped.TheVariants as stepped
use Rattle.lane.specs.Hands.{hand_begun}
use Rattle.lane.specs.Moments.{Moment, fed, drawn, PutStep, TakeStep}

-- the lane number of an end
abbrev pub lane_of : {S : Type 0} → End S → ℕ
lane_of (end.Idle e) = e.lane
lane_of (end.Busy e) = e.lane

module _ {S A : Type 0} where
  -- the answer that a step gives, and the end that it gives
  abbrev pub answer_of : Stepped S A → Option (Ended A)
  answer_of (stepped.Going e) = None
  answer_of (stepped.Over e a) = Some a

  abbrev pub end_of : Stepped S A → End S
  end_of (stepped.Going e) = end.Busy e
  end_of (stepped.Over e a) = end.Idle e

-- an end fits a lane that has its number, and whose side is as idle or as busy as the end
abbrev pub Fits : {S T : Type 0} → ℕ → T → T → End S → Type 0
Fits number idle stage (end.Idle e) = (e.lane ≡ number) × (stage ≡ idle)
Fits number idle stage (end.Busy e) = (e.lane ≡ number) × (stage ≢ idle)

module _ {K X : Type 0} where
  -- a put of i begins: no memory call, no step yet
  abbrev pub put_begun : Moment K X → K → Moment K X
  put_begun m i = fed m m.memory (hand_begun m.feeder (put.P1 i))

  abbrev pub take_begun : Moment K X → Moment K X
  take_begun m = drawn m m.memory (hand_begun m.drawer take.T1)

  abbrev pub FeederFits : Moment K X → End Feeds → Type 0
  FeederFits m e = Fits m.number put.Idle m.feeder.stage e

  abbrev pub DrawerFits : Moment K X → End Draws → Type 0
  DrawerFits m e = Fits m.number take.Idle m.drawer.stage e

module _ {S : Type 0} (Fit : End S → Type 0) where
  -- a call begins: the end fits, and the lane is then as it is due
  pub record Begun {Y : Type 0} (due n : Y) (idle : Idle S) (busy : Busy S) : Type 0 where
    pub fits : Fit (end.Idle idle)
    pub same_lane : busy.lane ≡ idle.lane
    pub after : n ≡ due

  -- refused by 5: end and item come back, and the lane is unchanged
  pub record NotBegun {Y T : Type 0} (m n : Y) (idle : Idle S) (item : T) (back : Unbegun S T) : Type 0 where
    pub unfit : Fit (end.Idle idle) → ⊥
    pub end_back : back.end ≡ idle
    pub item_back : back.item ≡ item
    pub unchanged : n ≡ m

  -- the end fits, a row of the table is made, and the end of the same lane comes back
  pub record Made {A : Type 0} (Step : Option (Ended A) → Type 0) (busy : Busy S) (s : Stepped S A) : Type 0 where
    pub fits : Fit (end.Busy busy)
    pub same_lane : lane_of (end_of s) ≡ busy.lane
    pub step : Step (answer_of s)

  -- refused by 5: the end comes back, and the lane is unchanged
  pub record NotMade {Y : Type 0} (m n : Y) (busy : Busy S) (back : NoStep S) : Type 0 where
    pub unfit : Fit (end.Busy busy) → ⊥
    pub end_back : back.end ≡ busy
    pub unchanged : n ≡ m

module _ {K X : Type 0} where
  abbrev pub PutBegun : Moment K X → Moment K X → Idle Feeds → K → Busy Feeds → Type 0
  PutBegun m n e item b = Begun (FeederFits m) (put_begun m item) n e b

  abbrev pub PutUnbegun : Moment K X → Moment K X → Idle Feeds → K → Unbegun Feeds K → Type 0
  PutUnbegun m n e item back = NotBegun (FeederFits m) m n e item back

  abbrev pub TakeBegun : Moment K X → Moment K X → Idle Draws → Busy Draws → Type 0
  TakeBegun m n e b = Begun (DrawerFits m) (take_begun m) n e b

  abbrev pub TakeUnbegun : Moment K X → Moment K X → Idle Draws → Unbegun Draws ⊤ → Type 0
  TakeUnbegun m n e back = NotBegun (DrawerFits m) m n e tt back

  abbrev pub PutUnmade : Moment K X → Moment K X → Busy Feeds → NoStep Feeds → Type 0
  PutUnmade m n b back = NotMade (FeederFits m) m n b back

  abbrev pub TakeUnmade : Moment K X → Moment K X → Busy Draws → NoStep Draws → Type 0
  TakeUnmade m n b back = NotMade (DrawerFits m) m n b back

module _ {K X : Type 0} (G : memory.Ghosts X) (κ : kind.Ghosts K) where
  abbrev pub PutMade : Moment K X → Moment K X → Busy Feeds → Stepped Feeds (PutAnswer K) → Type 0
  PutMade m n b s = Made (FeederFits m) (PutStep G κ m n) b s

  abbrev pub TakeMade : Moment K X → Moment K X → Busy Draws → Stepped Draws (TakeAnswer K) → Type 0
  TakeMade m n b s = Made (DrawerFits m) (TakeStep G κ m n) b s
