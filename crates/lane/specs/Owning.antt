-- While only ends from its own opening and calls are brought to it, a lane refuses none.
use Rattle.std.specs.Prelude.{◌≡◌, ℕ, ⊤}
use Rattle.memory.specs.declared.Memory as memory
use Rattle.memory.specs.declared.Side.{Side}
use Rattle.words.specs.declared.kinds.Kind as kind
use Rattle.lane.specs.declared.answers.PutAnswer.{PutAnswer}
use Rattle.lane.specs.declared.answers.TakeAnswer.{TakeAnswer}
use Rattle.lane.specs.declared.ends.Feeds.{Feeds}
use Rattle.lane.specs.declared.ends.Draws.{Draws}
use Rattle.lane.specs.declared.ends.Idle.{Idle}
use Rattle.lane.specs.declared.ends.Busy.{Busy}
use Rattle.lane.specs.declared.ends.End.{End}
use Rattle.lane.specs.declared.ends.End.TheVariants as end
use Rattle.lane.specs.declared.ends.Unbegun.{Unbegun}
use Rattle.lane.specs.declared.ends.NoStep.{NoStep}
use Rattle.lane.specs.declared.ends.Stepped.{Stepped}
use Rattle.lane.specs.Moments.{Moment, Landing, Draining}
use Rattle.lane.specs.Openings.{opened}
use Rattle.lane.specs.Ends.{FeederFits, DrawerFits, PutBegun, PutUnbegun, TakeBegun, TakeUnbegun, PutMade, PutUnmade, TakeMade, TakeUnmade, end_of}

module _ {K X : Type 0} (G : memory.Ghosts X) (κ : kind.Ghosts K) where
  -- the lane, and the two ends that its opening and its calls have given last
  pub data Owns : Moment K X → End Feeds → End Draws → Type 0 where
    opening : {number R N : ℕ} {x : X} {e : Idle Feeds} {d : Idle Draws} → e.lane ≡ number → d.lane ≡ number → Owns (opened number R N x) (end.Idle e) (end.Idle d)
    put_begins : {m n : Moment K X} {e : Idle Feeds} {b : Busy Feeds} {d : End Draws} {i : K} → Owns m (end.Idle e) d → PutBegun m n e i b → Owns n (end.Busy b) d
    put_steps : {m n : Moment K X} {b : Busy Feeds} {s : Stepped Feeds (PutAnswer K)} {d : End Draws} → Owns m (end.Busy b) d → PutMade G κ m n b s → Owns n (end_of s) d
    take_begins : {m n : Moment K X} {e : End Feeds} {d : Idle Draws} {b : Busy Draws} → Owns m e (end.Idle d) → TakeBegun m n d b → Owns n e (end.Busy b)
    take_steps : {m n : Moment K X} {e : End Feeds} {b : Busy Draws} {s : Stepped Draws (TakeAnswer K)} → Owns m e (end.Busy b) → TakeMade G κ m n b s → Owns n e (end_of s)
    lands : {m n : Moment K X} {e : End Feeds} {d : End Draws} {s : Side} {pick : ℕ} → Owns m e d → Landing G s pick m n → Owns n e d
    drains : {m n : Moment K X} {e : End Feeds} {d : End Draws} → Owns m e d → Draining G m n → Owns n e d

  -- its own ends fit, so that none is refused by 5
  pub record OwnEndsFit : Type 0 where
    pub feeder_fits : (m : Moment K X) (e : End Feeds) (d : End Draws) → Owns m e d → FeederFits m e
    pub drawer_fits : (m : Moment K X) (e : End Feeds) (d : End Draws) → Owns m e d → DrawerFits m d
    pub put_begun : (m n : Moment K X) (e : Idle Feeds) (d : End Draws) (i : K) (back : Unbegun Feeds K) → Owns m (end.Idle e) d → PutUnbegun m n e i back → ⊥
    pub put_stepped : (m n : Moment K X) (b : Busy Feeds) (d : End Draws) (back : NoStep Feeds) → Owns m (end.Busy b) d → PutUnmade m n b back → ⊥
    pub take_begun : (m n : Moment K X) (e : End Feeds) (d : Idle Draws) (back : Unbegun Draws ⊤) → Owns m e (end.Idle d) → TakeUnbegun m n d back → ⊥
    pub take_stepped : (m n : Moment K X) (e : End Feeds) (b : Busy Draws) (back : NoStep Draws) → Owns m e (end.Busy b) → TakeUnmade m n b back → ⊥
