-- The ends that a lane has given out fit it.
use Rattle.std.proofs.Common.{◌≡◌, ℕ, Bool, true, false, not, is_some, sym, refl, ap, ◌∙◌}
use Rattle.memory.specs.declared.Memory as memory
use Rattle.words.specs.declared.kinds.Kind as kind
use Rattle.lane.specs.declared.sides.Put.{Put}
use Rattle.lane.specs.declared.sides.Put.TheVariants as put
use Rattle.lane.specs.declared.sides.Take.{Take}
use Rattle.lane.specs.declared.sides.Take.TheVariants as take
use Rattle.lane.specs.declared.answers.PutAnswer.{PutAnswer}
use Rattle.lane.specs.declared.answers.TakeAnswer.{TakeAnswer}
use Rattle.lane.specs.declared.ends.Feeds.{Feeds}
use Rattle.lane.specs.declared.ends.Draws.{Draws}
use Rattle.lane.specs.declared.ends.Busy.{Busy}
use Rattle.lane.specs.declared.ends.End.{End}
use Rattle.lane.specs.declared.ends.End.TheVariants as end
use Rattle.lane.specs.declared.ends.Stepped.{Stepped}
use Rattle.lane.specs.declared.ends.Stepped.TheVariants as stepped
use Rattle.lane.specs.Moments.{Moment}
use Rattle.lane.specs.Stages.{putting, taking}
use Rattle.lane.specs.Ends.{Fits, FeederFits, DrawerFits, PutMade, TakeMade, lane_of, answer_of, end_of}
use Rattle.lane.specs.Owning.{Owns, OwnEndsFit}
use Rattle.lane.specs.Owning as own
use Rattle.lane.proofs.Underway.{idle_put, busy_put, idle_take, busy_take, put_ends, take_ends}

-- an end goes on fitting while the number and the stage stay
pub still : {S T : Type 0} (idle : T) {s s' : T} {k k' : ℕ} (e : End S) → k' ≡ k → s' ≡ s → Fits k idle s e → Fits k' idle s' e
still idle (end.Idle e) n f h = (h.0 ∙ sym n, f ∙ h.1)
still idle (end.Busy e) n f h = (h.0 ∙ sym n, λ z. h.1 (sym f ∙ z))

-- the end that a step gives fits, since a call goes on exactly where the step has no answer
pub stepped_fits : {S T A : Type 0} {idle s' : T} {k k' l : ℕ} {busy : T → Bool} (s : Stepped S A) → ((t : T) → busy t ≡ true → t ≡ idle → ⊥) → ((t : T) → busy t ≡ false → t ≡ idle) → l ≡ k → k' ≡ k → lane_of (end_of s) ≡ l → busy s' ≡ not (is_some (answer_of s)) → Fits k' idle s' (end_of s)
stepped_fits (stepped.Going e) busy idle o n l g = (l ∙ o ∙ sym n, busy _ g)
stepped_fits (stepped.Over e a) busy idle o n l g = (l ∙ o ∙ sym n, idle _ g)

module _ {K X : Type 0} (G : memory.Ghosts X) (κ : kind.Ghosts K) where
  abbrev number : Moment K X → ℕ
  number m = m.number

  abbrev put_stage : Moment K X → Put K
  put_stage m = m.feeder.stage

  abbrev take_stage : Moment K X → Take K
  take_stage m = m.drawer.stage

  pub put_fits : {m n : Moment K X} {b : Busy Feeds} (s : Stepped Feeds (PutAnswer K)) → PutMade G κ m n b s → FeederFits n (end_of s)
  put_fits s h = stepped_fits {busy = putting} s busy_put idle_put h.fits.0 (ap number h.step.after) h.same_lane (put_ends G κ _ _ h.step.row)

  pub take_fits : {m n : Moment K X} {b : Busy Draws} (s : Stepped Draws (TakeAnswer K)) → TakeMade G κ m n b s → DrawerFits n (end_of s)
  take_fits s h = stepped_fits {busy = taking} s busy_take idle_take h.fits.0 (ap number h.step.after) h.same_lane (take_ends G κ _ _ h.step.row)

  feeder_fits : {m : Moment K X} {e : End Feeds} {d : End Draws} → Owns G κ m e d → FeederFits m e
  feeder_fits (own.opening p q) = (p, refl)
  feeder_fits (own.put_begins {i = i} o h) = rw h.after (h.same_lane ∙ h.fits.0, busy_put (put.P1 i) refl)
  feeder_fits (own.put_steps {s = s} o h) = put_fits s h
  feeder_fits (own.take_begins {e = e} o h) = still put.Idle e (ap number h.after) (ap put_stage h.after) (feeder_fits o)
  feeder_fits (own.take_steps {e = e} o h) = still put.Idle e (ap number h.step.after) (ap put_stage h.step.after) (feeder_fits o)
  feeder_fits (own.lands {e = e} o h) = still put.Idle e (ap number h.after) (ap put_stage h.after) (feeder_fits o)
  feeder_fits (own.drains {e = e} o h) = still put.Idle e (ap number h.after) (ap put_stage h.after) (feeder_fits o)

  drawer_fits : {m : Moment K X} {e : End Feeds} {d : End Draws} → Owns G κ m e d → DrawerFits m d
  drawer_fits (own.opening p q) = (q, refl)
  drawer_fits (own.put_begins {d = d} o h) = still take.Idle d (ap number h.after) (ap take_stage h.after) (drawer_fits o)
  drawer_fits (own.put_steps {d = d} o h) = still take.Idle d (ap number h.step.after) (ap take_stage h.step.after) (drawer_fits o)
  drawer_fits (own.take_begins o h) = rw h.after (h.same_lane ∙ h.fits.0, busy_take take.T1 refl)
  drawer_fits (own.take_steps {s = s} o h) = take_fits s h
  drawer_fits (own.lands {d = d} o h) = still take.Idle d (ap number h.after) (ap take_stage h.after) (drawer_fits o)
  drawer_fits (own.drains {d = d} o h) = still take.Idle d (ap number h.after) (ap take_stage h.after) (drawer_fits o)

  pub own_ends_fit : OwnEndsFit G κ
  own_ends_fit = record {
    feeder_fits = λ m e d o. feeder_fits o;
    drawer_fits = λ m e d o. drawer_fits o;
    put_begun = λ m n e d i back o h. h.unfit (feeder_fits o);
    put_stepped = λ m n b d back o h. h.unfit (feeder_fits o);
    take_begun = λ m n e d back o h. h.unfit (drawer_fits o);
    take_stepped = λ m n e b back o h. h.unfit (drawer_fits o);
  }
