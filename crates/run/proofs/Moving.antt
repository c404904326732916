-- What a move makes of a run.
use Rattle.std.proofs.Common.{◌≡◌, ℕ, ◌+◌, ◌<◌, ◌≤◌, Bool, true, false, List, [], ◌∷◌, ◌++◌, map, length, get_or, drop, Ok, Err, Option, Result, sym, refl, ap, ◌∙◌, subst}
use Rattle.std.proofs.lemmas.List.{drop_more, drop_all, drop-drop}
use Rattle.memory.specs.declared.Memory as memory
use Rattle.memory.specs.declared.Side.{Side}
use Rattle.words.specs.declared.kinds.Kind as kind
use Rattle.lane.specs.declared.answers.Ended.{Ended}
use Rattle.lane.specs.declared.answers.PutAnswer.{PutAnswer}
use Rattle.lane.specs.declared.answers.TakeAnswer.{TakeAnswer}
use Rattle.lane.specs.Hands.{Feeder, Drawer}
use Rattle.lane.specs.Moments.{Moment, PutStep, TakeStep, Landing, Draining}
use Rattle.lane.specs.Stages.{putting, taking}
use Rattle.lane.proofs.Underway.{put_ends, take_ends}
use Rattle.queue.specs.declared.moves.Move.TheVariants as move
use Rattle.queue.specs.declared.moves.Said.{Said}
use Rattle.queue.specs.History.{Event, Leads}
use Rattle.queue.specs.History as history
use Rattle.queue.specs.InPlay.{Begun, TakeBegins}
use Rattle.queue.specs.Turns.{Turn}
use Rattle.queue.specs.Turns as turn
use Rattle.queue.specs.InPlay as inplay
use Rattle.queue.proofs.Histories.{put_stays, take_stays, putting_now, taking_now}
use Rattle.run.specs.declared.faults.Stop.{Stop}
use Rattle.run.specs.declared.faults.Stop.TheVariants.{LogFull}
use Rattle.run.specs.declared.orders.Order.{Order}
use Rattle.run.specs.declared.orders.Order.TheVariants.{Feed, Draw, Drain, Land}
use Rattle.run.specs.declared.records.Record.{Record}
use Rattle.run.specs.declared.tallies.Counts.{Counts}
use Rattle.run.specs.Logs.{ended_call, put_told, take_told, at_move}
use Rattle.run.specs.Runs.{Standing, standing, goes_on, begun_put, begun_take, accepting, put_damaged, take_damaged, Steps, Makes, MeetsDamage}
use Rattle.run.specs.Runs as runs
use Rattle.run.specs.Running.{Noted, PutNoted, TakeNoted, stands_at, Moved, Halted, ComesTo}
use Rattle.run.specs.Running as running
use Rattle.run.proofs.Noting.{noted_none}
use Rattle.run.proofs.Turning.{FedOn, DrawnOn}

same_standing : {ws vs : List ℕ} {p q t u : Bool} → ws ≡ vs → p ≡ q → t ≡ u → standing ws p t ≡ standing vs q u
same_standing a b c = cc

-- neither a drain, nor a landing, nor a feeder step with nothing left steps a call
no_drain_steps : {s : Standing} → Steps s Drain → ⊥
no_drain_steps h = elim h [ ]

no_landing_steps : {s : Standing} {side : Side} {pick : ℕ} → Steps s (Land side pick) → ⊥
no_landing_steps h = elim h [ ]

nothing_steps : {p t : Bool} → Steps (standing [] p t) Feed → ⊥
nothing_steps h = elim h [ ]

module _ {K X : Type 0} (G : memory.Ghosts X) (κ : kind.Ghosts K) where
  -- the events of a step of a put of i, and of a step of a take
  abbrev put_events : K → Moment K X → Option (Ended (PutAnswer K)) → Moment K X → List (Event K)
  put_events i m a n = begun_put (putting m.feeder.stage) i ++ (history.steps_put (G.meaning m.memory) (G.meaning n.memory) a ∷ [])

  abbrev take_events : Moment K X → Option (Ended (TakeAnswer K)) → Moment K X → List (Event K)
  take_events m a n = begun_take (taking m.drawer.stage) ++ (history.steps_take (G.meaning m.memory) (G.meaning n.memory) a ∷ [])

  put_leads : {i : K} {m n o : Moment K X} {a : Option (Ended (PutAnswer K))} → Begun i m n → PutStep G κ n o a → Leads G κ m (put_events i m a o) o
  put_leads {i} {m} {n} {o} {a} (inplay.Begins.goes_on b) s = subst (λ (p : Bool). Leads G κ m (begun_put p i ++ (history.steps_put (G.meaning m.memory) (G.meaning o.memory) a ∷ [])) o) (sym (putting_now m.feeder.stage b)) (history.first (history.put_steps s) history.at_rest)
  put_leads {i} {m} {n} {o} {a} (inplay.Begins.begins e) s = subst (λ (p : Bool). Leads G κ m (begun_put p i ++ (history.steps_put (G.meaning m.memory) (G.meaning o.memory) a ∷ [])) o) (sym (ap putting e)) (history.first (history.put_begins e refl) (history.first (history.put_steps s) history.at_rest))

  take_leads : {m n o : Moment K X} {a : Option (Ended (TakeAnswer K))} → TakeBegins m n → TakeStep G κ n o a → Leads G κ m (take_events m a o) o
  take_leads {m} {n} {o} {a} (inplay.Begins.goes_on b) s = subst (λ (p : Bool). Leads G κ m (begun_take p ++ (history.steps_take (G.meaning m.memory) (G.meaning o.memory) a ∷ [])) o) (sym (taking_now m.drawer.stage b)) (history.first (history.take_steps s) history.at_rest)
  take_leads {m} {n} {o} {a} (inplay.Begins.begins e) s = subst (λ (p : Bool). Leads G κ m (begun_take p ++ (history.steps_take (G.meaning m.memory) (G.meaning o.memory) a ∷ [])) o) (sym (ap taking e)) (history.first (history.take_begins e refl) (history.first (history.take_steps s) history.at_rest))

  module _ (words : List ℕ) (n : ℕ) (m : Moment K X) where
    -- an item is left to offer
    offered : (i : K) (k : ℕ) → k < length words → κ.word i ≡ get_or words k 0 → drop k words ≡ κ.word i ∷ drop (k + 1) words
    offered i k h e = drop_more words k 0 h ∙ ap (λ w. w ∷ drop (k + 1) words) (sym e)

    offering : (k : ℕ) → k < length words → Steps (stands_at words k m) Feed
    offering k h = subst (λ (s : Standing). Steps s Feed) (same_standing (sym (drop_more words k 0 h)) refl refl) runs.Steps.offers

    put_after : {i : K} (k : ℕ) {a : Option (Ended (PutAnswer K))} {o : Moment K X} → drop k words ≡ κ.word i ∷ drop (k + 1) words → FedOn G κ i m a o → stands_at words (k + accepting a) o ≡ standing (drop (accepting a) (κ.word i ∷ drop (k + 1) words)) (goes_on a) (taking m.drawer.stage)
    put_after {i} k {a} {o} e f = same_standing (sym (drop-drop (accepting a) k words) ∙ ap (λ (l : List ℕ). drop (accepting a) l) e) (put_ends G κ _ _ f.step.row) (ap (λ (d : Drawer K). taking d.stage) (ap (λ (p : Moment K X). p.drawer) f.step.after ∙ (put_stays f.begun).drawer))

    put_makes : {i : K} (k : ℕ) {a : Option (Ended (PutAnswer K))} {o : Moment K X} → drop k words ≡ κ.word i ∷ drop (k + 1) words → FedOn G κ i m a o → put_damaged a ≡ false → Makes κ n (stands_at words k m) Feed (put_events i m a o) (map (at_move n) (ended_call (put_told κ i) a)) (stands_at words (k + accepting a) o)
    put_makes {i} k {a} {o} e f d = subst (λ (t : Standing). Makes κ n (stands_at words k m) Feed (put_events i m a o) (map (at_move n) (ended_call (put_told κ i) a)) t) (sym (put_after k e f)) (subst (λ (ws : List ℕ). Makes κ n (standing ws (putting m.feeder.stage) (taking m.drawer.stage)) Feed (put_events i m a o) (map (at_move n) (ended_call (put_told κ i) a)) (standing (drop (accepting a) (κ.word i ∷ drop (k + 1) words)) (goes_on a) (taking m.drawer.stage))) (sym e) (runs.Makes.puts (G.meaning m.memory) (G.meaning o.memory) a d))

    take_makes : (k : ℕ) {a : Option (Ended (TakeAnswer K))} {o : Moment K X} → DrawnOn G κ m a o → take_damaged a ≡ false → Makes κ n (stands_at words k m) Draw (take_events m a o) (map (at_move n) (ended_call (take_told κ) a)) (stands_at words k o)
    take_makes k {a} {o} f d = subst (λ (t : Standing). Makes κ n (stands_at words k m) Draw (take_events m a o) (map (at_move n) (ended_call (take_told κ) a)) t) (sym (same_standing refl (ap (λ (e : Feeder K). putting e.stage) (ap (λ (p : Moment K X). p.feeder) f.step.after ∙ (take_stays f.begun).feeder)) (take_ends G κ _ _ f.step.row))) (runs.Makes.takes (G.meaning m.memory) (G.meaning o.memory) a d)

    put_damage : {i : K} (k : ℕ) (a : Option (Ended (PutAnswer K))) (o : Moment K X) → drop k words ≡ κ.word i ∷ drop (k + 1) words → put_damaged a ≡ true → MeetsDamage κ (stands_at words k m) Feed (put_events i m a o)
    put_damage {i} k a o e d = subst (λ (ws : List ℕ). MeetsDamage κ (standing ws (putting m.feeder.stage) (taking m.drawer.stage)) Feed (put_events i m a o)) (sym e) (runs.MeetsDamage.puts (G.meaning m.memory) (G.meaning o.memory) a d)

    module _ (c : Counts) (log : List Record) where
      -- a feeder step with nothing left to offer
      pub put_rests : length words ≤ c.accepted → ComesTo G κ n words Feed c m log (Ok c) m log
      put_rests h = record { events = []; cs = []; makes = subst (λ (ws : List ℕ). Makes κ n (standing ws (putting m.feeder.stage) (taking m.drawer.stage)) Feed [] [] (standing ws (putting m.feeder.stage) (taking m.drawer.stage))) (sym (drop_all c.accepted words h)) runs.Makes.rests; leads = history.at_rest; place = λ s. absurd (nothing_steps (subst (λ (ws : List ℕ). Steps (standing ws (putting m.feeder.stage) (taking m.drawer.stage)) Feed) (drop_all c.accepted words h) s)); noted = noted_none n c.calls log }

      pub put_full : c.accepted < length words → length log ≤ c.calls → ComesTo G κ n words Feed c m log (Err (LogFull n)) m log
      put_full h f = (running.Halted.full (offering c.accepted h) f, refl)

      pub take_full : length log ≤ c.calls → ComesTo G κ n words Draw c m log (Err (LogFull n)) m log
      take_full f = (running.Halted.full runs.Steps.draws f, refl)

      pub put_comes : (r : Result Counts Stop) {i : K} {a : Option (Ended (PutAnswer K))} (o : Moment K X) (log' : List Record) → c.accepted < length words → κ.word i ≡ get_or words c.accepted 0 → c.calls < length log → FedOn G κ i m a o → PutNoted κ n i a c log log' r → ComesTo G κ n words Feed c m log r o log'
      put_comes (Ok d) {i} {a} o log' h e f g p = record { events = put_events i m a o; cs = ended_call (put_told κ i) a; makes = subst (λ (k : ℕ). Makes κ n (stands_at words c.accepted m) Feed (put_events i m a o) (map (at_move n) (ended_call (put_told κ i) a)) (stands_at words k o)) (sym p.1) (put_makes c.accepted (offered i c.accepted h e) g p.0); leads = put_leads g.begun g.step; place = λ _. f; noted = p.2 }
      put_comes (Err s) {i} {a} o log' h e f g p = (subst (λ (t : Stop). Halted G κ n words Feed c m log o t) (sym p.1) (running.Halted.broken f (put_damage c.accepted a o (offered i c.accepted h e) p.0) (put_leads g.begun g.step)), p.2)

      pub take_comes : (r : Result Counts Stop) {a : Option (Ended (TakeAnswer K))} (o : Moment K X) (log' : List Record) → c.calls < length log → DrawnOn G κ m a o → TakeNoted κ n a c log log' r → ComesTo G κ n words Draw c m log r o log'
      take_comes (Ok d) {a} o log' f g p = record { events = take_events m a o; cs = ended_call (take_told κ) a; makes = subst (λ (k : ℕ). Makes κ n (stands_at words c.accepted m) Draw (take_events m a o) (map (at_move n) (ended_call (take_told κ) a)) (stands_at words k o)) (sym p.1) (take_makes c.accepted g p.0); leads = take_leads g.begun g.step; place = λ _. f; noted = p.2 }
      take_comes (Err s) {a} o log' f g p = (subst (λ (t : Stop). Halted G κ n words Draw c m log o t) (sym p.1) (running.Halted.broken f (runs.MeetsDamage.takes (G.meaning m.memory) (G.meaning o.memory) a p.0) (take_leads g.begun g.step)), p.2)

      drained : {s : Said K} (o : Moment K X) → Turn G κ move.Drain m s o → Draining G m o
      drained o (turn.Turn.drains h) = h

      landed : {side : Side} {pick : ℕ} {s : Said K} (o : Moment K X) → Turn G κ (move.Land side pick) m s o → Landing G side pick m o
      landed o (turn.Turn.lands h) = h

      pub drain_comes : {s : Said K} (o : Moment K X) → Turn G κ move.Drain m s o → ComesTo G κ n words Drain c m log (Ok c) o log
      drain_comes o t = let h = drained o t in record { events = history.drains ∷ []; cs = []; makes = subst (λ (s : Standing). Makes κ n (stands_at words c.accepted m) Drain (history.drains ∷ []) [] s) (sym (same_standing refl (ap (λ (p : Moment K X). putting p.feeder.stage) h.after) (ap (λ (p : Moment K X). taking p.drawer.stage) h.after))) runs.Makes.drains; leads = history.first (history.draining h) history.at_rest; place = λ s. absurd (no_drain_steps s); noted = noted_none n c.calls log }

      pub land_comes : (side : Side) (pick : ℕ) {s : Said K} (o : Moment K X) → Turn G κ (move.Land side pick) m s o → ComesTo G κ n words (Land side pick) c m log (Ok c) o log
      land_comes side pick o t = let h = landed o t in record { events = history.lands side pick ∷ []; cs = []; makes = subst (λ (s : Standing). Makes κ n (stands_at words c.accepted m) (Land side pick) (history.lands side pick ∷ []) [] s) (sym (same_standing refl (ap (λ (p : Moment K X). putting p.feeder.stage) h.after) (ap (λ (p : Moment K X). taking p.drawer.stage) h.after))) runs.Makes.lands; leads = history.first (history.landing h) history.at_rest; place = λ s. absurd (no_landing_steps s); noted = noted_none n c.calls log }

module _ {K X : Type 0} (G : memory.Ghosts X) (κ : kind.Ghosts K) where
  -- what becomes of a move, by the result
  pub came_ok : (n : ℕ) (words : List ℕ) (o : Order) (c : Counts) (m : Moment K X) (log : List Record) {r : Result Counts Stop} {d : Counts} (m' : Moment K X) (log' : List Record) → r ≡ Ok d → ComesTo G κ n words o c m log r m' log' → Moved G κ n words o c m log d m' log'
  came_ok n words o c m log m' log' e h = rw e at h

  pub came_err : (n : ℕ) (words : List ℕ) (o : Order) (c : Counts) (m : Moment K X) (log : List Record) {r : Result Counts Stop} {s : Stop} (m' : Moment K X) (log' : List Record) → r ≡ Err s → ComesTo G κ n words o c m log r m' log' → Halted G κ n words o c m log m' s × (log' ≡ log)
  came_err n words o c m log m' log' e h = rw e at h
