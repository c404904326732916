-- The histories of single moves, and how they join.
use Rattle.std.proofs.Common.{◌≡◌, ℕ, zero, suc, ◌<◌, ◌≤◌, true, ◌⊎◌, List, [], ◌∷◌, ◌++◌, length, take, drop, set, sym, refl, ap, ◌∙◌, subst, inl, inr, arith}
use Rattle.std.proofs.lemmas.Bool.{true_from_ne_false}
use Rattle.memory.specs.declared.Memory as memory
use Rattle.memory.specs.declared.Side.{Side}
use Rattle.words.specs.declared.kinds.Kind as kind
use Rattle.lane.specs.declared.sides.Put.{Put}
use Rattle.lane.specs.declared.sides.Put.TheVariants as put
use Rattle.lane.specs.declared.sides.Take.{Take}
use Rattle.lane.specs.declared.sides.Take.TheVariants as stage
use Rattle.lane.specs.Moments.{Moment, Landing, Draining}
use Rattle.lane.specs.Stages.{putting, taking}
use Rattle.lane.proofs.Underway.{busy_put, busy_take, idle_put, idle_take}
use Rattle.queue.specs.declared.moves.Move.{Move}
use Rattle.queue.specs.declared.moves.Move.TheVariants.{Feed, Draw, Drain, Land}
use Rattle.queue.specs.declared.moves.Said.{Said}
use Rattle.queue.specs.declared.moves.Said.TheVariants.{Nothing}
use Rattle.queue.specs.History.{Event, Happens, Leads}
use Rattle.queue.specs.History as history
use Rattle.queue.specs.Plays.{Plays}
use Rattle.queue.specs.Plays as play
use Rattle.queue.specs.Turns.{Turn}
use Rattle.queue.specs.Turns as turn
use Rattle.queue.specs.InPlay as inplay
use Rattle.queue.specs.InPlay.{Begun, TakeBegins, PutTurn, TakeTurn, Going, Noted}

module _ {K X : Type 0} where
  -- beginning changes one side's stage alone
  pub record PutStays (m n : Moment K X) : Type 0 where
    pub number : n.number ≡ m.number
    pub rings : n.rings ≡ m.rings
    pub cells : n.cells ≡ m.cells
    pub memory : n.memory ≡ m.memory
    pub drawer : n.drawer ≡ m.drawer
    pub busy : n.feeder.stage ≡ put.Idle → ⊥

  pub put_stays : {i : K} {m n : Moment K X} → Begun i m n → PutStays m n
  put_stays (inplay.Begins.goes_on b) = record { number = refl; rings = refl; cells = refl; memory = refl; drawer = refl; busy = b }
  put_stays {i} (inplay.Begins.begins e) = record { number = refl; rings = refl; cells = refl; memory = refl; drawer = refl; busy = busy_put (put.P1 i) refl }

  pub record TakeStays (m n : Moment K X) : Type 0 where
    pub number : n.number ≡ m.number
    pub rings : n.rings ≡ m.rings
    pub cells : n.cells ≡ m.cells
    pub memory : n.memory ≡ m.memory
    pub feeder : n.feeder ≡ m.feeder
    pub busy : n.drawer.stage ≡ stage.Idle → ⊥

  pub take_stays : {m n : Moment K X} → TakeBegins m n → TakeStays m n
  take_stays (inplay.Begins.goes_on b) = record { number = refl; rings = refl; cells = refl; memory = refl; feeder = refl; busy = b }
  take_stays (inplay.Begins.begins e) = record { number = refl; rings = refl; cells = refl; memory = refl; feeder = refl; busy = busy_take stage.T1 refl }

module _ {K : Type 0} where
  pub putting_now : (s : Put K) → (s ≡ put.Idle → ⊥) → putting s ≡ true
  putting_now s b = true_from_ne_false (putting s) (λ e. b (idle_put s e))

  pub taking_now : (s : Take K) → (s ≡ stage.Idle → ⊥) → taking s ≡ true
  taking_now s b = true_from_ne_false (taking s) (λ e. b (idle_take s e))

module _ {K : Type 0} where
  plays_join : {ms ns : List (Move K)} {us vs : List (Said K)} {h k : List (Event K)} → Plays ms us h → Plays ns vs k → Plays (ms ++ ns) (us ++ vs) (h ++ k)
  plays_join play.no_move q = q
  plays_join (play.feed_begins i x y a p) q = play.feed_begins i x y a (plays_join p q)
  plays_join (play.feed_goes_on i x y a p) q = play.feed_goes_on i x y a (plays_join p q)
  plays_join (play.draw_begins x y a p) q = play.draw_begins x y a (plays_join p q)
  plays_join (play.draw_goes_on x y a p) q = play.draw_goes_on x y a (plays_join p q)
  plays_join (play.land s n p) q = play.land s n (plays_join p q)
  plays_join (play.drain p) q = play.drain (plays_join p q)

  plays_length : {ms : List (Move K)} {us : List (Said K)} {h : List (Event K)} → Plays ms us h → length us ≡ length ms
  plays_length play.no_move = refl
  plays_length (play.feed_begins i x y a p) = ap suc (plays_length p)
  plays_length (play.feed_goes_on i x y a p) = ap suc (plays_length p)
  plays_length (play.draw_begins x y a p) = ap suc (plays_length p)
  plays_length (play.draw_goes_on x y a p) = ap suc (plays_length p)
  plays_length (play.land s n p) = ap suc (plays_length p)
  plays_length (play.drain p) = ap suc (plays_length p)

module _ {K X : Type 0} (G : memory.Ghosts X) (κ : kind.Ghosts K) where
  fed_going : {i : K} {m n o : Moment K X} {s : Said K} → Begun i m n → PutTurn G κ n o s → Going G κ m (Feed i ∷ []) (s ∷ []) o
  fed_going {i} {m} {n} {o} {s} (inplay.Begins.goes_on b) t = subst (λ (z : Said K). Going G κ m (Feed i ∷ []) (z ∷ []) o) (sym t.says) (record { history = _; plays = play.feed_goes_on i (G.meaning m.memory) (G.meaning o.memory) t.answer play.no_move; leads = history.first (history.put_steps t.step) history.at_rest })
  fed_going {i} {m} {n} {o} {s} (inplay.Begins.begins e) t = subst (λ (z : Said K). Going G κ m (Feed i ∷ []) (z ∷ []) o) (sym t.says) (record { history = _; plays = play.feed_begins i (G.meaning m.memory) (G.meaning o.memory) t.answer play.no_move; leads = history.first (history.put_begins e refl) (history.first (history.put_steps t.step) history.at_rest) })

  drew_going : {m n o : Moment K X} {s : Said K} → TakeBegins m n → TakeTurn G κ n o s → Going G κ m (Draw ∷ []) (s ∷ []) o
  drew_going {m} {n} {o} {s} (inplay.Begins.goes_on b) t = subst (λ (z : Said K). Going G κ m (Draw ∷ []) (z ∷ []) o) (sym t.says) (record { history = _; plays = play.draw_goes_on (G.meaning m.memory) (G.meaning o.memory) t.answer play.no_move; leads = history.first (history.take_steps t.step) history.at_rest })
  drew_going {m} {n} {o} {s} (inplay.Begins.begins e) t = subst (λ (z : Said K). Going G κ m (Draw ∷ []) (z ∷ []) o) (sym t.says) (record { history = _; plays = play.draw_begins (G.meaning m.memory) (G.meaning o.memory) t.answer play.no_move; leads = history.first (history.take_begins e refl) (history.first (history.take_steps t.step) history.at_rest) })

  drained_going : {m n : Moment K X} → Draining G m n → Going G κ m (Drain ∷ []) (Nothing ∷ []) n
  drained_going h = record { history = _; plays = play.drain play.no_move; leads = history.first (history.draining h) history.at_rest }

  landed_going : {m n : Moment K X} (s : Side) (pick : ℕ) → Landing G s pick m n → Going G κ m (Land s pick ∷ []) (Nothing ∷ []) n
  landed_going s pick h = record { history = _; plays = play.land s pick play.no_move; leads = history.first (history.landing h) history.at_rest }

  pub turn_going : {mv : Move K} {m n : Moment K X} {s : Said K} → Turn G κ mv m s n → Going G κ m (mv ∷ []) (s ∷ []) n
  turn_going (turn.Turn.feeds b t) = fed_going b t
  turn_going (turn.Turn.draws b t) = drew_going b t
  turn_going (turn.Turn.drains h) = drained_going h
  turn_going (turn.Turn.lands {s} {pick} h) = landed_going s pick h

  pub leads_join : {m n o : Moment K X} {h k : List (Event K)} → Leads G κ m h n → Leads G κ n k o → Leads G κ m (h ++ k) o
  leads_join history.at_rest q = q
  leads_join (history.first e p) q = history.first e (leads_join p q)

  going_join : {m n o : Moment K X} {ms ns : List (Move K)} {us vs : List (Said K)} → Going G κ m ms us n → Going G κ n ns vs o → Going G κ m (ms ++ ns) (us ++ vs) o
  going_join p q = record { history = p.history ++ q.history; plays = plays_join p.plays q.plays; leads = leads_join p.leads q.leads }

module _ {A : Type 0} where
  -- one more at the beginning of a place
  place_more : (us vs : List A) (x : A) → length us < length vs → set (us ++ drop (length us) vs) (length us) x ≡ (us ++ (x ∷ [])) ++ drop (length (us ++ (x ∷ []))) vs
  place_more [] [] x h = absurd (omega arith)
  place_more [] (y ∷ vs) x h = refl
  place_more (u ∷ us) [] x h = absurd (omega arith)
  place_more (u ∷ us) (y ∷ vs) x h = ap (λ (l : List A). u ∷ l) (place_more us vs x (omega arith))

  pub same_first : (i n : ℕ) (l : List A) → i ≤ n → (length l ≤ i) ⊎ (n ≤ i) → take i l ≡ take n l
  same_first zero zero l h k = refl
  same_first zero (suc n) [] h k = refl
  same_first zero (suc n) (x ∷ l) h (inl k) = absurd (omega arith)
  same_first zero (suc n) (x ∷ l) h (inr k) = absurd (omega arith)
  same_first (suc i) zero l h k = absurd (omega arith)
  same_first (suc i) (suc n) [] h k = refl
  same_first (suc i) (suc n) (x ∷ l) h (inl k) = ap (λ (v : List A). x ∷ v) (same_first i n l (omega arith) (inl (omega arith)))
  same_first (suc i) (suc n) (x ∷ l) h (inr k) = ap (λ (v : List A). x ∷ v) (same_first i n l (omega arith) (inr (omega arith)))

module _ {K X : Type 0} (G : memory.Ghosts X) (κ : kind.Ghosts K) where
  pub noted_none : (m : Moment K X) (place : List (Said K)) → Noted G κ m [] place place m
  noted_none m place = record { answers = []; going = record { history = []; plays = play.no_move; leads = history.at_rest }; stands = refl }

  noted_set : {m n o : Moment K X} {ms : List (Move K)} {before after : List (Said K)} {x : Move K} {a : Said K} (i : ℕ) → Noted G κ m ms before after n → Going G κ n (x ∷ []) (a ∷ []) o → length ms ≡ i → i < length before → Noted G κ m (ms ++ (x ∷ [])) before (set after i a) o
  noted_set {before = before} {after = after} {a = a} i f g e h = record { answers = f.answers ++ (a ∷ []); going = going_join G κ f.going g; stands = subst (λ (k : ℕ). set after k a ≡ (f.answers ++ (a ∷ [])) ++ drop (length (f.answers ++ (a ∷ []))) before) (plays_length f.going.plays ∙ e) (ap (λ (l : List (Said K)). set l (length f.answers) a) f.stands ∙ place_more f.answers before a (omega (arith, plays_length f.going.plays))) }

  pub noted_more : {m n o : Moment K X} {ms : List (Move K)} {before after later : List (Said K)} {x : Move K} {a : Said K} (i : ℕ) → later ≡ set after i a → Noted G κ m ms before after n → Going G κ n (x ∷ []) (a ∷ []) o → length ms ≡ i → i < length before → Noted G κ m (ms ++ (x ∷ [])) before later o
  noted_more {m} {o = o} {ms = ms} {before = before} {x = x} i q f g e h = subst (λ (l : List (Said K)). Noted G κ m (ms ++ (x ∷ [])) before l o) (sym q) (noted_set i f g e h)
