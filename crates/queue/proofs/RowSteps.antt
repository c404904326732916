-- The lane's step tables are the queue's steps, each with landings behind it.
use Rattle.std.proofs.Common.{◌≡◌, ℕ, ◌+◌, ◌<◌, cond, eqb, length, get_or, None, Option, sym, refl, ap, ◌∙◌, subst, add-one, arith}
use Rattle.memory.specs.declared.Memory as memory
use Rattle.memory.specs.declared.Side.TheVariants.{Feeder, Drawer}
use Rattle.memory.specs.Meaning.{Meaning, store, bar, joined, look, Landings, none}
use Rattle.words.specs.declared.kinds.Kind as kind
use Rattle.lane.specs.declared.sides.Places as their
use Rattle.lane.specs.declared.sides.Put.{Put}
use Rattle.lane.specs.declared.sides.Put.TheVariants as put
use Rattle.lane.specs.Hands as hands
use Rattle.lane.specs.declared.answers.Ended.{Ended}
use Rattle.lane.specs.declared.answers.PutAnswer.{PutAnswer}
use Rattle.lane.specs.declared.answers.PutAnswer.TheVariants as putting
use Rattle.lane.specs.declared.answers.TakeAnswer.{TakeAnswer}
use Rattle.lane.specs.declared.answers.TakeAnswer.TheVariants as taking
use Rattle.lane.specs.Layout.{own_cell, next_cell, free_cell, mark_cell, own_on, next_on, free_on, advanced}
use Rattle.lane.specs.PutTable.{PutRow}
use Rattle.lane.specs.PutTable as puttable
use Rattle.lane.specs.TakeTable.{TakeRow}
use Rattle.lane.specs.TakeTable as taketable
use Rattle.queue.specs.Calls.{ended}
use Rattle.queue.proofs.Steps.{Places, Putting, Taking, Out, moved_on, changed, on_free, on_next, on_own, into}
use Rattle.queue.proofs.Steps as Lane
use Rattle.queue.proofs.Runs.{Puts, Takes}
use Rattle.queue.proofs.Settling.{at_set}
use Rattle.queue.proofs.Readings.{Item, positions, put_stage, take_stage}

moved_on_same : (n i : ℕ) → advanced n i ≡ moved_on n i
moved_on_same n i = ap (λ (z : ℕ). cond (eqb z n) 0 z) (add-one i)

free_same : (R : ℕ) (p : their.Places) → positions (free_on R p) ≡ on_free R (positions p)
free_same R p = λ i. record { own = p.ring; at = λ r. get_or p.at r 0; next = p.next; free = moved_on_same R p.free i }

next_same : (R : ℕ) (p : their.Places) → positions (next_on R p) ≡ on_next R (positions p)
next_same R p = λ i. record { own = p.ring; at = λ r. get_or p.at r 0; next = moved_on_same R p.next i; free = p.free }

own_same : (N : ℕ) (p : their.Places) → p.ring < length p.at → positions (own_on N p) ≡ on_own N (positions p)
own_same N p l = λ i. record { own = p.ring; at = (at_set p.at p.ring (advanced N (get_or p.at p.ring 0)) l ∙ ap (λ (z : ℕ). changed (λ r. get_or p.at r 0) p.ring z) (moved_on_same N (get_or p.at p.ring 0))) i; next = p.next; free = p.free }

module _ {X K : Type 0} (G : memory.Ghosts X) (κ : kind.Ghosts K) (R N : ℕ) where
  -- the answer that an outcome stands for
  pub data PutSays (s : Put K) : Option (Ended (PutAnswer K)) → Out → Type 0 where
    goes_on : PutSays s None Lane.Out.on
    accepts : (n : ℕ) (i : K) → s ≡ put.P8 i → PutSays s (ended putting.Accepted n) (Lane.Out.accepted (κ.word i))
    lacks : (n : ℕ) (i : K) → PutSays s (ended (putting.NoRing i) n) (Lane.Out.no_ring (κ.word i))
    breaks : (n : ℕ) → PutSays s (ended putting.Damaged n) Lane.Out.damaged

  pub data TakeSays : Option (Ended (TakeAnswer K)) → Out → Type 0 where
    goes_on : TakeSays None Lane.Out.on
    takes : (n : ℕ) (i : K) → TakeSays (ended (taking.Taken i) n) (Lane.Out.taken (κ.word i))
    lacks : (n : ℕ) → TakeSays (ended taking.Empty n) Lane.Out.empty
    breaks : (n : ℕ) → TakeSays (ended taking.Damaged n) Lane.Out.damaged

  -- one row is one step of the queue, and landings
  pub record PutGoes (f : hands.Feeder K) (x : X) (e : hands.Feeder K) (y : X) (a : Option (Ended (PutAnswer K))) : Type 0 where
    pub mid : Meaning
    pub out : Out
    pub step : Puts (Item κ) R N (positions f.places) (put_stage κ f.stage) (G.meaning x) (positions e.places) (put_stage κ e.stage) mid out
    pub then : Landings mid (G.meaning y)
    pub says : PutSays f.stage a out

  pub record TakeGoes (f : hands.Drawer K) (x : X) (e : hands.Drawer K) (y : X) (a : Option (Ended (TakeAnswer K))) : Type 0 where
    pub mid : Meaning
    pub out : Out
    pub step : Takes (Item κ) R N (positions f.places) (take_stage κ f.stage) (G.meaning x) (positions e.places) (take_stage κ e.stage) mid out
    pub then : Landings mid (G.meaning y)
    pub says : TakeSays a out

  still : (x y : X) → G.meaning y ≡ G.meaning x → Landings (G.meaning x) (G.meaning y)
  still x y e = subst (λ (z : Meaning). Landings (G.meaning x) z) (sym e) none

  from : {P P' : Places} {s z S' : Putting} {m n : Meaning} {o : Out} → s ≡ z → Puts (Item κ) R N P z m P' S' n o → Puts (Item κ) R N P s m P' S' n o
  from {P} {P'} {s} {z} {S'} {m} {n} {o} e h = subst (λ (v : Putting). Puts (Item κ) R N P v m P' S' n o) (sym e) h

  toward : {P P' P'' : Places} {s S' : Putting} {m n : Meaning} {o : Out} → P'' ≡ P' → Puts (Item κ) R N P s m P' S' n o → Puts (Item κ) R N P s m P'' S' n o
  toward {P} {P'} {P''} {s} {S'} {m} {n} {o} e h = subst (λ (v : Places). Puts (Item κ) R N P s m v S' n o) (sym e) h

  free_is : (p : their.Places) → free_cell R N p ≡ Lane.free_cell R N (positions p)
  free_is p = omega arith

  mark_is : mark_cell R N ≡ Lane.mark_cell R N
  mark_is = omega arith

  pub put_goes : (f : hands.Feeder K) (x : X) {e : hands.Feeder K} {y : X} {a : Option (Ended (PutAnswer K))} → f.places.ring < length f.places.at → PutRow G κ R N f x e y a → PutGoes f x e y a
  put_goes f x {y = y} lt (puttable.p1_bare i e h) = let l = h.rule in record { mid = G.meaning x; out = Lane.Out.on; step = from (ap (put_stage κ) e) (Lane.FeedsOver.p1_bare (sym l.1)); then = still x y l.2; says = goes_on }
  put_goes f x {y = y} lt (puttable.p1_full i w e h ne) = let l = h.rule in record { mid = G.meaning x; out = Lane.Out.on; step = from (ap (put_stage κ) e) (Lane.FeedsOver.p1_full (λ z. ne (l.1 ∙ z))); then = still x y l.2; says = goes_on }
  put_goes f x {y = y} lt (puttable.p2_bare i e h) = let l = h.rule in record { mid = G.meaning x; out = Lane.Out.no_ring (κ.word i); step = from (ap (put_stage κ) e) (Lane.FeedsOver.p2_bare (rw (free_is f.places) at (sym l.1))); then = still x y l.2; says = lacks (f.steps + 1) i }
  put_goes f x {y = y} lt (puttable.p2_ring i n e h le) = let l = h.rule in record { mid = G.meaning x; out = Lane.Out.on; step = from (ap (put_stage κ) e) (Lane.FeedsOver.p2_ring n le (sym (ap (λ (z : ℕ). look Feeder z (G.meaning x)) (free_is f.places)) ∙ (sym l.1 ∙ add-one n))); then = still x y l.2; says = goes_on }
  put_goes f x {y = y} lt (puttable.p2_odd i w e h ne nr) = let l = h.rule in let z : look Feeder (Lane.free_cell R N (positions f.places)) (G.meaning x) ≡ w = sym (ap (λ (z : ℕ). look Feeder z (G.meaning x)) (free_is f.places)) ∙ sym l.1 in record { mid = G.meaning x; out = Lane.Out.damaged; step = from (ap (put_stage κ) e) (Lane.FeedsOver.p2_bad (λ v. ne (sym z ∙ v)) (λ k b v. nr k b (sym z ∙ (v ∙ sym (add-one k))))); then = still x y l.2; says = breaks (f.steps + 1) }
  put_goes f x {y = y} lt (puttable.p3 i n e h) = record { mid = joined Feeder (store (free_cell R N f.places) 0) (G.meaning x); out = Lane.Out.on; step = toward (free_same R f.places) (from (ap (put_stage κ) e) (Lane.FeedsOver.p3_step (ap (λ (z : ℕ). joined Feeder (store z 0) (G.meaning x)) (free_is f.places)))); then = h.rule.1; says = goes_on }
  put_goes f x {y = y} lt (puttable.p4 i n e h) = record { mid = joined Feeder bar (G.meaning x); out = Lane.Out.on; step = from (ap (put_stage κ) e) (Lane.FeedsOver.p4_step refl); then = h.rule; says = goes_on }
  put_goes f x {y = y} lt (puttable.p5 i n e h) = record { mid = joined Feeder (store (next_cell R N f.places) (n + 1)) (G.meaning x); out = Lane.Out.on; step = toward (next_same R f.places) (from (ap (put_stage κ) e) (Lane.FeedsOver.p5_step (ap (λ (z : ℕ). joined Feeder (store (next_cell R N f.places) z) (G.meaning x)) (add-one n)))); then = h.rule.1; says = goes_on }
  put_goes f x {y = y} lt (puttable.p6 i n e h) = record { mid = joined Feeder (store (mark_cell R N) (n + 1)) (G.meaning x); out = Lane.Out.on; step = from (ap (put_stage κ) e) (Lane.FeedsOver.p6_step (ap (λ (z : ℕ). joined Feeder (store z (n + 1)) (G.meaning x)) mark_is ∙ ap (λ (z : ℕ). joined Feeder (store (Lane.mark_cell R N) z) (G.meaning x)) (add-one n))); then = h.rule.1; says = goes_on }
  put_goes f x {y = y} lt (puttable.p7 i e h) = record { mid = joined Feeder bar (G.meaning x); out = Lane.Out.on; step = from (ap (put_stage κ) e) (Lane.FeedsOver.p7_step refl); then = h.rule; says = goes_on }
  put_goes f x {y = y} lt (puttable.p8 i e h) = record { mid = joined Feeder (store (own_cell N f.places) (κ.word i)) (G.meaning x); out = Lane.Out.accepted (κ.word i); step = toward (own_same N f.places lt) (from (ap (put_stage κ) e) (Lane.FeedsOver.p8_step refl)); then = h.rule.1; says = accepts (f.steps + 1) i e }

  fromT : {P P' : Places} {s z S' : Taking} {m n : Meaning} {o : Out} → s ≡ z → Takes (Item κ) R N P z m P' S' n o → Takes (Item κ) R N P s m P' S' n o
  fromT {P} {P'} {s} {z} {S'} {m} {n} {o} e h = subst (λ (v : Taking). Takes (Item κ) R N P v m P' S' n o) (sym e) h

  towardT : {P P' P'' : Places} {s S' : Taking} {m n : Meaning} {o : Out} → P'' ≡ P' → Takes (Item κ) R N P s m P' S' n o → Takes (Item κ) R N P s m P'' S' n o
  towardT {P} {P'} {P''} {s} {S'} {m} {n} {o} e h = subst (λ (v : Places). Takes (Item κ) R N P s m v S' n o) (sym e) h

  stageT : {P P' : Places} {s S' S'' : Taking} {m n : Meaning} {o : Out} → S'' ≡ S' → Takes (Item κ) R N P s m P' S' n o → Takes (Item κ) R N P s m P' S'' n o
  stageT {P} {P'} {s} {S'} {S''} {m} {n} {o} e h = subst (λ (v : Taking). Takes (Item κ) R N P s m P' v n o) (sym e) h

  -- a word seen in the own cell: an item's, or that of none
  module _ (d : hands.Drawer K) (x y : X) (w : ℕ) (l : w ≡ look Drawer (own_cell N d.places) (G.meaning x)) (same : G.meaning y ≡ G.meaning x) where
    item_goes : {e : hands.Drawer K} (i : K) (s : Taking) → κ.word i ≡ w → take_stage κ d.stage ≡ s → ((Item κ (look Drawer (own_cell N d.places) (G.meaning x))) → Takes (Item κ) R N (positions d.places) s (G.meaning x) (positions e.places) (Lane.Taking.t9 (look Drawer (own_cell N d.places) (G.meaning x))) (G.meaning x) Lane.Out.on) → take_stage κ e.stage ≡ Lane.Taking.t9 (κ.word i) → TakeGoes d x e y None
    item_goes i s z e f q = record { mid = G.meaning x; out = Lane.Out.on; step = stageT (q ∙ ap Lane.Taking.t9 (z ∙ l)) (fromT e (f (i, z ∙ l))); then = still x y same; says = goes_on }

  pub take_goes : (d : hands.Drawer K) (x : X) {e : hands.Drawer K} {y : X} {a : Option (Ended (TakeAnswer K))} → d.places.ring < length d.places.at → TakeRow G κ R N d x e y a → TakeGoes d x e y a
  take_goes d x {y = y} lt (taketable.t1_bare e h) = let l = h.rule in record { mid = G.meaning x; out = Lane.Out.on; step = fromT (ap (take_stage κ) e) (Lane.DrawsOver.t1_bare (sym l.1)); then = still x y l.2; says = goes_on }
  take_goes d x {y = y} lt (taketable.t3_bare e h) = let l = h.rule in record { mid = G.meaning x; out = Lane.Out.on; step = fromT (ap (take_stage κ) e) (Lane.DrawsOver.t3_bare (sym l.1)); then = still x y l.2; says = goes_on }
  take_goes d x {y = y} lt (taketable.t8_bare e h) = let l = h.rule in record { mid = G.meaning x; out = Lane.Out.empty; step = fromT (ap (take_stage κ) e) (Lane.DrawsOver.t8_bare (sym l.1)); then = still x y l.2; says = lacks (d.steps + 1) }
  take_goes d x {e = e} {y = y} lt (taketable.t1_item i q h) = item_goes d x y (κ.word i) h.rule.1 h.rule.2 {e = e} i Lane.Taking.t1 refl (ap (take_stage κ) q) Lane.DrawsOver.t1_item refl
  take_goes d x {y = y} lt (taketable.t1_odd w e h bad) = let l = h.rule in record { mid = G.meaning x; out = Lane.Out.damaged; step = fromT (ap (take_stage κ) e) (Lane.DrawsOver.t1_bad (λ v. bad.0 (l.1 ∙ v)) (λ v. bad.1 v.0 (v.1 ∙ sym l.1))); then = still x y l.2; says = breaks (d.steps + 1) }
  take_goes d x {e = e} {y = y} lt (taketable.t3_item i q h) = item_goes d x y (κ.word i) h.rule.1 h.rule.2 {e = e} i Lane.Taking.t3 refl (ap (take_stage κ) q) Lane.DrawsOver.t3_item refl
  take_goes d x {y = y} lt (taketable.t3_odd w e h bad) = let l = h.rule in record { mid = G.meaning x; out = Lane.Out.damaged; step = fromT (ap (take_stage κ) e) (Lane.DrawsOver.t3_bad (λ v. bad.0 (l.1 ∙ v)) (λ v. bad.1 v.0 (v.1 ∙ sym l.1))); then = still x y l.2; says = breaks (d.steps + 1) }
  take_goes d x {e = e} {y = y} lt (taketable.t8_item i q h) = item_goes d x y (κ.word i) h.rule.1 h.rule.2 {e = e} i Lane.Taking.t8 refl (ap (take_stage κ) q) Lane.DrawsOver.t8_item refl
  take_goes d x {y = y} lt (taketable.t8_odd w e h bad) = let l = h.rule in record { mid = G.meaning x; out = Lane.Out.damaged; step = fromT (ap (take_stage κ) e) (Lane.DrawsOver.t8_bad (λ v. bad.0 (l.1 ∙ v)) (λ v. bad.1 v.0 (v.1 ∙ sym l.1))); then = still x y l.2; says = breaks (d.steps + 1) }
  take_goes d x {y = y} lt (taketable.t2_own e h) = let l = h.rule in record { mid = G.meaning x; out = Lane.Out.empty; step = fromT (ap (take_stage κ) e) (Lane.DrawsOver.t2_own (sym (ap (λ (z : ℕ). look Drawer z (G.meaning x)) mark_is) ∙ (sym l.1 ∙ add-one d.places.ring))); then = still x y l.2; says = lacks (d.steps + 1) }
  take_goes d x {y = y} lt (taketable.t2_other n e h le apart) = let l = h.rule in record { mid = G.meaning x; out = Lane.Out.on; step = fromT (ap (take_stage κ) e) (Lane.DrawsOver.t2_other n le (sym (ap (λ (z : ℕ). look Drawer z (G.meaning x)) mark_is) ∙ (sym l.1 ∙ add-one n)) apart); then = still x y l.2; says = goes_on }
  take_goes d x {y = y} lt (taketable.t2_odd w e h nr) = let l = h.rule in let z : look Drawer (Lane.mark_cell R N) (G.meaning x) ≡ w = sym (ap (λ (z : ℕ). look Drawer z (G.meaning x)) mark_is) ∙ sym l.1 in record { mid = G.meaning x; out = Lane.Out.damaged; step = fromT (ap (take_stage κ) e) (Lane.DrawsOver.t2_bad (λ k b v. nr k b (sym z ∙ (v ∙ sym (add-one k))))); then = still x y l.2; says = breaks (d.steps + 1) }
  take_goes d x {y = y} lt (taketable.t4_bare e h) = let l = h.rule in record { mid = G.meaning x; out = Lane.Out.empty; step = fromT (ap (take_stage κ) e) (Lane.DrawsOver.t4_bare (sym l.1)); then = still x y l.2; says = lacks (d.steps + 1) }
  take_goes d x {y = y} lt (taketable.t4_ring n e h le) = let l = h.rule in record { mid = G.meaning x; out = Lane.Out.on; step = fromT (ap (take_stage κ) e) (Lane.DrawsOver.t4_ring n le (sym l.1 ∙ add-one n)); then = still x y l.2; says = goes_on }
  take_goes d x {y = y} lt (taketable.t4_odd w e h ne nr) = let l = h.rule in record { mid = G.meaning x; out = Lane.Out.damaged; step = fromT (ap (take_stage κ) e) (Lane.DrawsOver.t4_bad (λ v. ne (l.1 ∙ v)) (λ k b v. nr k b (l.1 ∙ (v ∙ sym (add-one k))))); then = still x y l.2; says = breaks (d.steps + 1) }
  take_goes d x {y = y} lt (taketable.t5 n e h) = record { mid = joined Drawer (store (next_cell R N d.places) 0) (G.meaning x); out = Lane.Out.on; step = towardT (next_same R d.places) (fromT (ap (take_stage κ) e) (Lane.DrawsOver.t5_step refl)); then = h.rule.1; says = goes_on }
  take_goes d x {y = y} lt (taketable.t6 n e h) = record { mid = joined Drawer bar (G.meaning x); out = Lane.Out.on; step = fromT (ap (take_stage κ) e) (Lane.DrawsOver.t6_step refl); then = h.rule; says = goes_on }
  take_goes d x {y = y} lt (taketable.t7 n e h) = record { mid = joined Drawer (store (free_cell R N d.places) (d.places.ring + 1)) (G.meaning x); out = Lane.Out.on; step = towardT (ap (into n) (free_same R d.places)) (fromT (ap (take_stage κ) e) (Lane.DrawsOver.t7_step (ap (λ (z : ℕ). joined Drawer (store z (d.places.ring + 1)) (G.meaning x)) (free_is d.places) ∙ ap (λ (z : ℕ). joined Drawer (store (Lane.free_cell R N (positions d.places)) z) (G.meaning x)) (add-one d.places.ring)))); then = h.rule.1; says = goes_on }
  take_goes d x {y = y} lt (taketable.t9 i e h) = record { mid = joined Drawer (store (own_cell N d.places) 0) (G.meaning x); out = Lane.Out.taken (κ.word i); step = towardT (own_same N d.places lt) (fromT (ap (take_stage κ) e) (Lane.DrawsOver.t9_step refl)); then = h.rule.1; says = takes (d.steps + 1) i }
