-- When a call is under way.
use Rattle.std.proofs.Common.{◌≡◌, ℕ, true, false, not, is_some, Option, sym, refl, ap, ◌∙◌}
use Rattle.lane.specs.Hands.{Feeder, Drawer}
use Rattle.std.proofs.lemmas.Bool.{false≢true}
use Rattle.lane.specs.Stages.{putting, taking}
use Rattle.memory.specs.declared.Memory as memory
use Rattle.words.specs.declared.kinds.Kind as kind
use Rattle.lane.specs.declared.sides.Put.{Put}
use Rattle.lane.specs.declared.sides.Put.TheVariants as put
use Rattle.lane.specs.declared.sides.Take.{Take}
use Rattle.lane.specs.declared.sides.Take.TheVariants as take
use Rattle.lane.specs.declared.answers.Ended.{Ended}
use Rattle.lane.specs.declared.answers.PutAnswer.{PutAnswer}
use Rattle.lane.specs.declared.answers.TakeAnswer.{TakeAnswer}
use Rattle.lane.specs.PutTable as puts
use Rattle.lane.specs.TakeTable as takes

pub no_both : {A : Type 0} → true ≡ false → A
no_both h = absurd (false≢true (sym h))

module _ {K : Type 0} where
  pub idle_put : (s : Put K) → putting s ≡ false → s ≡ put.Idle
  idle_put put.Idle h = refl
  idle_put (put.P1 i) h = no_both h
  idle_put (put.P2 i) h = no_both h
  idle_put (put.P3 i n) h = no_both h
  idle_put (put.P4 i n) h = no_both h
  idle_put (put.P5 i n) h = no_both h
  idle_put (put.P6 i n) h = no_both h
  idle_put (put.P7 i) h = no_both h
  idle_put (put.P8 i) h = no_both h

  pub idle_take : (s : Take K) → taking s ≡ false → s ≡ take.Idle
  idle_take take.Idle h = refl
  idle_take take.T1 h = no_both h
  idle_take take.T2 h = no_both h
  idle_take take.T3 h = no_both h
  idle_take take.T4 h = no_both h
  idle_take (take.T5 n) h = no_both h
  idle_take (take.T6 n) h = no_both h
  idle_take (take.T7 n) h = no_both h
  idle_take take.T8 h = no_both h
  idle_take (take.T9 i) h = no_both h

  pub busy_put : (s : Put K) → putting s ≡ true → s ≡ put.Idle → ⊥
  busy_put s h e = no_both (sym h ∙ ap putting e)

  pub busy_take : (s : Take K) → taking s ≡ true → s ≡ take.Idle → ⊥
  busy_take s h e = no_both (sym h ∙ ap taking e)

module _ {X K : Type 0} (G : memory.Ghosts X) (κ : kind.Ghosts K) (R N : ℕ) where
  pub put_busy : {f : Feeder K} {x : X} {g : Feeder K} {y : X} {a : Option (Ended (PutAnswer K))} → puts.PutRow G κ R N f x g y a → f.stage ≡ put.Idle → ⊥
  put_busy (puts.p1_bare i e h) = busy_put _ (ap putting e)
  put_busy (puts.p1_full i w e h n) = busy_put _ (ap putting e)
  put_busy (puts.p2_bare i e h) = busy_put _ (ap putting e)
  put_busy (puts.p2_ring i n e h l) = busy_put _ (ap putting e)
  put_busy (puts.p2_odd i w e h n l) = busy_put _ (ap putting e)
  put_busy (puts.p3 i n e h) = busy_put _ (ap putting e)
  put_busy (puts.p4 i n e h) = busy_put _ (ap putting e)
  put_busy (puts.p5 i n e h) = busy_put _ (ap putting e)
  put_busy (puts.p6 i n e h) = busy_put _ (ap putting e)
  put_busy (puts.p7 i e h) = busy_put _ (ap putting e)
  put_busy (puts.p8 i e h) = busy_put _ (ap putting e)

  pub take_busy : {d : Drawer K} {x : X} {g : Drawer K} {y : X} {a : Option (Ended (TakeAnswer K))} → takes.TakeRow G κ R N d x g y a → d.stage ≡ take.Idle → ⊥
  take_busy (takes.t1_bare e h) = busy_take _ (ap taking e)
  take_busy (takes.t1_item i e h) = busy_take _ (ap taking e)
  take_busy (takes.t1_odd w e h n) = busy_take _ (ap taking e)
  take_busy (takes.t2_own e h) = busy_take _ (ap taking e)
  take_busy (takes.t2_other n e h l o) = busy_take _ (ap taking e)
  take_busy (takes.t2_odd w e h l) = busy_take _ (ap taking e)
  take_busy (takes.t3_bare e h) = busy_take _ (ap taking e)
  take_busy (takes.t3_item i e h) = busy_take _ (ap taking e)
  take_busy (takes.t3_odd w e h n) = busy_take _ (ap taking e)
  take_busy (takes.t4_bare e h) = busy_take _ (ap taking e)
  take_busy (takes.t4_ring n e h l) = busy_take _ (ap taking e)
  take_busy (takes.t4_odd w e h n l) = busy_take _ (ap taking e)
  take_busy (takes.t5 n e h) = busy_take _ (ap taking e)
  take_busy (takes.t6 n e h) = busy_take _ (ap taking e)
  take_busy (takes.t7 n e h) = busy_take _ (ap taking e)
  take_busy (takes.t8_bare e h) = busy_take _ (ap taking e)
  take_busy (takes.t8_item i e h) = busy_take _ (ap taking e)
  take_busy (takes.t8_odd w e h n) = busy_take _ (ap taking e)
  take_busy (takes.t9 i e h) = busy_take _ (ap taking e)

  -- a call goes on exactly where its row gives no answer
  pub put_ends : {f : Feeder K} {x : X} {g : Feeder K} {y : X} {a : Option (Ended (PutAnswer K))} → puts.PutRow G κ R N f x g y a → putting g.stage ≡ not (is_some a)
  put_ends (puts.p1_bare i e h) = refl
  put_ends (puts.p1_full i w e h n) = refl
  put_ends (puts.p2_bare i e h) = refl
  put_ends (puts.p2_ring i n e h l) = refl
  put_ends (puts.p2_odd i w e h n l) = refl
  put_ends (puts.p3 i n e h) = refl
  put_ends (puts.p4 i n e h) = refl
  put_ends (puts.p5 i n e h) = refl
  put_ends (puts.p6 i n e h) = refl
  put_ends (puts.p7 i e h) = refl
  put_ends (puts.p8 i e h) = refl

  pub take_ends : {d : Drawer K} {x : X} {g : Drawer K} {y : X} {a : Option (Ended (TakeAnswer K))} → takes.TakeRow G κ R N d x g y a → taking g.stage ≡ not (is_some a)
  take_ends (takes.t1_bare e h) = refl
  take_ends (takes.t1_item i e h) = refl
  take_ends (takes.t1_odd w e h n) = refl
  take_ends (takes.t2_own e h) = refl
  take_ends (takes.t2_other n e h l o) = refl
  take_ends (takes.t2_odd w e h l) = refl
  take_ends (takes.t3_bare e h) = refl
  take_ends (takes.t3_item i e h) = refl
  take_ends (takes.t3_odd w e h n) = refl
  take_ends (takes.t4_bare e h) = refl
  take_ends (takes.t4_ring n e h l) = refl
  take_ends (takes.t4_odd w e h n l) = refl
  take_ends (takes.t5 n e h) = refl
  take_ends (takes.t6 n e h) = refl
  take_ends (takes.t7 n e h) = refl
  take_ends (takes.t8_bare e h) = refl
  take_ends (takes.t8_item i e h) = refl
  take_ends (takes.t8_odd w e h n) = refl
  take_ends (takes.t9 i e h) = refl
