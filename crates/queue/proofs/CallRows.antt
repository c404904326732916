-- What the rows of the tables do to a call: where it stands, its item, its steps, and how many stores wait for cells.
use Rattle.std.proofs.Common.{◌≡◌, ℕ, ◌+◌, ◌*◌, ◌<◌, ◌≤◌, Bool, true, false, cond, ltb, ◌⊎◌, List, Some, None, Option, sym, refl, ap, ◌∙◌, inl, inr, arith, length-append}
use Rattle.std.proofs.lemmas.Option.{none-some}
use Rattle.memory.specs.declared.Memory as memory
use Rattle.words.specs.declared.kinds.Kind as kind
use Rattle.lane.specs.declared.sides.Put.{Put}
use Rattle.lane.specs.declared.sides.Put.TheVariants as put
use Rattle.lane.specs.declared.sides.Take.{Take}
use Rattle.lane.specs.declared.sides.Take.TheVariants as take
use Rattle.lane.specs.Hands.{Feeder, Drawer}
use Rattle.lane.specs.declared.answers.Ended.{Ended}
use Rattle.lane.specs.declared.answers.PutAnswer.{PutAnswer}
use Rattle.lane.specs.declared.answers.PutAnswer.TheVariants as putting
use Rattle.lane.specs.declared.answers.TakeAnswer.{TakeAnswer}
use Rattle.lane.specs.declared.answers.TakeAnswer.TheVariants as taking
use Rattle.lane.specs.Stages.{put_steps, take_steps}
use Rattle.std.proofs.lemmas.Bool.{le-ltb}
use Rattle.memory.specs.declared.Side.{Side}
use Rattle.memory.specs.declared.Side.TheVariants as side
use Rattle.memory.specs.Meaning.{Meaning, Lands, Landings, Landings.none, Landings.next, joined, store, bar}
use Rattle.lane.specs.Layout.{own_cell, next_cell, free_cell, mark_cell}
use Rattle.lane.specs.PutTable as puttable
use Rattle.lane.specs.TakeTable as taketable
use Rattle.lane.proofs.Underway.{no_both}
use Rattle.queue.specs.Waiting.{waiting_below}
use Rattle.queue.proofs.Landing.{landing_law, on_sides}
use Rattle.queue.proofs.Joining.{store_law, bar_law}
use Rattle.queue.proofs.Tales.{first_put, first_take, number, PutTale}
use Rattle.queue.proofs.Tales as tales

module _ {K : Type 0} where
  -- the item in hand
  abbrev pub hand : Put K → Option K
  hand put.Idle = None
  hand (put.P1 i) = Some i
  hand (put.P2 i) = Some i
  hand (put.P3 i n) = Some i
  hand (put.P4 i n) = Some i
  hand (put.P5 i n) = Some i
  hand (put.P6 i n) = Some i
  hand (put.P7 i) = Some i
  hand (put.P8 i) = Some i

  -- the first step is made
  abbrev pub later_put : Put K → Bool
  later_put put.Idle = false
  later_put (put.P1 i) = false
  later_put (put.P2 i) = true
  later_put (put.P3 i n) = true
  later_put (put.P4 i n) = true
  later_put (put.P5 i n) = true
  later_put (put.P6 i n) = true
  later_put (put.P7 i) = true
  later_put (put.P8 i) = true

  abbrev pub later_take : Take K → Bool
  later_take take.Idle = false
  later_take take.T1 = false
  later_take take.T2 = true
  later_take take.T3 = true
  later_take take.T4 = true
  later_take (take.T5 n) = true
  later_take (take.T6 n) = true
  later_take (take.T7 n) = true
  later_take take.T8 = true
  later_take (take.T9 i) = true

  pub later_first_put : (s : Put K) (a b : ℕ) → later_put s ≡ true → first_put s a b ≡ b
  later_first_put put.Idle a b h = refl
  later_first_put (put.P1 i) a b h = no_both (sym h)
  later_first_put (put.P2 i) a b h = refl
  later_first_put (put.P3 i n) a b h = refl
  later_first_put (put.P4 i n) a b h = refl
  later_first_put (put.P5 i n) a b h = refl
  later_first_put (put.P6 i n) a b h = refl
  later_first_put (put.P7 i) a b h = refl
  later_first_put (put.P8 i) a b h = refl

  pub later_first_take : (s : Take K) (a b : ℕ) → later_take s ≡ true → first_take s a b ≡ b
  later_first_take take.Idle a b h = refl
  later_first_take take.T1 a b h = no_both (sym h)
  later_first_take take.T2 a b h = refl
  later_first_take take.T3 a b h = refl
  later_first_take take.T4 a b h = refl
  later_first_take (take.T5 n) a b h = refl
  later_first_take (take.T6 n) a b h = refl
  later_first_take (take.T7 n) a b h = refl
  later_first_take take.T8 a b h = refl
  later_first_take (take.T9 i) a b h = refl

  pub put_most : (s : Put K) → put_steps s < 8
  put_most put.Idle = omega arith
  put_most (put.P1 i) = omega arith
  put_most (put.P2 i) = omega arith
  put_most (put.P3 i n) = omega arith
  put_most (put.P4 i n) = omega arith
  put_most (put.P5 i n) = omega arith
  put_most (put.P6 i n) = omega arith
  put_most (put.P7 i) = omega arith
  put_most (put.P8 i) = omega arith

  pub take_most : (s : Take K) → take_steps s < 9
  take_most take.Idle = omega arith
  take_most take.T1 = omega arith
  take_most take.T2 = omega arith
  take_most take.T3 = omega arith
  take_most take.T4 = omega arith
  take_most (take.T5 n) = omega arith
  take_most (take.T6 n) = omega arith
  take_most (take.T7 n) = omega arith
  take_most take.T8 = omega arith
  take_most (take.T9 i) = omega arith

  pub record PutOn (f e : Feeder K) : Type 0 where
    pub later : later_put e.stage ≡ true
    pub item : hand e.stage ≡ hand f.stage
    pub steps : e.steps ≡ f.steps + 1
    pub few : put_steps f.stage + 1 ≤ put_steps e.stage

  pub record PutOver (f e : Feeder K) (z : Ended (PutAnswer K)) : Type 0 where
    pub later : later_put f.stage ≡ true
    pub idle : e.stage ≡ put.Idle
    pub steps : z.steps ≡ f.steps + 1
    pub given_back : (i : K) → z.answer ≡ putting.NoRing i → hand f.stage ≡ Some i

  abbrev pub PutMoves : Feeder K → Feeder K → Option (Ended (PutAnswer K)) → Type 0
  PutMoves f e None = PutOn f e
  PutMoves f e (Some z) = PutOver f e z

  pub record TakeOn (d e : Drawer K) : Type 0 where
    pub later : later_take e.stage ≡ true
    pub steps : e.steps ≡ d.steps + 1
    pub few : take_steps d.stage + 1 ≤ take_steps e.stage

  pub record TakeOver (d e : Drawer K) (z : Ended (TakeAnswer K)) : Type 0 where
    pub later : (later_take d.stage ≡ true) ⊎ (z.answer ≡ taking.Damaged)
    pub idle : e.stage ≡ take.Idle
    pub steps : z.steps ≡ d.steps + 1

  abbrev pub TakeMoves : Drawer K → Drawer K → Option (Ended (TakeAnswer K)) → Type 0
  TakeMoves d e None = TakeOn d e
  TakeMoves d e (Some z) = TakeOver d e z

  on_to : (f : Feeder K) (s t : Put K) (p : _) → f.stage ≡ s → later_put t ≡ true → hand t ≡ hand s → put_steps s + 1 ≤ put_steps t → PutOn f (record { stage = t; steps = f.steps + 1; places = p })
  on_to f s t p e l h k = record { later = l; item = h ∙ sym (ap hand e); steps = refl; few = rw e k }

  take_to : (d : Drawer K) (s t : Take K) (p : _) → d.stage ≡ s → later_take t ≡ true → take_steps s + 1 ≤ take_steps t → TakeOn d (record { stage = t; steps = d.steps + 1; places = p })
  take_to d s t p e l k = record { later = l; steps = refl; few = rw e k }

  take_end : (d : Drawer K) (s : Take K) (p : _) (a : TakeAnswer K) → d.stage ≡ s → later_take s ≡ true → TakeOver d (record { stage = take.Idle; steps = 0; places = p }) (record { answer = a; steps = d.steps + 1 })
  take_end d s p a e l = record { later = inl (ap later_take e ∙ l); idle = refl; steps = refl }

module _ {X K : Type 0} (G : memory.Ghosts X) (κ : kind.Ghosts K) (R N : ℕ) where
  pub put_moves : {f : Feeder K} {x : X} {e : Feeder K} {y : X} {a : Option (Ended (PutAnswer K))} → puttable.PutRow G κ R N f x e y a → PutMoves f e a
  put_moves {f} (puttable.p1_bare i e h) = on_to f (put.P1 i) (put.P7 i) _ e refl refl (omega arith)
  put_moves {f} (puttable.p1_full i w e h n) = on_to f (put.P1 i) (put.P2 i) _ e refl refl (omega arith)
  put_moves {f} (puttable.p2_bare i e h) = record { later = ap later_put e; idle = refl; steps = refl; given_back = λ j q. ap hand e ∙ (cc) }
  put_moves {f} (puttable.p2_ring i n e h l) = on_to f (put.P2 i) (put.P3 i n) _ e refl refl (omega arith)
  put_moves {f} (puttable.p2_odd i w e h n l) = record { later = ap later_put e; idle = refl; steps = refl; given_back = λ j q. cc }
  put_moves {f} (puttable.p3 i n e h) = on_to f (put.P3 i n) (put.P4 i n) _ e refl refl (omega arith)
  put_moves {f} (puttable.p4 i n e h) = on_to f (put.P4 i n) (put.P5 i n) _ e refl refl (omega arith)
  put_moves {f} (puttable.p5 i n e h) = on_to f (put.P5 i n) (put.P6 i n) _ e refl refl (omega arith)
  put_moves {f} (puttable.p6 i n e h) = on_to f (put.P6 i n) (put.P7 i) _ e refl refl (omega arith)
  put_moves {f} (puttable.p7 i e h) = on_to f (put.P7 i) (put.P8 i) _ e refl refl (omega arith)
  put_moves {f} (puttable.p8 i e h) = record { later = ap later_put e; idle = refl; steps = refl; given_back = λ j q. cc }

  pub take_moves : {d : Drawer K} {x : X} {e : Drawer K} {y : X} {a : Option (Ended (TakeAnswer K))} → taketable.TakeRow G κ R N d x e y a → TakeMoves d e a
  take_moves {d} (taketable.t1_bare e h) = take_to d take.T1 take.T2 _ e refl (omega arith)
  take_moves {d} (taketable.t1_item i e h) = take_to d take.T1 (take.T9 i) _ e refl (omega arith)
  take_moves {d} (taketable.t1_odd w e h n) = record { later = inr refl; idle = refl; steps = refl }
  take_moves {d} (taketable.t2_own e h) = take_end d take.T2 _ _ e refl
  take_moves {d} (taketable.t2_other n e h l o) = take_to d take.T2 take.T3 _ e refl (omega arith)
  take_moves {d} (taketable.t2_odd w e h l) = take_end d take.T2 _ _ e refl
  take_moves {d} (taketable.t3_bare e h) = take_to d take.T3 take.T4 _ e refl (omega arith)
  take_moves {d} (taketable.t3_item i e h) = take_to d take.T3 (take.T9 i) _ e refl (omega arith)
  take_moves {d} (taketable.t3_odd w e h n) = take_end d take.T3 _ _ e refl
  take_moves {d} (taketable.t4_bare e h) = take_end d take.T4 _ _ e refl
  take_moves {d} (taketable.t4_ring n e h l) = take_to d take.T4 (take.T5 n) _ e refl (omega arith)
  take_moves {d} (taketable.t4_odd w e h n l) = take_end d take.T4 _ _ e refl
  take_moves {d} (taketable.t5 n e h) = take_to d (take.T5 n) (take.T6 n) _ e refl (omega arith)
  take_moves {d} (taketable.t6 n e h) = take_to d (take.T6 n) (take.T7 n) _ e refl (omega arith)
  take_moves {d} (taketable.t7 n e h) = take_to d (take.T7 n) take.T8 _ e refl (omega arith)
  take_moves {d} (taketable.t8_bare e h) = take_end d take.T8 _ _ e refl
  take_moves {d} (taketable.t8_item i e h) = take_to d take.T8 (take.T9 i) _ e refl (omega arith)
  take_moves {d} (taketable.t8_odd w e h n) = take_end d take.T8 _ _ e refl
  take_moves {d} (taketable.t9 i e h) = take_end d (take.T9 i) _ _ e refl

pub differ : {A : Type 0} {e : Ended A} {B : Type 0} → ◌≡◌ {A = Option (Ended A)} None (Some e) → B
differ h = absurd (none-some _ h)

pub answer_is : {A : Type 0} {e f : Ended A} → Some e ≡ Some f → e.answer ≡ f.answer
answer_is {A} {e} {f} h = let z : e ≡ f = cc in ap (λ (y : Ended A). y.answer) z

-- landings let no more stores wait
one_fewer : (k : ℕ) (t s : Side) (a w : ℕ) (m n : Meaning) → Lands t a w m n → waiting_below k s n ≤ waiting_below k s m
one_fewer k t s a w m n r =
    let l = landing_law t a w m n r in
    on_sides (λ v. waiting_below k v n ≤ waiting_below k v m) t s (go (ltb a k) (l.below k)) (let e = l.opposite_below k in omega arith)
  where
    go : (b : Bool) → waiting_below k t m ≡ cond b (1 + waiting_below k t n) (waiting_below k t n) → waiting_below k t n ≤ waiting_below k t m
    go true e = omega arith
    go false e = omega arith

pub landings_fewer : {m n : Meaning} (k : ℕ) (s : Side) → Landings m n → waiting_below k s n ≤ waiting_below k s m
landings_fewer k s none = omega arith
landings_fewer k s (next {m = m} {n = n} {o = o} t a w r rest) = let e = one_fewer k t s a w m n r in let f = landings_fewer k s rest in omega arith

-- a store lets at most one more wait, and none below its address
stored_more : (k a w : ℕ) (m n : Meaning) → Landings (joined side.Feeder (store a w) m) n → waiting_below k side.Feeder n ≤ 1 + waiting_below k side.Feeder m
stored_more k a w m n r = let f = landings_fewer k side.Feeder r in go (ltb a k) ((store_law side.Feeder a w m).below k)
  where
    go : (b : Bool) → waiting_below k side.Feeder (joined side.Feeder (store a w) m) ≡ cond b (1 + waiting_below k side.Feeder m) (waiting_below k side.Feeder m) → waiting_below k side.Feeder n ≤ 1 + waiting_below k side.Feeder m
    go true e = let f = landings_fewer k side.Feeder r in omega arith
    go false e = let f = landings_fewer k side.Feeder r in omega arith

stored_above : (k a w : ℕ) (m n : Meaning) → k ≤ a → Landings (joined side.Feeder (store a w) m) n → waiting_below k side.Feeder n ≤ waiting_below k side.Feeder m
stored_above k a w m n h r = let f = landings_fewer k side.Feeder r in let e : waiting_below k side.Feeder (joined side.Feeder (store a w) m) ≡ waiting_below k side.Feeder m = rw (le-ltb a k h) at ((store_law side.Feeder a w m).below k) in omega arith

barred_same : (k : ℕ) (m n : Meaning) → Landings (joined side.Feeder bar m) n → waiting_below k side.Feeder n ≤ waiting_below k side.Feeder m
barred_same k m n r = let f = landings_fewer k side.Feeder r in let e = (bar_law side.Feeder m).below k side.Feeder in omega arith

-- whether an answer accepts
abbrev pub accepting : {K : Type 0} → Option (Ended (PutAnswer K)) → ℕ
accepting None = 0
accepting (Some e) = elim e.answer [ putting.Accepted ↦ 1 | putting.NoRing i ↦ 0 | putting.Damaged ↦ 0 ]

module _ {X K : Type 0} (G : memory.Ghosts X) (κ : kind.Ghosts K) (R N : ℕ) where
  abbrev cells_waited : X → ℕ
  cells_waited x = waiting_below (R * N) side.Feeder (G.meaning x)

  looked : (x y : X) → G.meaning y ≡ G.meaning x → cells_waited y ≤ cells_waited x
  looked x y e = rw e (omega arith)

  -- a put's row lets no more stores wait for cells than it accepts
  pub put_fewer : {f : Feeder K} {x : X} {e : Feeder K} {y : X} {a : Option (Ended (PutAnswer K))} → puttable.PutRow G κ R N f x e y a → cells_waited y ≤ accepting a + cells_waited x
  put_fewer {x = x} {y = y} (puttable.p1_bare i e h) = let l = looked x y h.rule.2 in omega arith
  put_fewer {x = x} {y = y} (puttable.p1_full i w e h n) = let l = looked x y h.rule.2 in omega arith
  put_fewer {x = x} {y = y} (puttable.p2_bare i e h) = let l = looked x y h.rule.2 in omega arith
  put_fewer {x = x} {y = y} (puttable.p2_ring i n e h q) = let l = looked x y h.rule.2 in omega arith
  put_fewer {x = x} {y = y} (puttable.p2_odd i w e h n q) = let l = looked x y h.rule.2 in omega arith
  put_fewer {f} {x} {y = y} (puttable.p3 i n e h) = let l = stored_above (R * N) (free_cell R N f.places) 0 (G.meaning x) (G.meaning y) (omega arith) h.rule.1 in omega arith
  put_fewer {x = x} {y = y} (puttable.p4 i n e h) = let l = barred_same (R * N) (G.meaning x) (G.meaning y) h.rule in omega arith
  put_fewer {f} {x} {y = y} (puttable.p5 i n e h) = let l = stored_above (R * N) (next_cell R N f.places) (n + 1) (G.meaning x) (G.meaning y) (omega arith) h.rule.1 in omega arith
  put_fewer {f} {x} {y = y} (puttable.p6 i n e h) = let l = stored_above (R * N) (mark_cell R N) (n + 1) (G.meaning x) (G.meaning y) (omega arith) h.rule.1 in omega arith
  put_fewer {x = x} {y = y} (puttable.p7 i e h) = let l = barred_same (R * N) (G.meaning x) (G.meaning y) h.rule in omega arith
  put_fewer {f} {x} {y = y} (puttable.p8 i e h) = let l = stored_more (R * N) (own_cell N f.places) (κ.word i) (G.meaning x) (G.meaning y) h.rule.1 in omega arith

  -- a put that lacks a ring, and a take that gives no item, end with a look
  pub put_refused_still : {f : Feeder K} {x : X} {e : Feeder K} {y : X} {a : Option (Ended (PutAnswer K))} → puttable.PutRow G κ R N f x e y a → (z : Ended (PutAnswer K)) → a ≡ Some z → (z.answer ≡ putting.Accepted) ⊎ (G.meaning y ≡ G.meaning x)
  put_refused_still (puttable.p1_bare i e h) z q = inr h.rule.2
  put_refused_still (puttable.p1_full i w e h n) z q = inr h.rule.2
  put_refused_still (puttable.p2_bare i e h) z q = inr h.rule.2
  put_refused_still (puttable.p2_ring i n e h l) z q = inr h.rule.2
  put_refused_still (puttable.p2_odd i w e h n l) z q = inr h.rule.2
  put_refused_still (puttable.p3 i n e h) z q = differ q
  put_refused_still (puttable.p4 i n e h) z q = differ q
  put_refused_still (puttable.p5 i n e h) z q = differ q
  put_refused_still (puttable.p6 i n e h) z q = differ q
  put_refused_still (puttable.p7 i e h) z q = differ q
  put_refused_still (puttable.p8 i e h) z q = inl (sym (answer_is q))

  pub take_empty_still : {d : Drawer K} {x : X} {e : Drawer K} {y : X} {a : Option (Ended (TakeAnswer K))} → taketable.TakeRow G κ R N d x e y a → (z : Ended (TakeAnswer K)) → a ≡ Some z → ((i : K) × (z.answer ≡ taking.Taken i)) ⊎ (G.meaning y ≡ G.meaning x)
  take_empty_still (taketable.t1_bare e h) z q = inr h.rule.2
  take_empty_still (taketable.t1_item i e h) z q = inr h.rule.2
  take_empty_still (taketable.t1_odd w e h n) z q = inr h.rule.2
  take_empty_still (taketable.t2_own e h) z q = inr h.rule.2
  take_empty_still (taketable.t2_other n e h l o) z q = inr h.rule.2
  take_empty_still (taketable.t2_odd w e h l) z q = inr h.rule.2
  take_empty_still (taketable.t3_bare e h) z q = inr h.rule.2
  take_empty_still (taketable.t3_item i e h) z q = inr h.rule.2
  take_empty_still (taketable.t3_odd w e h n) z q = inr h.rule.2
  take_empty_still (taketable.t4_bare e h) z q = inr h.rule.2
  take_empty_still (taketable.t4_ring n e h l) z q = inr h.rule.2
  take_empty_still (taketable.t4_odd w e h n l) z q = inr h.rule.2
  take_empty_still (taketable.t5 n e h) z q = differ q
  take_empty_still (taketable.t6 n e h) z q = differ q
  take_empty_still (taketable.t7 n e h) z q = differ q
  take_empty_still (taketable.t8_bare e h) z q = inr h.rule.2
  take_empty_still (taketable.t8_item i e h) z q = inr h.rule.2
  take_empty_still (taketable.t8_odd w e h n) z q = inr h.rule.2
  take_empty_still (taketable.t9 i e h) z q = inl (i, sym (answer_is q))

-- an arrived item stays arrived while puts go on
pub number_stays : {K : Type 0} (R N w k : ℕ) (s : Put K) (us vs : List K) (m n : Meaning) {a : Option (Ended (PutAnswer K))} → PutTale R N s w k us a vs → waiting_below (R * N) side.Feeder n ≤ accepting a + waiting_below (R * N) side.Feeder m → 0 < number R N us m → 0 < number R N vs n
number_stays R N w k s us vs m n tales.PutTale.going h l = omega arith
number_stays R N w k s us vs m n (tales.PutTale.accepted x i e) h l = simp length-append (omega arith)
number_stays R N w k s us vs m n (tales.PutTale.no_ring x i e) h l = omega arith
