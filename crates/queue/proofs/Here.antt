-- A lane at a moment of a history is in a run of the queue, and what its next step tells.
use Rattle.std.proofs.Common.{◌≡◌, ℕ, suc, ◌-◌, ◌*◌, ◌<◌, List, [], ◌∷◌, ◌++◌, length, Option, sym, refl, ap, ◌∙◌, subst, subst₂, arith}
use Rattle.memory.specs.declared.Memory as memory
use Rattle.memory.specs.declared.Side.TheVariants.{Feeder}
use Rattle.memory.specs.Meaning.{Meaning, Landings}
use Rattle.queue.specs.Waiting.{waiting_below}
use Rattle.words.specs.declared.kinds.Kind as kind
use Rattle.lane.specs.declared.sides.Put.{Put}
use Rattle.lane.specs.declared.sides.Put.TheVariants as put
use Rattle.lane.specs.declared.sides.Take.{Take}
use Rattle.lane.specs.declared.sides.Take.TheVariants as take
use Rattle.lane.specs.declared.answers.Ended.{Ended}
use Rattle.lane.specs.declared.answers.PutAnswer.{PutAnswer}
use Rattle.lane.specs.declared.answers.TakeAnswer.{TakeAnswer}
use Rattle.lane.specs.declared.answers.TakeAnswer.TheVariants as taking
use Rattle.lane.specs.Layout.{Shaped}
use Rattle.lane.specs.PutTable.{PutRow}
use Rattle.lane.specs.TakeTable.{TakeRow}
use Rattle.queue.specs.Calls.{ended}
use Rattle.queue.specs.Waiting.{waiting}
use Rattle.lane.specs.Moments.{Moment, PutStep, TakeStep, fed, drawn, remembering}
use Rattle.lane.specs.Ends.{put_begun, take_begun}
use Rattle.lane.specs.Openings.{opened}
use Rattle.queue.proofs.Steps.{Places, Putting, Taking, Out}
use Rattle.queue.proofs.Steps as Lane
use Rattle.queue.proofs.Runs.{Puts, Takes, OpenedLane, after, at_p1, at_t1, arrivals, PutTells, TakeTells}
use Rattle.queue.proofs.Runs as Queue
use Rattle.queue.proofs.RowSteps.{PutGoes, TakeGoes, put_goes, take_goes, PutSays, TakeSays}
use Rattle.queue.proofs.RowSteps as Bridge
use Rattle.queue.proofs.Readings.{Item, positions, put_stage, take_stage}
use Rattle.queue.proofs.Settling.{run_landings}
use Rattle.queue.proofs.RunLaws.{run_good, queue_law}
use Rattle.queue.proofs.Addresses.{ring<}
use Rattle.queue.proofs.Opens.{put_eight, take_eight, zeros}
use Rattle.queue.proofs.Tales.{first_put, first_take, number, PutTale, TakeTale}
use Rattle.queue.proofs.Tales as tales

module _ {X K : Type 0} (G : memory.Ghosts X) (κ : kind.Ghosts K) (marked : (i : K) → κ.word i ≡ 0 → ⊥) (single : (i j : K) → κ.word i ≡ κ.word j → i ≡ j) (R N : ℕ) (shaped : Shaped R N) where
  pub bare_no : Item κ 0 → ⊥
  bare_no h = marked h.0 h.1

  -- the words of items
  pub ws : List K → List ℕ
  ws [] = []
  ws (i ∷ l) = κ.word i ∷ ws l

  pub ws_length : (l : List K) → length (ws l) ≡ length l
  unfolding ws
  ws_length [] = refl
  ws_length (i ∷ l) = ap suc (ws_length l)

  pub ws_snoc : (l : List K) (i : K) → ws (l ++ (i ∷ [])) ≡ ws l ++ (κ.word i ∷ [])
  unfolding ws
  ws_snoc [] i = refl
  ws_snoc (j ∷ l) i = ap (λ (k : List ℕ). κ.word j ∷ k) (ws_snoc l i)

  put_first : (s : Put K) (a b : ℕ) → at_p1 (put_stage κ s) a b ≡ first_put s a b
  put_first put.Idle a b = refl
  put_first (put.P1 i) a b = refl
  put_first (put.P2 i) a b = refl
  put_first (put.P3 i n) a b = refl
  put_first (put.P4 i n) a b = refl
  put_first (put.P5 i n) a b = refl
  put_first (put.P6 i n) a b = refl
  put_first (put.P7 i) a b = refl
  put_first (put.P8 i) a b = refl

  take_first : (s : Take K) (a b : ℕ) → at_t1 (take_stage κ s) a b ≡ first_take s a b
  take_first take.Idle a b = refl
  take_first take.T1 a b = refl
  take_first take.T2 a b = refl
  take_first take.T3 a b = refl
  take_first take.T4 a b = refl
  take_first (take.T5 n) a b = refl
  take_first (take.T6 n) a b = refl
  take_first (take.T7 n) a b = refl
  take_first take.T8 a b = refl
  take_first (take.T9 i) a b = refl

  -- a run of the queue with this line of words
  abbrev pub At : Meaning → Moment K X → List ℕ → ℕ → ℕ → ℕ → Type 0
  At m0 m u a1 w1 n1 = Queue.Run (Item κ) R N m0 u a1 w1 n1 (positions m.feeder.places) (put_stage κ m.feeder.stage) (positions m.drawer.places) (take_stage κ m.drawer.stage) (G.meaning m.memory)

  pub record Fit (m : Moment K X) : Type 0 where
    pub rings : m.rings ≡ R
    pub cells : m.cells ≡ N
    pub feeder_eight : length m.feeder.places.at ≡ 8
    pub drawer_eight : length m.drawer.places.at ≡ 8

  -- the lane fits, and is in a run of the queue with the line us
  pub record Here (m0 : Meaning) (m : Moment K X) (us : List K) (a1 w1 n1 : ℕ) : Type 0 where
    pub fit : Fit m
    pub run : At m0 m (ws us) a1 w1 n1

  module _ (m0 : Meaning) (op : OpenedLane R N m0) where
    module _ (m : Moment K X) (us : List K) (a1 w1 n1 : ℕ) (c : Here m0 m us a1 w1 n1) where
      feeder_ring : m.feeder.places.ring < length m.feeder.places.at
      feeder_ring = let g = (run_good (Item κ) bare_no R N shaped.0 shaped.2 m0 op c.run).0 in let e = g.inv.f_ring in omega (arith, c.fit.feeder_eight, ring< R shaped.0 g.ghost.f, shaped.1)

      drawer_ring : m.drawer.places.ring < length m.drawer.places.at
      drawer_ring = let g = (run_good (Item κ) bare_no R N shaped.0 shaped.2 m0 op c.run).0 in let e = g.inv.d_ring in omega (arith, c.fit.drawer_eight, ring< R shaped.0 g.ghost.d, shaped.1)

      law : ((p' : Places) (s' : Putting) (n : Meaning) (o : Out) → Puts (Item κ) R N (positions m.feeder.places) (put_stage κ m.feeder.stage) (G.meaning m.memory) p' s' n o → PutTells (Item κ) R N w1 n1 o) × ((q' : Places) (t' : Taking) (n : Meaning) (o : Out) → Takes (Item κ) R N (positions m.drawer.places) (take_stage κ m.drawer.stage) (G.meaning m.memory) q' t' n o → TakeTells R N a1 (ws us) (G.meaning m.memory) o)
      law = queue_law (Item κ) bare_no R N shaped.0 shaped.2 m0 op (ws us) a1 w1 n1 (positions m.feeder.places) (put_stage κ m.feeder.stage) (positions m.drawer.places) (take_stage κ m.drawer.stage) (G.meaning m.memory) c.run

      put_tale : {a : Option (Ended (PutAnswer K))} {o : Out} → PutSays G κ R N m.feeder.stage a o → PutTells (Item κ) R N w1 n1 o → (vs : List K) × PutTale R N m.feeder.stage w1 n1 us a vs × (after o (ws us) ≡ ws vs)
      put_tale Bridge.PutSays.goes_on t = (us, tales.PutTale.going, refl)
      put_tale (Bridge.PutSays.accepts k i e) t = (us ++ (i ∷ []), tales.PutTale.accepted k i e, sym (ws_snoc us i))
      put_tale (Bridge.PutSays.lacks k i) t = (us, tales.PutTale.no_ring k i t, refl)
      put_tale (Bridge.PutSays.breaks k) t = absurd t

      pub put_here : (n : Moment K X) (a : Option (Ended (PutAnswer K))) → PutStep G κ m n a → (vs : List K) × PutTale R N m.feeder.stage w1 n1 us a vs × Here m0 n vs a1 (first_put m.feeder.stage (waiting (G.meaning m.memory)) w1) (first_put m.feeder.stage (length us) n1)
      put_here n a s = (v.0, v.1, subst (λ (z : Moment K X). Here m0 z v.0 a1 (first_put m.feeder.stage (waiting (G.meaning m.memory)) w1) (first_put m.feeder.stage (length us) n1)) (sym s.after) (record { fit = record { rings = c.fit.rings; cells = c.fit.cells; feeder_eight = put_eight G κ R N row ∙ c.fit.feeder_eight; drawer_eight = c.fit.drawer_eight }; run = there }))
        where
          row : PutRow G κ R N m.feeder m.memory n.feeder n.memory a
          row = subst₂ (λ (r k : ℕ). PutRow G κ r k m.feeder m.memory n.feeder n.memory a) c.fit.rings c.fit.cells s.row

          h : PutGoes G κ R N m.feeder m.memory n.feeder n.memory a
          h = put_goes G κ R N m.feeder m.memory feeder_ring row

          v : (vs : List K) × PutTale R N m.feeder.stage w1 n1 us a vs × (after h.out (ws us) ≡ ws vs)
          v = put_tale h.says (law.0 (positions n.feeder.places) (put_stage κ n.feeder.stage) h.mid h.out h.step)

          now : At m0 (fed m n.memory n.feeder) (after h.out (ws us)) a1 (at_p1 (put_stage κ m.feeder.stage) (waiting (G.meaning m.memory)) w1) (at_p1 (put_stage κ m.feeder.stage) (length (ws us)) n1)
          now = run_landings (Item κ) R N m0 _ _ _ _ _ _ _ _ h.then (Queue.Run.fed c.run h.step)

          there : At m0 (fed m n.memory n.feeder) (ws v.0) a1 (first_put m.feeder.stage (waiting (G.meaning m.memory)) w1) (first_put m.feeder.stage (length us) n1)
          there = rw (v.2, put_first m.feeder.stage (waiting (G.meaning m.memory)) w1, ws_length us, put_first m.feeder.stage (length us) n1) at now

      numbered : arrivals R N (ws us) (G.meaning m.memory) ≡ number R N us (G.meaning m.memory)
      numbered = ap (λ (k : ℕ). k - waiting_below (R * N) Feeder (G.meaning m.memory)) (ws_length us)

      split : (us : List K) (i : K) (v : List ℕ) → ws us ≡ κ.word i ∷ v → (vs : List K) × (us ≡ i ∷ vs)
      unfolding ws
      split [] i v e = let k : ◌≡◌ {A = ℕ} 0 1 = cc in absurd (omega arith)
      split (j ∷ us) i v e = let w : κ.word j ≡ κ.word i = cc in (us, ap (λ (z : K). z ∷ us) (single j i w))

      take_tale : (now : ℕ) → arrivals R N (ws us) (G.meaning m.memory) ≡ now → {a : Option (Ended (TakeAnswer K))} {o : Out} → TakeSays G κ R N a o → TakeTells R N a1 (ws us) (G.meaning m.memory) o → (vs : List K) × TakeTale a1 now us a vs × (after o (ws us) ≡ ws vs)
      unfolding ws
      take_tale now e Bridge.TakeSays.goes_on t = (us, tales.TakeTale.going, refl)
      take_tale now e (Bridge.TakeSays.takes k i) t = let (vs, q) = split us i (after (Lane.Out.taken (κ.word i)) (ws us)) t.0 in (vs, subst (λ (l : List K). TakeTale a1 now l (ended (taking.Taken i) k) vs) (sym q) (tales.TakeTale.taken k i (subst (λ (z : ℕ). 0 < z) e t.1)), ap (λ (l : List K). after (Lane.Out.taken (κ.word i)) (ws l)) q)
      take_tale now e (Bridge.TakeSays.lacks k) t = (us, tales.TakeTale.empty k (omega (arith, t.1)), refl)
      take_tale now e (Bridge.TakeSays.breaks k) t = absurd t

      pub take_here : (n : Moment K X) (a : Option (Ended (TakeAnswer K))) → TakeStep G κ m n a → (vs : List K) × TakeTale a1 (number R N us (G.meaning m.memory)) us a vs × Here m0 n vs (first_take m.drawer.stage (number R N us (G.meaning m.memory)) a1) w1 n1
      take_here n a s = (v.0, v.1, subst (λ (z : Moment K X). Here m0 z v.0 (first_take m.drawer.stage (number R N us (G.meaning m.memory)) a1) w1 n1) (sym s.after) (record { fit = record { rings = c.fit.rings; cells = c.fit.cells; drawer_eight = take_eight G κ R N row ∙ c.fit.drawer_eight; feeder_eight = c.fit.feeder_eight }; run = there }))
        where
          row : TakeRow G κ R N m.drawer m.memory n.drawer n.memory a
          row = subst₂ (λ (r k : ℕ). TakeRow G κ r k m.drawer m.memory n.drawer n.memory a) c.fit.rings c.fit.cells s.row

          h : TakeGoes G κ R N m.drawer m.memory n.drawer n.memory a
          h = take_goes G κ R N m.drawer m.memory drawer_ring row

          v : (vs : List K) × TakeTale a1 (number R N us (G.meaning m.memory)) us a vs × (after h.out (ws us) ≡ ws vs)
          v = take_tale (number R N us (G.meaning m.memory)) numbered h.says (law.1 (positions n.drawer.places) (take_stage κ n.drawer.stage) h.mid h.out h.step)

          now : At m0 (drawn m n.memory n.drawer) (after h.out (ws us)) (at_t1 (take_stage κ m.drawer.stage) (arrivals R N (ws us) (G.meaning m.memory)) a1) w1 n1
          now = run_landings (Item κ) R N m0 _ _ _ _ _ _ _ _ h.then (Queue.Run.drawn c.run h.step)

          there : At m0 (drawn m n.memory n.drawer) (ws v.0) (first_take m.drawer.stage (number R N us (G.meaning m.memory)) a1) w1 n1
          there = subst₂ (λ (l : List ℕ) (k : ℕ). At m0 (drawn m n.memory n.drawer) l k w1 n1) v.2 (take_first m.drawer.stage (arrivals R N (ws us) (G.meaning m.memory)) a1 ∙ ap (λ (k : ℕ). first_take m.drawer.stage k a1) numbered) now

      pub remember : (n : Moment K X) (y : X) → n ≡ remembering m y → Landings (G.meaning m.memory) (G.meaning y) → Here m0 n us a1 w1 n1
      remember n y e l = rw e (record { fit = record { rings = c.fit.rings; cells = c.fit.cells; feeder_eight = c.fit.feeder_eight; drawer_eight = c.fit.drawer_eight }; run = run_landings (Item κ) R N m0 _ _ _ _ _ _ _ _ l c.run })

      pub begin_here : (i : K) → m.feeder.stage ≡ put.Idle → Here m0 (put_begun m i) us a1 w1 n1
      begin_here i e = record { fit = record { rings = c.fit.rings; cells = c.fit.cells; feeder_eight = c.fit.feeder_eight; drawer_eight = c.fit.drawer_eight }; run = Queue.Run.fed (subst (λ (s : Putting). Queue.Run (Item κ) R N m0 (ws us) a1 w1 n1 (positions m.feeder.places) s (positions m.drawer.places) (take_stage κ m.drawer.stage) (G.meaning m.memory)) (ap (put_stage κ) e) c.run) (Lane.FeedsOver.begin (κ.word i) (i, refl)) }

      pub begin_take_here : m.drawer.stage ≡ take.Idle → Here m0 (take_begun m) us a1 w1 n1
      begin_take_here e = record { fit = record { rings = c.fit.rings; cells = c.fit.cells; feeder_eight = c.fit.feeder_eight; drawer_eight = c.fit.drawer_eight }; run = Queue.Run.drawn (subst (λ (s : Taking). Queue.Run (Item κ) R N m0 (ws us) a1 w1 n1 (positions m.feeder.places) (put_stage κ m.feeder.stage) (positions m.drawer.places) s (G.meaning m.memory)) (ap (take_stage κ) e) c.run) Lane.DrawsOver.begin }

  pub opened_here : (k : ℕ) (x : X) → Here (G.meaning x) (opened k R N x) [] 0 0 0
  unfolding ws
  opened_here k x = record { fit = record { rings = refl; cells = refl; feeder_eight = refl; drawer_eight = refl }; run = subst₂ (λ (p q : Places). Queue.Run (Item κ) R N (G.meaning x) [] 0 0 0 p Lane.Putting.idle q Lane.Taking.idle (G.meaning x)) (λ i. record { own = 0; at = λ r. sym (zeros 8 r) i; next = 0; free = 0 }) (λ i. record { own = 0; at = λ r. sym (zeros 8 r) i; next = 0; free = R - 1 }) Queue.Run.opened }
