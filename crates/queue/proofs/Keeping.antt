-- Every history of a lane keeps the promise.
use Rattle.std.proofs.Common.{◌≡◌, ℕ, ◌+◌, ◌-◌, ◌*◌, ◌<◌, ◌≤◌, Bool, true, false, ◌⊎◌, List, [], ◌∷◌, ◌++◌, length, take, drop, Some, None, Option, sym, refl, ap, ◌∙◌, subst, subst₂, inl, inr, append_assoc, append-nil, arith, length-append}
use Rattle.memory.specs.declared.Memory as memory
use Rattle.memory.specs.declared.Side.TheVariants as side
use Rattle.memory.specs.Meaning.{Meaning, line, Landings}
use Rattle.words.specs.declared.kinds.Kind as kind
use Rattle.lane.specs.declared.sides.Put.TheVariants as put
use Rattle.lane.specs.declared.sides.Take.TheVariants as stage
use Rattle.lane.specs.Hands.{Feeder, Drawer}
use Rattle.lane.specs.declared.answers.Ended.{Ended}
use Rattle.lane.specs.declared.answers.PutAnswer.{PutAnswer}
use Rattle.lane.specs.declared.answers.PutAnswer.TheVariants.{Accepted, NoRing}
use Rattle.lane.specs.declared.answers.PutAnswer.TheVariants as answers
use Rattle.lane.specs.declared.answers.TakeAnswer.{TakeAnswer}
use Rattle.lane.specs.declared.answers.TakeAnswer.TheVariants as replies
use Rattle.lane.specs.declared.answers.TakeAnswer.TheVariants.{Taken, Empty}
use Rattle.lane.specs.Layout.{Shaped}
use Rattle.lane.specs.Stages.{put_steps, take_steps}
use Rattle.lane.specs.Moments.{Moment, PutStep, TakeStep}
use Rattle.lane.specs.Ends.{put_begun, take_begun}
use Rattle.lane.specs.Openings.{Opens, opened}
use Rattle.lane.proofs.Underway.{no_both, put_busy, take_busy}
use Rattle.queue.specs.Waiting.{waiting, waiting_below}
use Rattle.queue.specs.History.{Event, Happens, Leads, begins_put, begins_take}
use Rattle.queue.specs.History as history
use Rattle.queue.specs.Calls.{Sight, PutCall, TakeCall, Account, ended, arrived, waiting_for_cells, accepted_by, taken_by, if_accepted, if_taken, nothing_yet, untaken_of, sight, put_met, take_met, put_noted, take_noted, with_drained, noted, account_from, account, under_way}
use Rattle.queue.specs.Promise.{All, SomeOf, Within, Throughout, SameLine, PutMovesLine, TakeMovesLine, MovesLine, Promise}
use Rattle.queue.specs.declared.moves.Move.{Move}
use Rattle.queue.specs.declared.moves.Said.{Said}
use Rattle.queue.specs.InPlay.{Noted}
use Rattle.queue.specs.Plays.{PlayedAsPromised}
use Rattle.queue.proofs.Runs.{OpenedLane}
use Rattle.queue.proofs.RunLaws.{line_law}
use Rattle.queue.proofs.Readings.{Item}
use Rattle.queue.proofs.Opens.{opens_lane}
use Rattle.queue.proofs.Tales.{number, first_put, first_take, PutTale, TakeTale}
use Rattle.queue.proofs.Tales as tales
use Rattle.queue.proofs.Here.{bare_no, ws, ws_length, Here, put_here, take_here, remember, begin_here, begin_take_here, opened_here}
use Rattle.queue.proofs.CallRows.{hand, later_put, later_take, later_first_put, later_first_take, put_most, take_most, PutMoves, TakeMoves, put_moves, take_moves, landings_fewer, accepting, put_fewer, put_refused_still, take_empty_still, number_stays, differ, answer_is}

module _ {A : Type 0} where
  all_append : (P : A → Type 0) (xs ys : List A) → All P xs → All P ys → All P (xs ++ ys)
  all_append P [] ys a b = b
  all_append P (x ∷ xs) ys a b = (a.0, all_append P xs ys a.1 b)

  all_map : (P Q : A → Type 0) → ((x : A) → P x → Q x) → (xs : List A) → All P xs → All Q xs
  all_map P Q f [] a = tt
  all_map P Q f (x ∷ xs) a = (f x a.0, all_map P Q f xs a.1)

  drop_split : (xs ys : List A) → drop (length xs) (xs ++ ys) ≡ ys
  drop_split [] ys = refl
  drop_split (x ∷ xs) ys = drop_split xs ys

  take_split : (xs ys : List A) → take (length xs) (xs ++ ys) ≡ xs
  take_split [] ys = refl
  take_split (x ∷ xs) ys = ap (λ (l : List A). x ∷ l) (take_split xs ys)

  -- one more at the end leaves the first as it was
  first_stays : (xs l : List A) (s z : A) → xs ≡ s ∷ l → (k : List A) × (xs ++ (z ∷ []) ≡ s ∷ k)
  first_stays xs l s z e = (l ++ (z ∷ []), ap (λ (v : List A). v ++ (z ∷ [])) e)

  same_head : {x y : A} {xs ys : List A} → ◌≡◌ {A = List A} (x ∷ xs) (y ∷ ys) → x ≡ y
  same_head e = cc

same_answer : {A : Type 0} (a b : A) (x y : ℕ) → ended a x ≡ ended b y → a ≡ b
same_answer a b x y h = answer_is h

module _ {K : Type 0} where
  accepted_more : (ps : List (PutCall K)) (c : PutCall K) → accepted_by (ps ++ (c ∷ [])) ≡ accepted_by ps ++ if_accepted c.answer c.item
  accepted_more [] c = append-nil (if_accepted c.answer c.item)
  accepted_more (x ∷ ps) c = ap (λ (l : List K). if_accepted x.answer x.item ++ l) (accepted_more ps c) ∙ sym (append_assoc (if_accepted x.answer x.item) (accepted_by ps) (if_accepted c.answer c.item))

  taken_more : (ts : List (TakeCall K)) (c : TakeCall K) → taken_by (ts ++ (c ∷ [])) ≡ taken_by ts ++ if_taken c.answer
  taken_more [] c = append-nil (if_taken c.answer)
  taken_more (x ∷ ts) c = ap (λ (l : List K). if_taken x.answer ++ l) (taken_more ts c) ∙ sym (append_assoc (if_taken x.answer) (taken_by ts) (if_taken c.answer))

module _ {X K : Type 0} (G : memory.Ghosts X) (κ : kind.Ghosts K) (marked : (i : K) → κ.word i ≡ 0 → ⊥) (single : (i j : K) → κ.word i ≡ κ.word j → i ≡ j) (R N : ℕ) (shaped : Shaped R N) where
  -- what is kept of each call
  record PutGood (c : PutCall K) : Type 0 where
    within : Within 8 c.answer (length c.met)
    room : (i : K) (n : ℕ) (s : Sight K) (l : List (Sight K)) → c.answer ≡ ended (NoRing i) n → c.met ≡ s ∷ l → waiting s.memory ≡ 0 → (R - 1) * N ≤ length s.untaken
    back : (i : K) (n : ℕ) → c.answer ≡ ended (NoRing i) n → i ≡ c.item
    sound : (n : ℕ) → c.answer ≡ ended answers.Damaged n → ⊥

  abbrev Exact : Sight K → Type 0
  Exact s = arrived R N s + waiting_for_cells R N s ≡ length s.untaken

  record TakeGood (c : TakeCall K) : Type 0 where
    within : Within 9 c.answer (length c.met)
    honest : (n : ℕ) → c.answer ≡ ended Empty n → SomeOf (λ s. arrived R N s ≡ 0) c.met
    drained : (i : K) (us : List K) (e : Ended (TakeAnswer K)) → c.after_drain ≡ true → c.began ≡ i ∷ us → c.answer ≡ Some e → e.answer ≡ Taken i
    sound : (n : ℕ) → c.answer ≡ ended replies.Damaged n → ⊥
    exact : All Exact c.met

  -- a put begun, with no step yet
  record PutFresh (c : PutCall K) (f : Feeder K) : Type 0 where
    at : f.stage ≡ put.P1 c.item
    steps : f.steps ≡ 0
    met : c.met ≡ []
    unended : c.answer ≡ None

  -- what the first step of a put met: so many waiting stores, and so many untaken items
  record PutFirst (met : List (Sight K)) (w n : ℕ) : Type 0 where
    sight : Sight K
    later : List (Sight K)
    is : met ≡ sight ∷ later
    waits : w ≡ waiting sight.memory
    line : n ≡ length sight.untaken

  record Putting (c : PutCall K) (f : Feeder K) (w n : ℕ) : Type 0 where
    later : later_put f.stage ≡ true
    item : hand f.stage ≡ Some c.item
    steps : f.steps ≡ length c.met
    few : f.steps ≤ put_steps f.stage
    first : PutFirst c.met w n
    unended : c.answer ≡ None

  abbrev PutNow : Option (PutCall K) → Feeder K → ℕ → ℕ → Type 0
  PutNow None f w n = f.stage ≡ put.Idle
  PutNow (Some c) f w n = PutFresh c f ⊎ Putting c f w n

  -- the oldest item of the first line is the oldest of the second
  abbrev SameFirst : List K → List K → Type 0
  SameFirst ls us = (i : K) (vs : List K) → ls ≡ i ∷ vs → (ws : List K) × (us ≡ i ∷ ws)

  -- a take begun, with no step yet
  record TakeFresh (us : List K) (c : TakeCall K) (d : Drawer K) (m : Meaning) : Type 0 where
    at : d.stage ≡ stage.T1
    steps : d.steps ≡ 0
    met : c.met ≡ []
    unended : c.answer ≡ None
    same : SameFirst c.began us
    drained : c.after_drain ≡ true → 0 < length c.began → 0 < number R N us m

  -- at the first step of a take so many items had arrived
  record TakeFirst (met : List (Sight K)) (a : ℕ) : Type 0 where
    sight : Sight K
    later : List (Sight K)
    is : met ≡ sight ∷ later
    number_is : a ≡ arrived R N sight

  record Taking (us : List K) (c : TakeCall K) (d : Drawer K) (a : ℕ) : Type 0 where
    later : later_take d.stage ≡ true
    steps : d.steps ≡ length c.met
    few : d.steps ≤ take_steps d.stage
    first : TakeFirst c.met a
    same : SameFirst c.began us
    drained : c.after_drain ≡ true → 0 < length c.began → 0 < a
    unended : c.answer ≡ None
    exact : All Exact c.met

  abbrev TakeNow : List K → Option (TakeCall K) → Drawer K → ℕ → Meaning → Type 0
  TakeNow us None d a m = d.stage ≡ stage.Idle
  TakeNow us (Some c) d a m = TakeFresh us c d m ⊎ Taking us c d a

  put_unended : (c : PutCall K) → c.answer ≡ None → length c.met < 8 → PutGood c
  put_unended c u l = record {
    within = subst (λ (z : Option (Ended (PutAnswer K))). Within 8 z (length c.met)) (sym u) l;
    room = λ i n s k e. differ (sym u ∙ e);
    back = λ i n e. differ (sym u ∙ e);
    sound = λ n e. differ (sym u ∙ e);
  }

  put_good : (c : PutCall K) (f : Feeder K) (w n : ℕ) → PutNow (Some c) f w n → PutGood c
  put_good c f w n (inl p) = put_unended c p.unended (let e = ap length p.met in omega arith)
  put_good c f w n (inr p) = put_unended c p.unended (let k = put_most f.stage in omega (arith, p.steps, p.few))

  take_unended : (c : TakeCall K) → c.answer ≡ None → length c.met < 9 → All Exact c.met → TakeGood c
  take_unended c u l x = record {
    within = subst (λ (z : Option (Ended (TakeAnswer K))). Within 9 z (length c.met)) (sym u) l;
    honest = λ n e. differ (sym u ∙ e);
    drained = λ i us e h q z. differ (sym u ∙ z);
    sound = λ n e. differ (sym u ∙ e);
    exact = x;
  }

  take_good : (us : List K) (c : TakeCall K) (d : Drawer K) (a : ℕ) (m : Meaning) → TakeNow us (Some c) d a m → TakeGood c
  take_good us c d a m (inl p) = take_unended c p.unended (let e = ap length p.met in omega arith) (rw p.met tt)
  take_good us c d a m (inr p) = take_unended c p.unended (let k = take_most d.stage in omega (arith, p.steps, p.few)) p.exact

  -- a line that grows keeps its oldest item
  same_grow : (ls us : List K) (j : K) → SameFirst ls us → SameFirst ls (us ++ (j ∷ []))
  same_grow ls us j h = λ i vs e. ((h i vs e).0 ++ (j ∷ []), ap (λ (l : List K). l ++ (j ∷ [])) (h i vs e).1)

  -- a put's step leaves a take as it was
  take_along : (us vs : List K) (t : Option (TakeCall K)) (d e : Drawer K) (a : ℕ) (m n : Meaning) → e ≡ d → ((ls : List K) → SameFirst ls us → SameFirst ls vs) → (0 < number R N us m → 0 < number R N vs n) → TakeNow us t d a m → TakeNow vs t e a n
  take_along us vs None d e a m n q g s h = ap (λ (z : Drawer K). z.stage) q ∙ h
  take_along us vs (Some c) d e a m n q g s (inl h) = inl (record { at = ap (λ (z : Drawer K). z.stage) q ∙ h.at; steps = ap (λ (z : Drawer K). z.steps) q ∙ h.steps; met = h.met; unended = h.unended; same = g c.began h.same; drained = λ x y. s (h.drained x y) })
  take_along us vs (Some c) d e a m n q g s (inr h) = inr (rw q (record { later = h.later; steps = h.steps; few = h.few; first = h.first; same = g c.began h.same; drained = h.drained; unended = h.unended; exact = h.exact }))

  module _ (m0 : Meaning) (op : OpenedLane R N m0) where
    abbrev At : Moment K X → List K → ℕ → ℕ → ℕ → Type 0
    At m us a1 w1 n1 = Here G κ marked single R N shaped m0 m us a1 w1 n1

    -- the account of a history, the line, and the lane after it
    record Inv (b : Account K) (m : Moment K X) (us : List K) : Type 0 where
      a1 : ℕ
      w1 : ℕ
      n1 : ℕ
      split : accepted_by b.puts ≡ taken_by b.takes ++ us
      here : At m us a1 w1 n1
      put : PutNow b.putting m.feeder w1 n1
      take : TakeNow us b.taking m.drawer a1 (G.meaning m.memory)
      rest : b.drained ≡ true → line side.Feeder (G.meaning m.memory) ≡ []
      puts : All PutGood b.puts
      takes : All TakeGood b.takes

    untaken_is : (b : Account K) (m : Moment K X) (us : List K) → Inv b m us → untaken_of b ≡ us
    untaken_is b m us iv = ap (λ (l : List K). drop (length (taken_by b.takes)) l) iv.split ∙ drop_split (taken_by b.takes) us

    module _ (b : Account K) (m n : Moment K X) (us : List K) (iv : Inv b m us) where
      abbrev now : Sight K
      now = sight b (G.meaning m.memory)

      untaken : untaken_of b ≡ us
      untaken = untaken_is b m us iv

      arrived_now : arrived R N now ≡ number R N us (G.meaning m.memory)
      arrived_now = ap (λ (l : List K). number R N l (G.meaning m.memory)) untaken

      exact_now : Exact now
      exact_now = let h = line_law (Item κ) (bare_no G κ marked single R N shaped) R N shaped.0 shaped.2 m0 op (ws G κ marked single R N shaped us) iv.a1 iv.w1 iv.n1 _ _ _ _ (G.meaning m.memory) iv.here.run in let l = ws_length G κ marked single R N shaped us in let e = ap length untaken in omega arith

      -- the same line, where the memory means the same
      same_line : (b' : Account K) (y : Meaning) → untaken_of b' ≡ us → y ≡ G.meaning m.memory → SameLine R N now (sight b' y)
      same_line b' y e q = (e ∙ sym untaken, rw (q, e, untaken) refl)

      -- a step of a put
      record PutAfter (c : PutCall K) (a : Option (Ended (PutAnswer K))) : Type 0 where
        line : List K
        inv : Inv (put_noted b (Some c) now a) n line
        moves : PutMovesLine R N (Some c) now (sight (put_noted b (Some c) now a) (G.meaning n.memory)) a

      module _ (c : PutCall K) (f : Feeder K) (w k : ℕ) (dr : n.drawer ≡ m.drawer) (hd : hand f.stage ≡ Some c.item) (st : f.steps + 1 ≡ length (c.met ++ (now ∷ []))) (fw : f.steps ≤ put_steps f.stage) (fi : PutFirst (c.met ++ (now ∷ [])) w k) where
        put_after : {a : Option (Ended (PutAnswer K))} {vs : List K} → PutMoves f n.feeder a → ((z : Ended (PutAnswer K)) → a ≡ Some z → (z.answer ≡ Accepted) ⊎ (G.meaning n.memory ≡ G.meaning m.memory)) → PutTale R N f.stage w k us a vs → (0 < number R N us (G.meaning m.memory) → 0 < number R N vs (G.meaning n.memory)) → At n vs iv.a1 w k → PutAfter c a
        put_after mv sl tales.PutTale.going nm h = record { line = us; inv = i; moves = untaken_is (put_noted b (Some c) now None) n us i ∙ sym untaken }
          where
            i : Inv (put_noted b (Some c) now None) n us
            i = record { a1 = iv.a1; w1 = w; n1 = k; split = iv.split; here = h; put = inr (record { later = mv.later; item = mv.item ∙ hd; steps = mv.steps ∙ st; few = (let z = mv.few in omega (arith, mv.steps)); first = fi; unended = refl }); take = take_along us us b.taking m.drawer n.drawer iv.a1 (G.meaning m.memory) (G.meaning n.memory) dr (λ ls z. z) nm iv.take; rest = λ z. no_both (sym z); puts = iv.puts; takes = iv.takes }
        put_after mv sl (tales.PutTale.accepted x j e) nm h = record { line = us ++ (j ∷ []); inv = i; moves = λ d q. untaken_is (put_noted b (Some c) now (ended Accepted x)) n (us ++ (j ∷ [])) i ∙ (ap (λ (l : List K). l ++ (j ∷ [])) (sym untaken) ∙ ap (λ (z : K). now.untaken ++ (z ∷ [])) (sym ij ∙ (cc))) }
          where
            ij : c.item ≡ j
            ij = let z : Some c.item ≡ Some j = sym hd ∙ ap hand e in cc

            clash : {q : PutAnswer K} {y : ℕ} {B : Type 0} → (Accepted ≡ q → ⊥) → ◌≡◌ {A = Option (Ended (PutAnswer K))} (ended Accepted x) (ended q y) → B
            clash {q} {y} no_way z = absurd (no_way (same_answer Accepted q x y z))

            i : Inv (put_noted b (Some c) now (ended Accepted x)) n (us ++ (j ∷ []))
            i = record { a1 = iv.a1; w1 = w; n1 = k; split = accepted_more b.puts (put_met c now (ended Accepted x)) ∙ (ap (λ (l : List K). l ++ (c.item ∷ [])) iv.split ∙ (append_assoc (taken_by b.takes) us (c.item ∷ []) ∙ ap (λ (z : K). taken_by b.takes ++ (us ++ (z ∷ []))) ij)); here = h; put = mv.idle; take = take_along us (us ++ (j ∷ [])) b.taking m.drawer n.drawer iv.a1 (G.meaning m.memory) (G.meaning n.memory) dr (λ ls. same_grow ls us j) nm iv.take; rest = λ z. no_both (sym z); puts = all_append PutGood b.puts (put_met c now (ended Accepted x) ∷ []) iv.puts (record { within = ((let z = put_most f.stage in omega arith), mv.steps ∙ st); room = λ q y s l z. clash (λ v. let r : ◌≡◌ {A = ℕ} 0 1 = cc in omega arith) z; back = λ q y z. clash (λ v. let r : ◌≡◌ {A = ℕ} 0 1 = cc in omega arith) z; sound = λ y z. clash (λ v. let r : ◌≡◌ {A = ℕ} 0 1 = cc in omega arith) z }, tt); takes = iv.takes }
        put_after mv sl (tales.PutTale.no_ring x j t) nm h = record { line = us; inv = i; moves = same_line (put_noted b (Some c) now (ended (NoRing j) x)) (G.meaning n.memory) (untaken_is (put_noted b (Some c) now (ended (NoRing j) x)) n us i) (elim (sl (record { answer = NoRing j; steps = x }) refl) [ inl z ↦ absurd (let r : ◌≡◌ {A = ℕ} 0 1 = cc in omega arith) | inr z ↦ z ]) }
          where
            i : Inv (put_noted b (Some c) now (ended (NoRing j) x)) n us
            i = record { a1 = iv.a1; w1 = w; n1 = k; split = accepted_more b.puts (put_met c now (ended (NoRing j) x)) ∙ (append-nil (accepted_by b.puts) ∙ iv.split); here = h; put = mv.idle; take = take_along us us b.taking m.drawer n.drawer iv.a1 (G.meaning m.memory) (G.meaning n.memory) dr (λ ls z. z) nm iv.take; rest = λ z. no_both (sym z); puts = all_append PutGood b.puts (put_met c now (ended (NoRing j) x) ∷ []) iv.puts (record { within = ((let z = put_most f.stage in omega arith), mv.steps ∙ st); room = λ q y s l z g u. (let v : fi.sight ≡ s = same_head (sym fi.is ∙ g) in subst (λ (v : Sight K). (R - 1) * N ≤ length v.untaken) v (subst (λ (v : ℕ). (R - 1) * N ≤ v) fi.line (t (fi.waits ∙ (ap (λ (v : Sight K). waiting v.memory) v ∙ u))))); back = λ q y z. (let u : NoRing j ≡ NoRing q = same_answer (NoRing j) (NoRing q) x y z in let v : Some j ≡ Some c.item = sym (mv.given_back j refl) ∙ hd in cc); sound = λ y z. (let v = same_answer (NoRing j) answers.Damaged x y z in let r : ◌≡◌ {A = ℕ} 0 1 = cc in omega arith) }, tt); takes = iv.takes }

      -- a step of a take
      record TakeAfter (c : TakeCall K) (a : Option (Ended (TakeAnswer K))) : Type 0 where
        line : List K
        inv : Inv (take_noted b (Some c) now a) n line
        moves : TakeMovesLine R N now (sight (take_noted b (Some c) now a) (G.meaning n.memory)) a

      module _ (c : TakeCall K) (f : Drawer K) (a1 : ℕ) (fe : n.feeder ≡ m.feeder) (st : f.steps + 1 ≡ length (c.met ++ (now ∷ []))) (fw : f.steps ≤ take_steps f.stage) (fi : TakeFirst (c.met ++ (now ∷ [])) a1) (dd : c.after_drain ≡ true → 0 < length c.began → 0 < a1) (ex : All Exact (c.met ++ (now ∷ []))) where
        take_after : {vs ls : List K} {a : Option (Ended (TakeAnswer K))} → us ≡ ls → SameFirst c.began ls → TakeMoves f n.drawer a → ((z : Ended (TakeAnswer K)) → a ≡ Some z → ((i : K) × (z.answer ≡ Taken i)) ⊎ (G.meaning n.memory ≡ G.meaning m.memory)) → TakeTale a1 (number R N us (G.meaning m.memory)) ls a vs → At n vs a1 iv.w1 iv.n1 → TakeAfter c a
        take_after {vs} {ls} eu sm mv sl tales.TakeTale.going h = record { line = ls; inv = i; moves = untaken_is (take_noted b (Some c) now None) n ls i ∙ (sym eu ∙ sym untaken) }
          where
            i : Inv (take_noted b (Some c) now None) n ls
            i = record { a1 = a1; w1 = iv.w1; n1 = iv.n1; split = iv.split ∙ ap (λ (l : List K). taken_by b.takes ++ l) eu; here = h; put = subst (λ (z : Feeder K). PutNow b.putting z iv.w1 iv.n1) (sym fe) iv.put; take = inr (record { later = mv.later; steps = mv.steps ∙ st; few = (let z = mv.few in omega (arith, mv.steps)); first = fi; same = sm; drained = dd; unended = refl; exact = ex }); rest = λ z. no_both (sym z); puts = iv.puts; takes = iv.takes }
        take_after {vs} eu sm mv sl (tales.TakeTale.taken x j lt) h = record { line = vs; inv = i; moves = (untaken ∙ (eu ∙ ap (λ (l : List K). j ∷ l) (sym (untaken_is (take_noted b (Some c) now (ended (Taken j) x)) n vs i))), subst (λ (z : ℕ). 0 < z) (sym arrived_now) lt) }
          where
            oldest : (i : K) (ls : List K) → c.began ≡ i ∷ ls → j ≡ i
            oldest i ls e = same_head (sm i ls e).1

            i : Inv (take_noted b (Some c) now (ended (Taken j) x)) n vs
            i = record { a1 = a1; w1 = iv.w1; n1 = iv.n1; split = iv.split ∙ (ap (λ (l : List K). taken_by b.takes ++ l) eu ∙ (sym (append_assoc (taken_by b.takes) (j ∷ []) vs) ∙ ap (λ (l : List K). l ++ vs) (sym (taken_more b.takes (take_met c now (ended (Taken j) x)))))); here = h; put = subst (λ (z : Feeder K). PutNow b.putting z iv.w1 iv.n1) (sym fe) iv.put; take = mv.idle; rest = λ z. no_both (sym z); puts = iv.puts; takes = all_append TakeGood b.takes (take_met c now (ended (Taken j) x) ∷ []) iv.takes (record { within = ((let z = take_most f.stage in omega arith), mv.steps ∙ st); honest = λ y z. (let v = same_answer (Taken j) Empty x y z in absurd (let r : ◌≡◌ {A = ℕ} 0 1 = cc in omega arith)); drained = λ i us e hd hu he. sym (answer_is he) ∙ ap Taken (oldest i us hu); sound = λ y z. (let v = same_answer (Taken j) replies.Damaged x y z in let r : ◌≡◌ {A = ℕ} 0 1 = cc in omega arith); exact = ex }, tt) }
        take_after {vs} {ls} eu sm mv sl (tales.TakeTale.empty x z0) h = record { line = ls; inv = i; moves = same_line (take_noted b (Some c) now (ended Empty x)) (G.meaning n.memory) (untaken_is (take_noted b (Some c) now (ended Empty x)) n ls i ∙ sym eu) (elim (sl (record { answer = Empty; steps = x }) refl) [ inl z ↦ absurd (let v = z.1 in let r : ◌≡◌ {A = ℕ} 0 1 = cc in omega arith) | inr z ↦ z ]) }
          where
            i : Inv (take_noted b (Some c) now (ended Empty x)) n ls
            i = record { a1 = a1; w1 = iv.w1; n1 = iv.n1; split = iv.split ∙ (ap (λ (l : List K). taken_by b.takes ++ l) eu ∙ ap (λ (l : List K). l ++ ls) (sym (taken_more b.takes (take_met c now (ended Empty x)) ∙ append-nil (taken_by b.takes)))); here = h; put = subst (λ (z : Feeder K). PutNow b.putting z iv.w1 iv.n1) (sym fe) iv.put; take = mv.idle; rest = λ z. no_both (sym z); puts = iv.puts; takes = all_append TakeGood b.takes (take_met c now (ended Empty x) ∷ []) iv.takes (record { within = ((let z = take_most f.stage in omega arith), mv.steps ∙ st); honest = λ y z. subst (λ (l : List (Sight K)). SomeOf (λ v. arrived R N v ≡ 0) l) (sym fi.is) (inl (sym fi.number_is ∙ z0)); drained = λ i us e hd hu he. absurd (let q = dd hd (let r = ap length hu in omega arith) in omega arith); sound = λ y z. (let v = same_answer Empty replies.Damaged x y z in let r : ◌≡◌ {A = ℕ} 0 1 = cc in omega arith); exact = ex }, tt) }

      -- the steps made so far, and one more
      one_step : (k : ℕ) (l : List (Sight K)) (s : Sight K) → k ≡ length l → k + 1 ≡ length (l ++ (s ∷ []))
      one_step k l s e = simp length-append (omega arith)

      module _ (a : Option (Ended (PutAnswer K))) (s : PutStep G κ m n a) where
        mv : PutMoves m.feeder n.feeder a
        mv = put_moves G κ m.rings m.cells s.row

        sl : (z : Ended (PutAnswer K)) → a ≡ Some z → (z.answer ≡ Accepted) ⊎ (G.meaning n.memory ≡ G.meaning m.memory)
        sl = put_refused_still G κ m.rings m.cells s.row

        dr : n.drawer ≡ m.drawer
        dr = ap (λ (z : Moment K X). z.drawer) s.after

        t : (vs : List K) × PutTale R N m.feeder.stage iv.w1 iv.n1 us a vs × At n vs iv.a1 (first_put m.feeder.stage (waiting (G.meaning m.memory)) iv.w1) (first_put m.feeder.stage (length us) iv.n1)
        t = put_here G κ marked single R N shaped m0 op m us iv.a1 iv.w1 iv.n1 iv.here n a s

        nm : 0 < number R N us (G.meaning m.memory) → 0 < number R N t.0 (G.meaning n.memory)
        nm = number_stays R N iv.w1 iv.n1 m.feeder.stage us t.0 (G.meaning m.memory) (G.meaning n.memory) t.1 (subst₂ (λ (r c : ℕ). waiting_below (r * c) side.Feeder (G.meaning n.memory) ≤ accepting a + waiting_below (r * c) side.Feeder (G.meaning m.memory)) iv.here.fit.rings iv.here.fit.cells (put_fewer G κ m.rings m.cells s.row))

        -- at its first step a put is not over
        first_tale : (i : K) (v l : ℕ) → m.feeder.stage ≡ put.P1 i → {vs : List K} {b : Option (Ended (PutAnswer K))} → PutMoves m.feeder n.feeder b → PutTale R N m.feeder.stage iv.w1 iv.n1 us b vs → PutTale R N m.feeder.stage v l us b vs
        first_tale i v l e q tales.PutTale.going = tales.PutTale.going
        first_tale i v l e q (tales.PutTale.accepted x j z) = no_both (sym (sym (ap later_put e) ∙ q.later))
        first_tale i v l e q (tales.PutTale.no_ring x j z) = no_both (sym (sym (ap later_put e) ∙ q.later))

        put_step_after : (c : PutCall K) → PutNow (Some c) m.feeder iv.w1 iv.n1 → PutAfter c a
        put_step_after c (inl p) = put_after c m.feeder (waiting (G.meaning m.memory)) (length us) dr (ap hand p.at) (rw p.met (omega (arith, p.steps))) (omega (arith, p.steps)) (record { sight = now; later = []; is = ap (λ (l : List (Sight K)). l ++ (now ∷ [])) p.met; waits = refl; line = ap length (sym untaken) }) mv sl (first_tale c.item (waiting (G.meaning m.memory)) (length us) p.at mv t.1) nm (subst₂ (λ (x y : ℕ). At n t.0 iv.a1 x y) (ap (λ z. first_put z (waiting (G.meaning m.memory)) iv.w1) p.at) (ap (λ z. first_put z (length us) iv.n1) p.at) t.2)
        put_step_after c (inr p) = let more = first_stays c.met p.first.later p.first.sight now p.first.is in put_after c m.feeder iv.w1 iv.n1 dr p.item (one_step m.feeder.steps c.met now p.steps) p.few (record { sight = p.first.sight; later = more.0; is = more.1; waits = p.first.waits; line = p.first.line }) mv sl t.1 nm (subst₂ (λ (x y : ℕ). At n t.0 iv.a1 x y) (later_first_put m.feeder.stage (waiting (G.meaning m.memory)) iv.w1 p.later) (later_first_put m.feeder.stage (length us) iv.n1 p.later) t.2)

      module _ (a : Option (Ended (TakeAnswer K))) (s : TakeStep G κ m n a) where
        tmv : TakeMoves m.drawer n.drawer a
        tmv = take_moves G κ m.rings m.cells s.row

        tsl : (z : Ended (TakeAnswer K)) → a ≡ Some z → ((i : K) × (z.answer ≡ Taken i)) ⊎ (G.meaning n.memory ≡ G.meaning m.memory)
        tsl = take_empty_still G κ m.rings m.cells s.row

        fe : n.feeder ≡ m.feeder
        fe = ap (λ (z : Moment K X). z.feeder) s.after

        told : (vs : List K) × TakeTale iv.a1 (number R N us (G.meaning m.memory)) us a vs × At n vs (first_take m.drawer.stage (number R N us (G.meaning m.memory)) iv.a1) iv.w1 iv.n1
        told = take_here G κ marked single R N shaped m0 op m us iv.a1 iv.w1 iv.n1 iv.here n a s

        first_take_tale : (k z : ℕ) {ls vs : List K} {b : Option (Ended (TakeAnswer K))} → m.drawer.stage ≡ stage.T1 → TakeMoves m.drawer n.drawer b → TakeTale iv.a1 z ls b vs → TakeTale k z ls b vs
        first_take_tale k z e q tales.TakeTale.going = tales.TakeTale.going
        first_take_tale k z e q (tales.TakeTale.taken x j lt) = tales.TakeTale.taken x j lt
        first_take_tale k z e q (tales.TakeTale.empty x y) = elim q.later [ inl h ↦ no_both (sym (sym (ap later_take e) ∙ h)) | inr h ↦ absurd (let r : ◌≡◌ {A = ℕ} 0 1 = cc in omega arith) ]

        take_step_after : (c : TakeCall K) → TakeNow us (Some c) m.drawer iv.a1 (G.meaning m.memory) → TakeAfter c a
        take_step_after c (inl p) = take_after c m.drawer (number R N us (G.meaning m.memory)) fe (rw p.met (omega (arith, p.steps))) (omega (arith, p.steps)) (record { sight = now; later = []; is = ap (λ (l : List (Sight K)). l ++ (now ∷ [])) p.met; number_is = sym arrived_now }) p.drained (rw p.met (exact_now, tt)) refl p.same tmv tsl (first_take_tale (number R N us (G.meaning m.memory)) (number R N us (G.meaning m.memory)) p.at tmv told.1) (subst (λ (x : ℕ). At n told.0 x iv.w1 iv.n1) (ap (λ z. first_take z (number R N us (G.meaning m.memory)) iv.a1) p.at) told.2)
        take_step_after c (inr p) = let more = first_stays c.met p.first.later p.first.sight now p.first.is in take_after c m.drawer iv.a1 fe (one_step m.drawer.steps c.met now p.steps) p.few (record { sight = p.first.sight; later = more.0; is = more.1; number_is = p.first.number_is }) p.drained (all_append Exact c.met (now ∷ []) p.exact (exact_now, tt)) refl p.same tmv tsl told.1 (subst (λ (x : ℕ). At n told.0 x iv.w1 iv.n1) (later_first_take m.drawer.stage (number R N us (G.meaning m.memory)) iv.a1 p.later) told.2)

      -- only the memory changes
      settled : (d : Bool) (k : n ≡ record { number = m.number; rings = m.rings; cells = m.cells; memory = n.memory; feeder = m.feeder; drawer = m.drawer }) → Landings (G.meaning m.memory) (G.meaning n.memory) → (d ≡ true → line side.Feeder (G.meaning n.memory) ≡ []) → Inv (with_drained b d) n us
      settled d k l r = record { a1 = iv.a1; w1 = iv.w1; n1 = iv.n1; split = iv.split; here = remember G κ marked single R N shaped m0 op m us iv.a1 iv.w1 iv.n1 iv.here n n.memory k l; put = subst (λ (z : Feeder K). PutNow b.putting z iv.w1 iv.n1) (sym (ap (λ (z : Moment K X). z.feeder) k)) iv.put; take = take_along us us b.taking m.drawer n.drawer iv.a1 (G.meaning m.memory) (G.meaning n.memory) (ap (λ (z : Moment K X). z.drawer) k) (λ ls z. z) (λ z. (let f = landings_fewer (R * N) side.Feeder l in omega arith)) iv.take; rest = r; puts = iv.puts; takes = iv.takes }

      begun_put : (i : K) → m.feeder.stage ≡ put.Idle → Inv (noted b (begins_put i)) (put_begun m i) us
      begun_put i e = record { a1 = iv.a1; w1 = iv.w1; n1 = iv.n1; split = iv.split; here = begin_here G κ marked single R N shaped m0 op m us iv.a1 iv.w1 iv.n1 iv.here i e; put = inl (record { at = refl; steps = refl; met = refl; unended = refl }); take = iv.take; rest = λ z. no_both (sym z); puts = iv.puts; takes = iv.takes }

      rested : b.drained ≡ true → number R N us (G.meaning m.memory) ≡ length us
      unfolding waiting_below
      rested h = rw (iv.rest h) (omega arith)

      begun_take : m.drawer.stage ≡ stage.Idle → Inv (noted b begins_take) (take_begun m) us
      begun_take e = record { a1 = iv.a1; w1 = iv.w1; n1 = iv.n1; split = iv.split; here = begin_take_here G κ marked single R N shaped m0 op m us iv.a1 iv.w1 iv.n1 iv.here e; put = iv.put; take = inl (record { at = refl; steps = refl; met = refl; unended = refl; same = λ i vs z. (vs, sym untaken ∙ z); drained = λ x y. (let r = rested x in let q = ap length untaken in omega arith) }); rest = λ z. no_both (sym z); puts = iv.puts; takes = iv.takes }

    -- an event keeps it, and moves the line as it should
    record After (b : Account K) (e : Event K) (n : Moment K X) : Type 0 where
      line : List K
      inv : Inv (noted b e) n line
      moves : MovesLine R N b e

    put_after_event : (b : Account K) (m n : Moment K X) (us : List K) (iv : Inv b m us) (a : Option (Ended (PutAnswer K))) → PutStep G κ m n a → (p : Option (PutCall K)) → b.putting ≡ p → (vs : List K) × Inv (put_noted b p (sight b (G.meaning m.memory)) a) n vs × PutMovesLine R N p (sight b (G.meaning m.memory)) (sight (put_noted b p (sight b (G.meaning m.memory)) a) (G.meaning n.memory)) a
    put_after_event b m n us iv a s None q = absurd (put_busy G κ m.rings m.cells s.row (subst (λ (z : Option (PutCall K)). PutNow z m.feeder iv.w1 iv.n1) q iv.put))
    put_after_event b m n us iv a s (Some c) q = let r = put_step_after b m n us iv a s c (subst (λ (z : Option (PutCall K)). PutNow z m.feeder iv.w1 iv.n1) q iv.put) in (r.line, r.inv, r.moves)

    take_after_event : (b : Account K) (m n : Moment K X) (us : List K) (iv : Inv b m us) (a : Option (Ended (TakeAnswer K))) → TakeStep G κ m n a → (p : Option (TakeCall K)) → b.taking ≡ p → (vs : List K) × Inv (take_noted b p (sight b (G.meaning m.memory)) a) n vs × TakeMovesLine R N (sight b (G.meaning m.memory)) (sight (take_noted b p (sight b (G.meaning m.memory)) a) (G.meaning n.memory)) a
    take_after_event b m n us iv a s None q = absurd (take_busy G κ m.rings m.cells s.row (subst (λ (z : Option (TakeCall K)). TakeNow us z m.drawer iv.a1 (G.meaning m.memory)) q iv.take))
    take_after_event b m n us iv a s (Some c) q = let r = take_step_after b m n us iv a s c (subst (λ (z : Option (TakeCall K)). TakeNow us z m.drawer iv.a1 (G.meaning m.memory)) q iv.take) in (r.line, r.inv, r.moves)

    happens_after : {e : Event K} {m n : Moment K X} (b : Account K) (us : List K) → Inv b m us → Happens G κ e m n → After b e n
    happens_after b us iv (history.put_begins {m = m} {n = n} {i = i} e q) = record { line = us; inv = subst (λ (z : Moment K X). Inv (noted b (begins_put i)) z us) (sym q) (begun_put b m n us iv i e); moves = tt }
    happens_after b us iv (history.put_steps {m = m} {n = n} {a = a} s) = let r = put_after_event b m n us iv a s b.putting refl in record { line = r.0; inv = r.1; moves = r.2 }
    happens_after b us iv (history.take_begins {m = m} {n = n} e q) = record { line = us; inv = subst (λ (z : Moment K X). Inv (noted b begins_take) z us) (sym q) (begun_take b m n us iv e); moves = tt }
    happens_after b us iv (history.take_steps {m = m} {n = n} {a = a} s) = let r = take_after_event b m n us iv a s b.taking refl in record { line = r.0; inv = r.1; moves = r.2 }
    happens_after b us iv (history.landing {m = m} {n = n} h) = record { line = us; inv = settled b m n us iv false h.after h.call.rule.0 (λ z. no_both (sym z)); moves = tt }
    happens_after b us iv (history.draining {m = m} {n = n} h) = record { line = us; inv = settled b m n us iv _ h.after h.call.rule.0 (λ _. h.call.rule.1); moves = tt }
    happens_after b us iv history.refused = record { line = us; inv = iv; moves = tt }

    -- a whole history
    record EndedWith (b : Account K) (h : List (Event K)) (n : Moment K X) : Type 0 where
      line : List K
      inv : Inv (account_from b h) n line
      moves : Throughout (MovesLine R N) b h

    leads_after : {h : List (Event K)} {m n : Moment K X} (b : Account K) (us : List K) → Inv b m us → Leads G κ m h n → EndedWith b h n
    leads_after b us iv history.at_rest = record { line = us; inv = iv; moves = tt }
    leads_after b us iv (history.first {e = e} x l) = let r = happens_after b us iv x in let q = leads_after (noted b e) r.line r.inv l in record { line = q.line; inv = q.inv; moves = (r.moves, q.moves) }

    put_way : (p : Option (PutCall K)) (f : Feeder K) (w k : ℕ) → PutNow p f w k → All PutGood (under_way p)
    put_way None f w k h = tt
    put_way (Some c) f w k h = (put_good c f w k h, tt)

    take_way : (us : List K) (t : Option (TakeCall K)) (d : Drawer K) (a : ℕ) (m : Meaning) → TakeNow us t d a m → All TakeGood (under_way t)
    take_way us None d a m h = tt
    take_way us (Some c) d a m h = (take_good us c d a m h, tt)

    puts_good : (h : List (Event K)) (m : Moment K X) (us : List K) → Inv (account h) m us → All PutGood ((account h).puts ++ under_way (account h).putting)
    puts_good h m us iv = all_append PutGood (account h).puts (under_way (account h).putting) iv.puts (put_way (account h).putting m.feeder iv.w1 iv.n1 iv.put)

    takes_good : (h : List (Event K)) (m : Moment K X) (us : List K) → Inv (account h) m us → All TakeGood ((account h).takes ++ under_way (account h).taking)
    takes_good h m us iv = all_append TakeGood (account h).takes (under_way (account h).taking) iv.takes (take_way us (account h).taking m.drawer iv.a1 (G.meaning m.memory) iv.take)

    kept : (h : List (Event K)) (m : Moment K X) → EndedWith nothing_yet h m → Promise R N h
    kept h m r = record {
      taken_in_order = sym (take_split (taken_by (account h).takes) r.line) ∙ ap (λ (l : List K). take (length (taken_by (account h).takes)) l) (sym r.inv.split);
      empty_is_honest = all_map TakeGood _ (λ c g. g.honest) _ ts;
      nothing_missed_after_drain = all_map TakeGood _ (λ c g. g.drained) _ ts;
      put_within_8 = all_map PutGood _ (λ c g. g.within) _ ps;
      take_within_9 = all_map TakeGood _ (λ c g. g.within) _ ts;
      sure_room = all_map PutGood _ (λ c g. g.room) _ ps;
      item_given_back = all_map PutGood _ (λ c g. g.back) _ ps;
      line_moves = r.moves;
      arrived_or_waiting = all_map TakeGood _ (λ c g. g.exact) _ ts;
    }
      where
        ps : All PutGood ((account h).puts ++ under_way (account h).putting)
        ps = puts_good h m r.line r.inv

        ts : All TakeGood ((account h).takes ++ under_way (account h).taking)
        ts = takes_good h m r.line r.inv

  start : (k : ℕ) (x : X) (op : OpenedLane R N (G.meaning x)) → Inv (G.meaning x) op nothing_yet (opened k R N x) []
  start k x op = record { a1 = 0; w1 = 0; n1 = 0; split = refl; here = opened_here G κ marked single R N shaped k x; put = refl; take = refl; rest = λ z. no_both (sym z); puts = tt; takes = tt }

  pub promise_kept : (k : ℕ) (x y : X) (h : List (Event K)) (end : Moment K X) → Opens G R N x y → Leads G κ (opened k R N y) h end → Promise R N h
  promise_kept k x y h end o l = let op = opens_lane G R N shaped.0 x y o in kept (G.meaning y) op h end (leads_after (G.meaning y) op nothing_yet [] (start k y op) l)

  -- no call of a history answers that a word is damaged
  pub never_damaged : (k : ℕ) (x y : X) (h : List (Event K)) (end : Moment K X) → Opens G R N x y → Leads G κ (opened k R N y) h end → All (λ c. (n : ℕ) → c.answer ≡ ended answers.Damaged n → ⊥) ((account h).puts ++ under_way (account h).putting) × All (λ c. (n : ℕ) → c.answer ≡ ended replies.Damaged n → ⊥) ((account h).takes ++ under_way (account h).taking)
  never_damaged k x y h end o l =
      let op = opens_lane G R N shaped.0 x y o in
      let r = leads_after (G.meaning y) op nothing_yet [] (start k y op) l in
      (all_map PutGood _ (λ c g. g.sound) _ (puts_good (G.meaning y) op h end r.line r.inv), all_map TakeGood _ (λ c g. g.sound) _ (takes_good (G.meaning y) op h end r.line r.inv))

  pub as_promised : (k : ℕ) {x y z : X} {begin end : Moment K X} {ms : List (Move K)} {before after : List (Said K)} → Opens G R N x y → begin ≡ opened k R N y → Noted G κ begin (take (length before) ms) before after end → z ≡ end.memory → PlayedAsPromised G κ k R N ms x before after z
  as_promised k {x} {y} {z} {begin} {end} o e f q = record { shaped = shaped; memory = y; opens = o; history = f.going.history; answers = f.answers; plays = f.going.plays; told = f.stands; end = end; leads = l; left = q; promise = promise_kept k x y f.going.history end o l }
    where
      l : Leads G κ (opened k R N y) f.going.history end
      l = subst (λ (m : Moment K X). Leads G κ m f.going.history end) e f.going.leads
