-- The log tells of the calls of the history.
use Rattle.std.proofs.Common.{◌≡◌, ℕ, Bool, true, false, List, [], ◌∷◌, ◌++◌, map, length, take, drop, Some, None, Option, sym, refl, ap, ◌∙◌, subst, append_assoc}
use Rattle.std.proofs.lemmas.List.{append-nil, map-append, take_at, take-map, length-map}
use Rattle.memory.specs.Meaning.{Meaning}
use Rattle.words.specs.declared.kinds.Kind as kind
use Rattle.lane.specs.declared.answers.Ended.{Ended}
use Rattle.lane.specs.declared.answers.PutAnswer.{PutAnswer}
use Rattle.lane.specs.declared.answers.PutAnswer.TheVariants as put
use Rattle.lane.specs.declared.answers.TakeAnswer.{TakeAnswer}
use Rattle.lane.specs.declared.answers.TakeAnswer.TheVariants as take
use Rattle.lane.proofs.Underway.{no_both}
use Rattle.queue.specs.History.{Event}
use Rattle.queue.specs.History as history
use Rattle.queue.specs.Calls.{PutCall, TakeCall, Account, if_accepted, if_taken, accepted_by, taken_by, accepted, taken, nothing_yet, untaken_of, sight, put_noted, take_noted, noted, account, account_from}
use Rattle.run.specs.declared.faults.Stop.{Stop}
use Rattle.run.specs.declared.orders.Order.{Order}
use Rattle.run.specs.declared.records.Answer.TheVariants.{Accepted}
use Rattle.run.specs.declared.records.Record.{Record}
use Rattle.run.specs.Logs.{Call, put_told, take_told, ended_call, put_call, ends, ended_from, ended_calls, call, at_move, in_word, out_word, words_in, words_out}
use Rattle.run.specs.Runs.{Standing, standing, goes_on, begun_put, begun_take, accepting, put_damaged, take_damaged, Makes, MeetsDamage, Runs, Stopped}
use Rattle.run.specs.Runs as runs

-- the words that went in, and those that came out, by these calls
abbrev ins : List Call → List ℕ
ins [] = []
ins (c ∷ cs) = in_word c.answer ++ ins cs

abbrev outs : List Call → List ℕ
outs [] = []
outs (c ∷ cs) = out_word c.answer ++ outs cs

calls_at : (n : ℕ) (cs : List Call) → map call (map (at_move n) cs) ≡ cs
calls_at n [] = refl
calls_at n (c ∷ cs) = ap (λ (l : List Call). c ∷ l) (calls_at n cs)

ins_at : (n : ℕ) (cs : List Call) → words_in (map (at_move n) cs) ≡ ins cs
ins_at n [] = refl
ins_at n (c ∷ cs) = ap (λ (l : List ℕ). in_word c.answer ++ l) (ins_at n cs)

outs_at : (n : ℕ) (cs : List Call) → words_out (map (at_move n) cs) ≡ outs cs
outs_at n [] = refl
outs_at n (c ∷ cs) = ap (λ (l : List ℕ). out_word c.answer ++ l) (outs_at n cs)

words_in_join : (rs qs : List Record) → words_in (rs ++ qs) ≡ words_in rs ++ words_in qs
words_in_join [] qs = refl
words_in_join (r ∷ rs) qs = ap (λ (l : List ℕ). in_word r.answer ++ l) (words_in_join rs qs) ∙ sym (append_assoc (in_word r.answer) (words_in rs) (words_in qs))

words_out_join : (rs qs : List Record) → words_out (rs ++ qs) ≡ words_out rs ++ words_out qs
words_out_join [] qs = refl
words_out_join (r ∷ rs) qs = ap (λ (l : List ℕ). out_word r.answer ++ l) (words_out_join rs qs) ∙ sym (append_assoc (out_word r.answer) (words_out rs) (words_out qs))

module _ {K : Type 0} (κ : kind.Ghosts K) where
  account_join : (b : Account K) (h e : List (Event K)) → account_from b (h ++ e) ≡ account_from (account_from b h) e
  account_join b [] e = refl
  account_join b (x ∷ h) e = account_join (noted b x) h e

  ended_join : (b : Account K) (h e : List (Event K)) → ended_from κ b (h ++ e) ≡ ended_from κ b h ++ ended_from κ (account_from b h) e
  ended_join b [] e = refl
  ended_join b (x ∷ h) e = ap (λ (l : List Call). ends κ b x ++ l) (ended_join (noted b x) h e) ∙ sym (append_assoc (ends κ b x) (ended_from κ (noted b x) h) _)

  accepted_push : (cs : List (PutCall K)) (c : PutCall K) → accepted_by (cs ++ (c ∷ [])) ≡ accepted_by cs ++ if_accepted c.answer c.item
  accepted_push [] c = append-nil _
  accepted_push (x ∷ cs) c = ap (λ (l : List K). if_accepted x.answer x.item ++ l) (accepted_push cs c) ∙ sym (append_assoc (if_accepted x.answer x.item) (accepted_by cs) _)

  taken_push : (cs : List (TakeCall K)) (c : TakeCall K) → taken_by (cs ++ (c ∷ [])) ≡ taken_by cs ++ if_taken c.answer
  taken_push [] c = append-nil _
  taken_push (x ∷ cs) c = ap (λ (l : List K). if_taken x.answer ++ l) (taken_push cs c) ∙ sym (append_assoc (if_taken x.answer) (taken_by cs) _)

  -- the put under way offers the first item left
  abbrev PutAgrees : Bool → Option (PutCall K) → List ℕ → Type 0
  PutAgrees false p ws = p ≡ None
  PutAgrees true p ws = (c : PutCall K) × (p ≡ Some c) × ((vs : List ℕ) × (ws ≡ κ.word c.item ∷ vs))

  abbrev TakeAgrees : Bool → Option (TakeCall K) → Type 0
  TakeAgrees false t = t ≡ None
  TakeAgrees true t = (c : TakeCall K) × (t ≡ Some c)

  record Agrees (b : Account K) (s : Standing) : Type 0 where
    puts : PutAgrees s.putting b.putting s.left
    takes : TakeAgrees s.taking b.taking

  -- after some events: the calls that they ended, and what these did to the words
  record Tells (b : Account K) (s : Standing) (e : List (Event K)) (cs : List Call) (t : Standing) : Type 0 where
    agrees : Agrees (account_from b e) t
    calls : ended_from κ b e ≡ cs
    went_in : map κ.word (accepted_by (account_from b e).puts) ≡ map κ.word (accepted_by b.puts) ++ ins cs
    came_out : map κ.word (taken_by (account_from b e).takes) ≡ map κ.word (taken_by b.takes) ++ outs cs
    rest : s.left ≡ ins cs ++ t.left

  silent : (l : List K) → map κ.word l ≡ map κ.word l ++ []
  silent l = sym (append-nil (map κ.word l))

  -- the word of an item that an answer accepts
  word_in : (i j : K) → κ.word i ≡ κ.word j → (e : Ended (PutAnswer K)) → map κ.word (if_accepted (Some e) i) ≡ ins (ended_call (put_told κ j) (Some e))
  word_in i j q e = elim e.answer as (λ a. map κ.word (if_accepted (Some (record { answer = a; steps = e.steps })) i) ≡ ins (ended_call (put_told κ j) (Some (record { answer = a; steps = e.steps })))) [ put.Accepted ↦ ap (λ w. w ∷ []) q | put.NoRing k ↦ refl | put.Damaged ↦ refl ]

  no_word_out : (j : K) (e : Ended (PutAnswer K)) → outs (ended_call (put_told κ j) (Some e)) ≡ []
  no_word_out j e = elim e.answer as (λ a. outs (ended_call (put_told κ j) (Some (record { answer = a; steps = e.steps }))) ≡ []) [ put.Accepted ↦ refl | put.NoRing k ↦ refl | put.Damaged ↦ refl ]

  word_out : (e : Ended (TakeAnswer K)) → map κ.word (if_taken (Some e)) ≡ outs (ended_call (take_told κ) (Some e))
  word_out e = elim e.answer as (λ a. map κ.word (if_taken (Some (record { answer = a; steps = e.steps }))) ≡ outs (ended_call (take_told κ) (Some (record { answer = a; steps = e.steps })))) [ take.Taken i ↦ refl | take.Empty ↦ refl | take.Damaged ↦ refl ]

  no_word_in : (e : Ended (TakeAnswer K)) → ins (ended_call (take_told κ) (Some e)) ≡ []
  no_word_in e = elim e.answer as (λ a. ins (ended_call (take_told κ) (Some (record { answer = a; steps = e.steps }))) ≡ []) [ take.Taken i ↦ refl | take.Empty ↦ refl | take.Damaged ↦ refl ]

  same_told : (i j : K) → κ.word i ≡ κ.word j → (e : Ended (PutAnswer K)) → ended_call (put_told κ i) (Some e) ≡ ended_call (put_told κ j) (Some e)
  same_told i j q e = elim e.answer as (λ a. ended_call (put_told κ i) (Some (record { answer = a; steps = e.steps })) ≡ ended_call (put_told κ j) (Some (record { answer = a; steps = e.steps }))) [ put.Accepted ↦ ap (λ w. record { answer = Accepted w; steps = e.steps } ∷ []) q | put.NoRing k ↦ refl | put.Damaged ↦ refl ]

  left_on : (i : K) (ws : List ℕ) (e : Ended (PutAnswer K)) → κ.word i ∷ ws ≡ ins (ended_call (put_told κ i) (Some e)) ++ drop (accepting (Some e)) (κ.word i ∷ ws)
  left_on i ws e = elim e.answer as (λ a. κ.word i ∷ ws ≡ ins (ended_call (put_told κ i) (Some (record { answer = a; steps = e.steps }))) ++ drop (accepting (Some (record { answer = a; steps = e.steps }))) (κ.word i ∷ ws)) [ put.Accepted ↦ refl | put.NoRing k ↦ refl | put.Damaged ↦ refl ]

  -- one step of a put whose call under way is p
  record PutTells (b : Account K) (p : Option (PutCall K)) (x : Meaning) (a : Option (Ended (PutAnswer K))) (before : List ℕ) (cs : List Call) (t : Standing) : Type 0 where
    agrees : Agrees (put_noted b p (sight b x) a) t
    calls : put_call κ p a ++ [] ≡ cs
    went_in : map κ.word (accepted_by (put_noted b p (sight b x) a).puts) ≡ map κ.word (accepted_by b.puts) ++ ins cs
    came_out : map κ.word (taken_by (put_noted b p (sight b x) a).takes) ≡ map κ.word (taken_by b.takes) ++ outs cs
    rest : before ≡ ins cs ++ t.left

  put_tells : (b : Account K) (c : PutCall K) (i : K) (ws : List ℕ) (t : Bool) (x : Meaning) (a : Option (Ended (PutAnswer K))) → κ.word c.item ≡ κ.word i → TakeAgrees t b.taking → PutTells b (Some c) x a (κ.word i ∷ ws) (ended_call (put_told κ i) a) (standing (drop (accepting a) (κ.word i ∷ ws)) (goes_on a) t)
  put_tells b c i ws t x None q h = record { agrees = record { puts = (_, refl, (ws, ap (λ w. w ∷ ws) (sym q))); takes = h }; calls = refl; went_in = silent (accepted_by b.puts); came_out = silent (taken_by b.takes); rest = refl }
  put_tells b c i ws t x (Some e) q h = record {
    agrees = record { puts = refl; takes = h };
    calls = append-nil _ ∙ same_told c.item i q e;
    went_in = ap (map κ.word) (accepted_push b.puts _) ∙ (map-append κ.word (accepted_by b.puts) _ ∙ ap (λ (l : List ℕ). map κ.word (accepted_by b.puts) ++ l) (word_in c.item i q e));
    came_out = silent (taken_by b.takes) ∙ ap (λ (l : List ℕ). map κ.word (taken_by b.takes) ++ l) (sym (no_word_out i e));
    rest = left_on i ws e;
  }

  put_at : (b : Account K) {p : Option (PutCall K)} {c : PutCall K} {x : Meaning} {a : Option (Ended (PutAnswer K))} {before : List ℕ} {cs : List Call} {t : Standing} → p ≡ Some c → PutTells b (Some c) x a before cs t → PutTells b p x a before cs t
  put_at b {x = x} {a = a} {before = before} {cs = cs} {t = t} e h = subst (λ (p : Option (PutCall K)). PutTells b p x a before cs t) (sym e) h

  record TakeTells (b : Account K) (p : Option (TakeCall K)) (x : Meaning) (a : Option (Ended (TakeAnswer K))) (cs : List Call) (t : Standing) : Type 0 where
    agrees : Agrees (take_noted b p (sight b x) a) t
    calls : cs ++ [] ≡ cs
    went_in : map κ.word (accepted_by (take_noted b p (sight b x) a).puts) ≡ map κ.word (accepted_by b.puts) ++ ins cs
    came_out : map κ.word (taken_by (take_noted b p (sight b x) a).takes) ≡ map κ.word (taken_by b.takes) ++ outs cs
    rest : t.left ≡ ins cs ++ t.left

  take_tells : (b : Account K) (c : TakeCall K) (ws : List ℕ) (p : Bool) (x : Meaning) (a : Option (Ended (TakeAnswer K))) → PutAgrees p b.putting ws → TakeTells b (Some c) x a (ended_call (take_told κ) a) (standing ws p (goes_on a))
  take_tells b c ws p x None h = record { agrees = record { puts = h; takes = (_, refl) }; calls = refl; went_in = silent (accepted_by b.puts); came_out = silent (taken_by b.takes); rest = refl }
  take_tells b c ws p x (Some e) h = record {
    agrees = record { puts = h; takes = refl };
    calls = append-nil _;
    went_in = silent (accepted_by b.puts) ∙ ap (λ (l : List ℕ). map κ.word (accepted_by b.puts) ++ l) (sym (no_word_in e));
    came_out = ap (map κ.word) (taken_push b.takes _) ∙ (map-append κ.word (taken_by b.takes) _ ∙ ap (λ (l : List ℕ). map κ.word (taken_by b.takes) ++ l) (word_out e));
    rest = ap (λ (l : List ℕ). l ++ ws) (sym (no_word_in e));
  }

  take_at_call : (b : Account K) {p : Option (TakeCall K)} {c : TakeCall K} {x : Meaning} {a : Option (Ended (TakeAnswer K))} {cs : List Call} {t : Standing} → p ≡ Some c → TakeTells b (Some c) x a cs t → TakeTells b p x a cs t
  take_at_call b {x = x} {a = a} {cs = cs} {t = t} e h = subst (λ (p : Option (TakeCall K)). TakeTells b p x a cs t) (sym e) h

  same_word : {v w : ℕ} {vs ws : List ℕ} → v ∷ vs ≡ w ∷ ws → w ≡ v
  same_word e = cc

  -- a feeder step, a drawer step
  fed_tells : (b : Account K) (i : K) (ws : List ℕ) (p t : Bool) (x y : Meaning) (a : Option (Ended (PutAnswer K))) → Agrees b (standing (κ.word i ∷ ws) p t) → Tells b (standing (κ.word i ∷ ws) p t) (begun_put p i ++ (history.steps_put x y a ∷ [])) (ended_call (put_told κ i) a) (standing (drop (accepting a) (κ.word i ∷ ws)) (goes_on a) t)
  fed_tells b i ws true t x y a g = let r = put_at b g.puts.1 (put_tells b g.puts.0 i ws t x a (same_word g.puts.2.1) g.takes) in record { agrees = r.agrees; calls = r.calls; went_in = r.went_in; came_out = r.came_out; rest = r.rest }
  fed_tells b i ws false t x y a g = let r = put_tells (noted b (history.begins_put i)) (record { item = i; met = []; answer = None }) i ws t x a refl g.takes in record { agrees = r.agrees; calls = r.calls; went_in = r.went_in; came_out = r.came_out; rest = r.rest }

  drawn_tells : (b : Account K) (ws : List ℕ) (p t : Bool) (x y : Meaning) (a : Option (Ended (TakeAnswer K))) → Agrees b (standing ws p t) → Tells b (standing ws p t) (begun_take t ++ (history.steps_take x y a ∷ [])) (ended_call (take_told κ) a) (standing ws p (goes_on a))
  drawn_tells b ws p true x y a g = let r = take_at_call b g.takes.1 (take_tells b g.takes.0 ws p x a g.puts) in record { agrees = r.agrees; calls = r.calls; went_in = r.went_in; came_out = r.came_out; rest = r.rest }
  drawn_tells b ws p false x y a g = let r = take_tells (noted b history.begins_take) (record { after_drain = b.drained; began = untaken_of b; met = []; answer = None }) ws p x a g.puts in record { agrees = r.agrees; calls = r.calls; went_in = r.went_in; came_out = r.came_out; rest = r.rest }

  quiet_tells : (b : Account K) (s : Standing) (e : Event K) → Agrees (noted b e) s → ended_from κ b (e ∷ []) ≡ [] → (noted b e).puts ≡ b.puts → (noted b e).takes ≡ b.takes → Tells b s (e ∷ []) [] s
  quiet_tells b s e g c p t = record { agrees = g; calls = c; went_in = ap (λ (l : List (PutCall K)). map κ.word (accepted_by l)) p ∙ silent (accepted_by b.puts); came_out = ap (λ (l : List (TakeCall K)). map κ.word (taken_by l)) t ∙ silent (taken_by b.takes); rest = refl }

  -- a move, by the calls that it ended
  record MoveTells (b : Account K) (n : ℕ) (s : Standing) (e : List (Event K)) (rs : List Record) (t : Standing) : Type 0 where
    cs : List Call
    records : rs ≡ map (at_move n) cs
    tells : Tells b s e cs t

  makes_tells : (b : Account K) (n : ℕ) {s t : Standing} {o : Order} {e : List (Event K)} {rs : List Record} → Makes κ n s o e rs t → Agrees b s → MoveTells b n s e rs t
  makes_tells b n (runs.Makes.puts {i = i} {ws = ws} {p = p} {t = t} x y a d) g = record { cs = ended_call (put_told κ i) a; records = refl; tells = fed_tells b i ws p t x y a g }
  makes_tells b n runs.Makes.rests g = record { cs = []; records = refl; tells = record { agrees = g; calls = refl; went_in = silent (accepted_by b.puts); came_out = silent (taken_by b.takes); rest = refl } }
  makes_tells b n (runs.Makes.takes {ws = ws} {p = p} {t = t} x y a d) g = record { cs = ended_call (take_told κ) a; records = refl; tells = drawn_tells b ws p t x y a g }
  makes_tells b n (runs.Makes.drains {s = s}) g = record { cs = []; records = refl; tells = quiet_tells b s history.drains (record { puts = g.puts; takes = g.takes }) refl refl refl }
  makes_tells b n (runs.Makes.lands {s = s} {side = side} {pick = pick}) g = record { cs = []; records = refl; tells = quiet_tells b s (history.lands side pick) (record { puts = g.puts; takes = g.takes }) refl refl refl }

  makes_nothing : (b : Account K) (s : Standing) → Agrees b s → MoveTells b 0 s [] [] s
  makes_nothing b s g = record { cs = []; records = refl; tells = record { agrees = g; calls = refl; went_in = silent (accepted_by b.puts); came_out = silent (taken_by b.takes); rest = refl } }

  -- a whole run
  record RunTells (words : List ℕ) (h : List (Event K)) (rs : List Record) (s : Standing) : Type 0 where
    agrees : Agrees (account h) s
    calls : map call rs ≡ ended_calls κ h
    went_in : words_in rs ≡ map κ.word (accepted h)
    came_out : words_out rs ≡ map κ.word (taken h)
    all : words ≡ words_in rs ++ s.left

  join : {words : List ℕ} {h e : List (Event K)} {rs qs : List Record} {s t : Standing} (n : ℕ) → RunTells words h rs s → MoveTells (account h) n s e qs t → RunTells words (h ++ e) (rs ++ qs) t
  join {words} {h} {e} {rs} {qs} {s} {t} n r m = record {
    agrees = subst (λ (b : Account K). Agrees b t) (sym (account_join nothing_yet h e)) m.tells.agrees;
    calls = map-append call rs qs ∙ (ap (λ (l : List Call). map call rs ++ l) (ap (map call) m.records ∙ (calls_at n m.cs ∙ sym m.tells.calls)) ∙ (ap (λ (l : List Call). l ++ ended_from κ (account h) e) r.calls ∙ sym (ended_join nothing_yet h e)));
    went_in = words_in_join rs qs ∙ (ap (λ (l : List ℕ). words_in rs ++ l) more_in ∙ (ap (λ (l : List ℕ). l ++ ins m.cs) r.went_in ∙ (sym m.tells.went_in ∙ ap (λ (b : Account K). map κ.word (accepted_by b.puts)) (sym (account_join nothing_yet h e)))));
    came_out = words_out_join rs qs ∙ (ap (λ (l : List ℕ). words_out rs ++ l) (ap words_out m.records ∙ outs_at n m.cs) ∙ (ap (λ (l : List ℕ). l ++ outs m.cs) r.came_out ∙ (sym m.tells.came_out ∙ ap (λ (b : Account K). map κ.word (taken_by b.takes)) (sym (account_join nothing_yet h e)))));
    all = r.all ∙ (ap (λ (l : List ℕ). words_in rs ++ l) (m.tells.rest ∙ ap (λ (l : List ℕ). l ++ t.left) (sym more_in)) ∙ (sym (append_assoc (words_in rs) (words_in qs) t.left) ∙ ap (λ (l : List ℕ). l ++ t.left) (sym (words_in_join rs qs))));
  }
    where
      more_in : words_in qs ≡ ins m.cs
      more_in = ap words_in m.records ∙ ins_at n m.cs

  run_tells : {places : ℕ} {words bytes : List ℕ} {h : List (Event K)} {rs : List Record} {s : Standing} → Runs κ places words bytes h rs s → RunTells words h rs s
  run_tells runs.Runs.not_yet = record { agrees = record { puts = refl; takes = refl }; calls = refl; went_in = refl; came_out = refl; all = refl }
  run_tells (runs.Runs.one_more {bytes = bytes} {h = h} byte p a l m) = let r = run_tells p in join (length bytes) r (makes_tells (account h) (length bytes) m r.agrees)

  -- a damaged word leaves no record
  put_silent : (i : K) (a : Option (Ended (PutAnswer K))) → put_damaged a ≡ true → ended_call (put_told κ i) a ≡ []
  put_silent i None d = no_both (sym d)
  put_silent i (Some e) d = elim e.answer as (λ a. put_damaged (Some (record { answer = a; steps = e.steps })) ≡ true → ended_call (put_told κ i) (Some (record { answer = a; steps = e.steps })) ≡ []) [ put.Accepted ↦ (λ z. no_both (sym z)) | put.NoRing j ↦ (λ z. no_both (sym z)) | put.Damaged ↦ (λ z. refl) ] d

  take_silent : (a : Option (Ended (TakeAnswer K))) → take_damaged a ≡ true → ended_call (take_told κ) a ≡ []
  take_silent None d = no_both (sym d)
  take_silent (Some e) d = elim e.answer as (λ a. take_damaged (Some (record { answer = a; steps = e.steps })) ≡ true → ended_call (take_told κ) (Some (record { answer = a; steps = e.steps })) ≡ []) [ take.Taken j ↦ (λ z. no_both (sym z)) | take.Empty ↦ (λ z. no_both (sym z)) | take.Damaged ↦ (λ z. refl) ] d

  record StopTells (b : Account K) (s : Standing) (e : List (Event K)) : Type 0 where
    after : Standing
    tells : MoveTells b 0 s e [] after

  damage_tells : (b : Account K) {s : Standing} {o : Order} {e : List (Event K)} → MeetsDamage κ s o e → Agrees b s → StopTells b s e
  damage_tells b (runs.MeetsDamage.puts {i = i} {ws = ws} {p = p} {t = t} x y a d) g = record { after = _; tells = record { cs = ended_call (put_told κ i) a; records = sym (ap (map (at_move 0)) (put_silent i a d)); tells = fed_tells b i ws p t x y a g } }
  damage_tells b (runs.MeetsDamage.takes {s = s} x y a d) g = record { after = _; tells = record { cs = ended_call (take_told κ) a; records = sym (ap (map (at_move 0)) (take_silent a d)); tells = drawn_tells b s.left s.putting s.taking x y a g } }

  stop_tells : (b : Account K) {places made : ℕ} {moves : List ℕ} {rs : List Record} {s : Standing} {stop : Option Stop} {e : List (Event K)} → Stopped κ places moves made rs s stop e → Agrees b s → StopTells b s e
  stop_tells b {s = s} (runs.Stopped.all_made h) g = record { after = s; tells = makes_nothing b s g }
  stop_tells b {s = s} (runs.Stopped.unknown h u) g = record { after = s; tells = makes_nothing b s g }
  stop_tells b {s = s} (runs.Stopped.log_full h a t f) g = record { after = s; tells = makes_nothing b s g }
  stop_tells b (runs.Stopped.damaged h a f m) g = damage_tells b m g

  -- a run to its end
  pub record LogTells (words : List ℕ) (h : List (Event K)) (rs : List Record) : Type 0 where
    pub calls : map call rs ≡ ended_calls κ h
    pub went_in : words_in rs ≡ map κ.word (accepted h)
    pub came_out : words_out rs ≡ map κ.word (taken h)
    pub offered : words_in rs ≡ take (length (words_in rs)) words

  pub log_tells : {places made : ℕ} {words bytes moves : List ℕ} {h e : List (Event K)} {rs : List Record} {s : Standing} {stop : Option Stop} → Runs κ places words bytes h rs s → Stopped κ places moves made rs s stop e → LogTells words (h ++ e) rs
  log_tells {words = words} {h = h} {e = e} {rs = rs} p q =
      let r = run_tells p in
      let t = stop_tells (account h) q r.agrees in
      let j = join 0 r t.tells in
      let n = append-nil rs in
      record { calls = ap (map call) (sym n) ∙ j.calls; went_in = ap words_in (sym n) ∙ j.went_in; came_out = ap words_out (sym n) ∙ j.came_out; offered = sym (ap (take (length (words_in rs))) r.all ∙ take_at (words_in rs) _ (length (words_in rs)) refl) }

  -- what was taken is the first of what was accepted, so are their words
  pub out_first : (rs : List Record) (h : List (Event K)) → words_in rs ≡ map κ.word (accepted h) → words_out rs ≡ map κ.word (taken h) → taken h ≡ take (length (taken h)) (accepted h) → words_out rs ≡ take (length (words_out rs)) (words_in rs)
  out_first rs h i o p =
      let n : length (words_out rs) ≡ length (taken h) = ap length o ∙ length-map (taken h) κ.word in
      o ∙ (ap (map κ.word) p ∙ (sym (take-map κ.word (length (taken h)) (accepted h)) ∙ (ap (take (length (taken h))) (sym i) ∙ ap (λ k. take k (words_in rs)) (sym n))))
