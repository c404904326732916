-- Every run of an opened lane is in order.
use Rattle.std.proofs.Common.{◌≡◌, ℕ, suc, ◌+◌, ◌-◌, ◌*◌, ◌%◌, ◌<◌, ◌≤◌, ◌⊎◌, List, [], ◌∷◌, ◌++◌, length, sym, refl, ap, ◌∙◌, subst, inl, inr, mod-lt, arith}
use Rattle.memory.specs.declared.Side.{Side}
use Rattle.memory.specs.declared.Side.TheVariants.{Feeder, Drawer}
use Rattle.memory.specs.Meaning.{store, bar, Meaning, joined, look, Lands}
use Rattle.queue.specs.Waiting.{In, words, landed_word, size, View, view, waiting_below, NothingWaits}
use Rattle.queue.specs.LineLaws as Laws
use Rattle.queue.proofs.Landing.{landing_law, look_law}
use Rattle.queue.proofs.Joining.{store_law, bar_law}
use Rattle.queue.proofs.Quiet.{nothing_view}
use Rattle.queue.proofs.Views.{seen, rest}
use Rattle.queue.proofs.Addresses.{cell<, ring<, next_slot}
use Rattle.queue.proofs.Good.{long}
use Rattle.queue.proofs.Invariant.{f_next_at, d_free_at}
use Rattle.queue.proofs.Rounds.{eq_or}
use Rattle.queue.proofs.Steps.{Places, Putting, Taking, Out, FeedsOver, DrawsOver, own_cell, next_cell, free_cell, mark_cell}
use Rattle.queue.proofs.SeenSteps.{Feeds, Draws}
use Rattle.queue.proofs.Steps as Lane
use Rattle.queue.proofs.Good.{Good, good_feed, good_draw, good_land}
use Rattle.queue.proofs.Good as Top
use Rattle.queue.proofs.Opened.{Opened, opened_good}
use Rattle.queue.proofs.Invariant.{feeder_own_at, drawer_own_at}
use Rattle.queue.proofs.Runs.{OpenedLane, Puts, Takes, Run, opened, fed, drawn, lands, PutTells, TakeTells, AllBare, PutTarget, TakeTarget}
use Rattle.queue.proofs.MemoryInterface.{meaning_interface, StoresIn, BarsIn}

-- a look is what is seen
look_seen : (s : Side) (a : ℕ) (m : Meaning) → look s a m ≡ seen s (view m a)
unfolding view
look_seen Feeder a m = look_law Feeder a m
look_seen Drawer a m = look_law Drawer a m

looks : ◌≡◌ {A = Side → ℕ → Meaning → ℕ} look (λ s a m. seen s (view m a))
looks = λ i s a m. look_seen s a m i

module _ (Item : ℕ → Type 0) (R N : ℕ) where
  to_feeds : (p : Places) (s : Putting) (m : Meaning) (p' : Places) (s' : Putting) (n : Meaning) (o : Out) → Puts Item R N p s m p' s' n o → Feeds meaning_interface Item R N p s m p' s' n o
  to_feeds p s m p' s' n o h = subst (λ (l : Side → ℕ → Meaning → ℕ). FeedsOver Meaning l StoresIn BarsIn Item R N p s m p' s' n o) looks h

  to_draws : (p : Places) (s : Taking) (m : Meaning) (p' : Places) (s' : Taking) (n : Meaning) (o : Out) → Takes Item R N p s m p' s' n o → Draws meaning_interface Item R N p s m p' s' n o
  to_draws p s m p' s' n o h = subst (λ (l : Side → ℕ → Meaning → ℕ). DrawsOver Meaning l StoresIn BarsIn Item R N p s m p' s' n o) looks h

-- each waiting store is at an address of the memory
pub record Fits (k : ℕ) (m : Meaning) : Type 0 where
  pub sized : size m ≡ k
  pub inside : (s : Side) (a v : ℕ) → In v (words s a m) → a < k

in_end : (v w : ℕ) (l : List ℕ) → In v (l ++ (w ∷ [])) → In v l ⊎ (w ≡ v)
in_end v w [] (inl e) = inr e
in_end v w [] (inr x) = absurd x
in_end v w (y ∷ l) (inl e) = inl (inl e)
in_end v w (y ∷ l) (inr x) = elim (in_end v w l x) [ inl z ↦ inl (inr z) | inr z ↦ inr z ]

view_words : (m n : Meaning) (b : ℕ) → view n b ≡ view m b → (t : Side) → words t b n ≡ words t b m
unfolding view
view_words m n b e Feeder = ap (λ (x : View). x.feeder) e
view_words m n b e Drawer = ap (λ (x : View). x.drawer) e

pub fits_store : (k : ℕ) (s : Side) (a w : ℕ) (m n : Meaning) → a < k → n ≡ joined s (store a w) m → Fits k m → Fits k n
unfolding size
fits_store k s a w m n l e c = record { sized = ap length h.landed ∙ c.sized; inside = λ t b v x. elim (eq_or b a) [ inl z ↦ rw z l | inr z ↦ c.inside t b v (subst (In v) (view_words m n b (h.elsewhere b (λ y. z (sym y))) t) x) ] }
  where
    h : Laws.Stored s a w m n
    h = rw e (store_law s a w m)

pub fits_bar : (k : ℕ) (s : Side) (m n : Meaning) → n ≡ joined s bar m → Fits k m → Fits k n
unfolding size
fits_bar k s m n e c = record { sized = ap length h.landed ∙ c.sized; inside = λ t b v x. c.inside t b v (subst (In v) (h.same_words t b) x) }
  where
    h : Laws.Barred s m n
    h = rw e (bar_law s m)

pub fits_land : (k : ℕ) (s : Side) (a w : ℕ) (m n : Meaning) → Lands s a w m n → Fits k m → Fits k n
fits_land k s a w m n l c = record { sized = h.same_size ∙ c.sized; inside = λ t b v x. elim (eq_or b a) [ inl z ↦ rw z at_a | inr z ↦ c.inside t b v (subst (In v) (view_words m n b (h.elsewhere b (λ y. z (sym y))) t) x) ] }
  where
    h : Laws.Landed s a w m n
    h = landing_law s a w m n l

    at_a : a < k
    at_a = c.inside s a w (rw h.front (inl refl))

pub land_inside : (k : ℕ) (s : Side) (a w : ℕ) (m n : Meaning) → Lands s a w m n → Fits k m → a < size m
land_inside k s a w m n l c = rw c.sized (c.inside s a w (rw (landing_law s a w m n l).front (inl refl)))

module _ (Item : ℕ → Type 0) (bare_no : Item 0 → ⊥) (R N : ℕ) (R2 : 2 ≤ R) (N1 : 1 ≤ N) (m0 : Meaning) (op : OpenedLane R N m0) where
  opens : Opened meaning_interface R N m0
  unfolding waiting_below NothingWaits
  opens = record { cells = λ a l. shows a 0 (op.cells a l); nexts = λ i l. shows (R * N + i) 0 (op.nexts i l); frees = λ i l. shows (R * N + R + i) (suc (suc i)) (op.frees i l); last = shows (R * N + R + (R - 1)) 0 op.last; mark = shows (R * N + R + R) 1 op.mark; none = rw op.quiet.0 refl }
    where
      shows : (a v : ℕ) → landed_word a m0 ≡ v → view m0 a ≡ rest v
      shows a v e = nothing_view m0 a op.quiet ∙ ap rest e

  fits0 : Fits (size m0) m0
  unfolding words NothingWaits
  fits0 = record { sized = refl; inside = go }
    where
      go : (s : Side) (a v : ℕ) → In v (words s a m0) → a < size m0
      go Feeder a v x = absurd (rw op.quiet.0 at x)
      go Drawer a v x = absurd (rw op.quiet.1 at x)

  -- the lane's own addresses are the memory's
  module _ (u : List ℕ) (a1 w1 n1 : ℕ) (q : Places) (t : Taking) where
    module _ (p : Places) (s : Putting) (m : Meaning) (c : Good meaning_interface Item R N u a1 w1 n1 p s q t m) where
      pub f_own< : own_cell R N p < size m0
      f_own< = let e = feeder_own_at meaning_interface Item R N (a1 ≡ 0) (0 < a1) (w1 ≡ 0) ((R - 1) * N ≤ n1) c.ghost p s q t m c.inv in omega (arith, op.fits, cell< R R2 N c.ghost.f ((c.ghost.base c.ghost.f + c.ghost.A) % N) (mod-lt (c.ghost.base c.ghost.f + c.ghost.A) (omega arith)))

      f_next< : next_cell R N p < size m0
      f_next< = let e = c.inv.f_next in omega (arith, op.fits, ring< R R2 c.ghost.nt)

      f_free< : free_cell R N p < size m0
      f_free< = let e = c.inv.f_free in omega (arith, op.fits, ring< R R2 c.ghost.fh)

      d_own< : own_cell R N q < size m0
      d_own< = let e = drawer_own_at meaning_interface Item R N (a1 ≡ 0) (0 < a1) (w1 ≡ 0) ((R - 1) * N ≤ n1) c.ghost p s q t m c.inv in omega (arith, op.fits, cell< R R2 N c.ghost.d ((c.ghost.base c.ghost.d + c.ghost.T) % N) (mod-lt (c.ghost.base c.ghost.d + c.ghost.T) (omega arith)))

      d_next< : next_cell R N q < size m0
      d_next< = let e = c.inv.d_next in omega (arith, op.fits, ring< R R2 c.ghost.nh)

      d_free< : free_cell R N q < size m0
      d_free< = let e = c.inv.d_free in omega (arith, op.fits, ring< R R2 (c.ghost.d + (R - 1)))

  fits_feed : (u : List ℕ) (a1 w1 n1 : ℕ) (q : Places) (t : Taking) {p : Places} {s : Putting} {m : Meaning} {p' : Places} {s' : Putting} {n : Meaning} {o : Out} → Good meaning_interface Item R N u a1 w1 n1 p s q t m → Fits (size m0) m → Puts Item R N p s m p' s' n o → Fits (size m0) n
  fits_feed u a1 w1 n1 q t c f (Lane.FeedsOver.begin x i) = f
  fits_feed u a1 w1 n1 q t c f (Lane.FeedsOver.p1_bare e) = f
  fits_feed u a1 w1 n1 q t c f (Lane.FeedsOver.p1_full e) = f
  fits_feed u a1 w1 n1 q t c f (Lane.FeedsOver.p2_bare e) = f
  fits_feed u a1 w1 n1 q t c f (Lane.FeedsOver.p2_ring k l e) = f
  fits_feed u a1 w1 n1 q t c f (Lane.FeedsOver.p2_bad ne nr) = f
  fits_feed u a1 w1 n1 q t {p} {s} {m} {n = n} c f (Lane.FeedsOver.p3_step st) = fits_store (size m0) Feeder (free_cell R N p) 0 m n (f_free< u a1 w1 n1 q t p s m c) st f
  fits_feed u a1 w1 n1 q t {p} {s} {m} {n = n} c f (Lane.FeedsOver.p4_step st) = fits_bar (size m0) Feeder m n st f
  fits_feed u a1 w1 n1 q t {p} {s} {m} {n = n} c f (Lane.FeedsOver.p5_step {k = k} st) = fits_store (size m0) Feeder (next_cell R N p) (suc k) m n (f_next< u a1 w1 n1 q t p s m c) st f
  fits_feed u a1 w1 n1 q t {p} {s} {m} {n = n} c f (Lane.FeedsOver.p6_step {k = k} st) = fits_store (size m0) Feeder (mark_cell R N) (suc k) m n op.fits st f
  fits_feed u a1 w1 n1 q t {p} {s} {m} {n = n} c f (Lane.FeedsOver.p7_step st) = fits_bar (size m0) Feeder m n st f
  fits_feed u a1 w1 n1 q t {p} {s} {m} {n = n} c f (Lane.FeedsOver.p8_step {x = x} st) = fits_store (size m0) Feeder (own_cell R N p) x m n (f_own< u a1 w1 n1 q t p s m c) st f

  fits_draw : (u : List ℕ) (a1 w1 n1 : ℕ) (p : Places) (s : Putting) {q : Places} {t : Taking} {m : Meaning} {q' : Places} {t' : Taking} {n : Meaning} {o : Out} → Good meaning_interface Item R N u a1 w1 n1 p s q t m → Fits (size m0) m → Takes Item R N q t m q' t' n o → Fits (size m0) n
  fits_draw u a1 w1 n1 p s c f Lane.DrawsOver.begin = f
  fits_draw u a1 w1 n1 p s c f (Lane.DrawsOver.t1_bare e) = f
  fits_draw u a1 w1 n1 p s c f (Lane.DrawsOver.t1_item e) = f
  fits_draw u a1 w1 n1 p s c f (Lane.DrawsOver.t1_bad e i) = f
  fits_draw u a1 w1 n1 p s c f (Lane.DrawsOver.t2_own e) = f
  fits_draw u a1 w1 n1 p s c f (Lane.DrawsOver.t2_other k l e i) = f
  fits_draw u a1 w1 n1 p s c f (Lane.DrawsOver.t2_bad e) = f
  fits_draw u a1 w1 n1 p s c f (Lane.DrawsOver.t3_bare e) = f
  fits_draw u a1 w1 n1 p s c f (Lane.DrawsOver.t3_item e) = f
  fits_draw u a1 w1 n1 p s c f (Lane.DrawsOver.t3_bad e i) = f
  fits_draw u a1 w1 n1 p s c f (Lane.DrawsOver.t4_bare e) = f
  fits_draw u a1 w1 n1 p s c f (Lane.DrawsOver.t4_ring k l e) = f
  fits_draw u a1 w1 n1 p s c f (Lane.DrawsOver.t4_bad e i) = f
  fits_draw u a1 w1 n1 p s {q} {t} {m} {n = n} c f (Lane.DrawsOver.t5_step st) = fits_store (size m0) Drawer (next_cell R N q) 0 m n (d_next< u a1 w1 n1 q t p s m c) st f
  fits_draw u a1 w1 n1 p s {q} {t} {m} {n = n} c f (Lane.DrawsOver.t6_step st) = fits_bar (size m0) Drawer m n st f
  fits_draw u a1 w1 n1 p s {q} {t} {m} {n = n} c f (Lane.DrawsOver.t7_step st) = fits_store (size m0) Drawer (free_cell R N q) (suc q.own) m n (d_free< u a1 w1 n1 q t p s m c) st f
  fits_draw u a1 w1 n1 p s c f (Lane.DrawsOver.t8_bare e) = f
  fits_draw u a1 w1 n1 p s c f (Lane.DrawsOver.t8_item e) = f
  fits_draw u a1 w1 n1 p s c f (Lane.DrawsOver.t8_bad e i) = f
  fits_draw u a1 w1 n1 p s {q} {t} {m} {n = n} c f (Lane.DrawsOver.t9_step st) = fits_store (size m0) Drawer (own_cell R N q) 0 m n (d_own< u a1 w1 n1 q t p s m c) st f

  pub run_good : {u : List ℕ} {a1 w1 n1 : ℕ} {p : Places} {s : Putting} {q : Places} {t : Taking} {m : Meaning} → Run Item R N m0 u a1 w1 n1 p s q t m → Good meaning_interface Item R N u a1 w1 n1 p s q t m × Fits (size m0) m
  run_good opened = (opened_good meaning_interface Item bare_no R N R2 N1 m0 opens, fits0)
  run_good (fed {u = u} {a1 = a1} {w1 = w1} {n1 = n1} {p = p} {s = s} {q = q} {t = t} {m = m} {p' = p'} {s' = s'} {n = n} {o = o} r h) = let c = run_good r in ((good_feed meaning_interface Item R N bare_no R2 N1 a1 w1 n1 u q t c.0 (to_feeds Item R N p s m p' s' n o h)).0, fits_feed u a1 w1 n1 q t c.0 c.1 h)
  run_good (drawn {u = u} {a1 = a1} {w1 = w1} {n1 = n1} {p = p} {s = s} {q = q} {t = t} {m = m} {q' = q'} {t' = t'} {n = n} {o = o} r h) = let c = run_good r in ((good_draw meaning_interface Item R N bare_no R2 N1 a1 w1 n1 u p s c.0 (to_draws Item R N q t m q' t' n o h)).0, fits_draw u a1 w1 n1 p s c.0 c.1 h)
  run_good (lands {u = u} {a1 = a1} {w1 = w1} {n1 = n1} {p = p} {s = s} {q = q} {t = t} {m = m} {n = n} x a w r h) = let c = run_good r in (good_land meaning_interface Item R N bare_no R2 N1 a1 w1 n1 u p s t q x a w m n (h, land_inside (size m0) x a w m n h c.1) c.0, fits_land (size m0) x a w m n h c.1)

  put_tells : (o : Out) (w1 n1 : ℕ) → Top.FeedTells meaning_interface Item R N w1 n1 o → PutTells Item R N w1 n1 o
  put_tells Lane.Out.on w1 n1 h = h
  put_tells (Lane.Out.accepted x) w1 n1 h = h
  put_tells (Lane.Out.no_ring x) w1 n1 h = h
  put_tells (Lane.Out.taken x) w1 n1 h = h
  put_tells Lane.Out.empty w1 n1 h = h
  put_tells Lane.Out.damaged w1 n1 h = h

  take_tells : (o : Out) (a1 : ℕ) (u : List ℕ) (m : Meaning) → Top.DrawTells meaning_interface Item R N a1 u m o → TakeTells R N a1 u m o
  take_tells Lane.Out.on a1 u m h = h
  take_tells (Lane.Out.accepted x) a1 u m h = h
  take_tells (Lane.Out.no_ring x) a1 u m h = h
  take_tells (Lane.Out.taken x) a1 u m h = h
  take_tells Lane.Out.empty a1 u m h = h
  take_tells Lane.Out.damaged a1 u m h = h

pub queue_law : (Item : ℕ → Type 0) (bare_no : Item 0 → ⊥) (R N : ℕ) → 2 ≤ R → 1 ≤ N → (m0 : Meaning) → OpenedLane R N m0 → (u : List ℕ) (a1 w1 n1 : ℕ) (p : Places) (s : Putting) (q : Places) (t : Taking) (m : Meaning) → Run Item R N m0 u a1 w1 n1 p s q t m → ((p' : Places) (s' : Putting) (n : Meaning) (o : Out) → Puts Item R N p s m p' s' n o → PutTells Item R N w1 n1 o) × ((q' : Places) (t' : Taking) (n : Meaning) (o : Out) → Takes Item R N q t m q' t' n o → TakeTells R N a1 u m o)
queue_law Item bare_no R N R2 N1 m0 op u a1 w1 n1 p s q t m r = let c = (run_good Item bare_no R N R2 N1 m0 op r).0 in (
  (λ p' s' n o h. put_tells Item bare_no R N R2 N1 m0 op o w1 n1 (good_feed meaning_interface Item R N bare_no R2 N1 a1 w1 n1 u q t c (to_feeds Item R N p s m p' s' n o h)).1),
  (λ q' t' n o h. take_tells Item bare_no R N R2 N1 m0 op o a1 u m (good_draw meaning_interface Item R N bare_no R2 N1 a1 w1 n1 u p s c (to_draws Item R N q t m q' t' n o h)).1),
)

pub line_law : (Item : ℕ → Type 0) (bare_no : Item 0 → ⊥) (R N : ℕ) → 2 ≤ R → 1 ≤ N → (m0 : Meaning) → OpenedLane R N m0 → (u : List ℕ) (a1 w1 n1 : ℕ) (p : Places) (s : Putting) (q : Places) (t : Taking) (m : Meaning) → Run Item R N m0 u a1 w1 n1 p s q t m → waiting_below (R * N) Feeder m ≤ length u
line_law Item bare_no R N R2 N1 m0 op u a1 w1 n1 p s q t m r = let c = (run_good Item bare_no R N R2 N1 m0 op r).0 in let l = long meaning_interface Item R N bare_no R2 N1 u a1 w1 n1 p s q t m c in omega (arith, c.arrival.counts, c.arrival.low)

bare_rest : (a : ℕ) (m : Meaning) → view m a ≡ rest 0 → AllBare a m
unfolding view
bare_rest a m e = record { landed = ap (λ (x : View). x.word) e; feeder = ap (λ (x : View). x.feeder) e; drawer = ap (λ (x : View). x.drawer) e }

put_target : (Item : ℕ → Type 0) (R N : ℕ) (u : List ℕ) (a1 w1 n1 : ℕ) (p : Places) (s : Putting) (q : Places) (t : Taking) (m : Meaning) → Good meaning_interface Item R N u a1 w1 n1 p s q t m → PutTarget R N p s m
put_target Item R N u a1 w1 n1 p Lane.Putting.idle q t m c = tt
put_target Item R N u a1 w1 n1 p (Lane.Putting.p1 x) q t m c = tt
put_target Item R N u a1 w1 n1 p (Lane.Putting.p2 x) q t m c = tt
put_target Item R N u a1 w1 n1 p (Lane.Putting.p3 x k) q t m c = tt
put_target Item R N u a1 w1 n1 p (Lane.Putting.p4 x k) q t m c = tt
put_target Item R N u a1 w1 n1 p (Lane.Putting.p5 x k) q t m c = bare_rest (next_cell R N p) m (rw (f_next_at meaning_interface Item R N (a1 ≡ 0) (0 < a1) (w1 ≡ 0) ((R - 1) * N ≤ n1) c.ghost p (Lane.Putting.p5 x k) q t m c.inv ∙ ap (next_slot R N) c.inv.ff.1) c.inv.ff.4)
put_target Item R N u a1 w1 n1 p (Lane.Putting.p6 x k) q t m c = tt
put_target Item R N u a1 w1 n1 p (Lane.Putting.p7 x) q t m c = tt
put_target Item R N u a1 w1 n1 p (Lane.Putting.p8 x) q t m c = bare_rest (own_cell R N p) m (rw (feeder_own_at meaning_interface Item R N (a1 ≡ 0) (0 < a1) (w1 ≡ 0) ((R - 1) * N ≤ n1) c.ghost p (Lane.Putting.p8 x) q t m c.inv) c.inv.ff.1.bare)

take_target : (Item : ℕ → Type 0) (R N : ℕ) → 2 ≤ R → (u : List ℕ) (a1 w1 n1 : ℕ) (p : Places) (s : Putting) (q : Places) (t : Taking) (m : Meaning) → Good meaning_interface Item R N u a1 w1 n1 p s q t m → TakeTarget R N q t m
take_target Item R N R2 u a1 w1 n1 p s q Lane.Taking.idle m c = tt
take_target Item R N R2 u a1 w1 n1 p s q Lane.Taking.t1 m c = tt
take_target Item R N R2 u a1 w1 n1 p s q Lane.Taking.t2 m c = tt
take_target Item R N R2 u a1 w1 n1 p s q Lane.Taking.t3 m c = tt
take_target Item R N R2 u a1 w1 n1 p s q Lane.Taking.t4 m c = tt
take_target Item R N R2 u a1 w1 n1 p s q (Lane.Taking.t5 x) m c = tt
take_target Item R N R2 u a1 w1 n1 p s q (Lane.Taking.t6 x) m c = tt
take_target Item R N R2 u a1 w1 n1 p s q (Lane.Taking.t7 x) m c = bare_rest (free_cell R N q) m (rw (d_free_at meaning_interface Item R N (a1 ≡ 0) (0 < a1) (w1 ≡ 0) ((R - 1) * N ≤ n1) c.ghost p s q (Lane.Taking.t7 x) m c.inv) (c.inv.core.free.free_rest (c.ghost.d + (R - 1)) (omega arith)))
take_target Item R N R2 u a1 w1 n1 p s q Lane.Taking.t8 m c = tt
take_target Item R N R2 u a1 w1 n1 p s q (Lane.Taking.t9 x) m c = tt

pub bare_law : (Item : ℕ → Type 0) (bare_no : Item 0 → ⊥) (R N : ℕ) → 2 ≤ R → 1 ≤ N → (m0 : Meaning) → OpenedLane R N m0 → (u : List ℕ) (a1 w1 n1 : ℕ) (p : Places) (s : Putting) (q : Places) (t : Taking) (m : Meaning) → Run Item R N m0 u a1 w1 n1 p s q t m → PutTarget R N p s m × TakeTarget R N q t m
bare_law Item bare_no R N R2 N1 m0 op u a1 w1 n1 p s q t m r = let c = (run_good Item bare_no R N R2 N1 m0 op r).0 in (put_target Item R N u a1 w1 n1 p s q t m c, take_target Item R N R2 u a1 w1 n1 p s q t m c)
