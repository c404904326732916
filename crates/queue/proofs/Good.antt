-- Every step, and every run.
use Rattle.std.proofs.Common.{◌≡◌, ℕ, zero, suc, ◌+◌, ◌-◌, ◌*◌, ◌%◌, ◌<◌, ◌≤◌, ◌⊎◌, List, [], ◌∷◌, ◌++◌, length, sym, refl, ap, ◌∙◌, subst, inl, inr, mod-lt, arith}
use Rattle.memory.specs.declared.Side.{Side}
use Rattle.memory.specs.declared.Side.TheVariants.{Feeder, Drawer}
use Rattle.queue.proofs.Rounds.{lt_or, changed_there, changed_elsewhere}
use Rattle.queue.proofs.Steps.{changed}
use Rattle.queue.proofs.Interface.{Interface}
use Rattle.queue.proofs.Addresses.{cell, cell<}
use Rattle.queue.proofs.Core.{Ghost, g_take, g_pop, g_leave, g_claim, g_link}
use Rattle.queue.proofs.Steps.{Places, Putting, Taking, Out, Out.on, Out.accepted, Out.no_ring, Out.taken, Out.empty, Out.damaged, own_cell, next_cell, free_cell, mark_cell}
use Rattle.queue.proofs.SeenSteps.{Feeds, Draws}
use Rattle.queue.proofs.Steps as Lane
use Rattle.queue.proofs.Runs.{after, at_p1, at_t1}
use Rattle.queue.proofs.Facts.{DFacts}
use Rattle.queue.proofs.Invariant.{Inv, inv_lands, feeder_own_at, drawer_own_at}
use Rattle.queue.proofs.Feed
use Rattle.queue.proofs.Draw
use Rattle.queue.proofs.Arrival.{Arrival, arrival_same, arrival_put, arrival_take, arrival_drawer, arrival_above, arrival_cell, not_coming}
use Rattle.queue.proofs.OwnLooks.{inside_at}
use Rattle.queue.proofs.ItemStores.{filled_rest}

-- the words of n items from item i on
abbrev pub items_from : (ℕ → ℕ) → ℕ → ℕ → List ℕ
items_from w i zero = []
items_from w i (suc n) = w i ∷ items_from w (suc i) n

pub items_length : (w : ℕ → ℕ) (i n : ℕ) → length (items_from w i n) ≡ n
items_length w i zero = refl
items_length w i (suc n) = ap suc (items_length w (suc i) n)

pub items_upd : (w : ℕ → ℕ) (i n k x : ℕ) → i + n ≤ k → items_from (changed w k x) i n ≡ items_from w i n
items_upd w i zero k x l = refl
items_upd w i (suc n) k x l = rw (changed_elsewhere w k x i (omega arith), items_upd w (suc i) n k x (omega arith))

pub items_snoc : (w : ℕ → ℕ) (i n : ℕ) → items_from w i n ++ (w (i + n) ∷ []) ≡ items_from w i (suc n)
items_snoc w i zero = ap (λ (k : ℕ). w k ∷ []) (omega arith)
items_snoc w i (suc n) = ap (λ (l : List ℕ). w i ∷ l) (ap (λ (k : ℕ). items_from w (suc i) n ++ (w k ∷ [])) (omega arith) ∙ items_snoc w (suc i) n)

module _ (I : Interface) (Item : ℕ → Type 0) (R N : ℕ) where
  -- how many items of the line u have arrived
  abbrev pub arrived : List ℕ → I.M → ℕ
  arrived u m = length u - I.count (R * N) m

  -- a lane in order: u is its line; arrived1 is how many had arrived at the take's first step,
  -- waits1 and untaken1 how many stores waited and how many items were untaken at the put's first step
  pub record Good (u : List ℕ) (arrived1 waits1 untaken1 : ℕ) (p : Places) (s : Putting) (q : Places) (t : Taking) (m : I.M) : Type 0 where
    pub ghost : Ghost
    pub landed : ℕ
    pub inv : Inv I Item R N (arrived1 ≡ 0) (0 < arrived1) (waits1 ≡ 0) ((R - 1) * N ≤ untaken1) ghost p s q t m
    pub arrival : Arrival I R N landed ghost.T ghost.A ghost.at ghost.w m
    pub line : u ≡ items_from ghost.w ghost.T (ghost.A - ghost.T)

  -- what an answer of a put tells
  abbrev pub FeedTells : ℕ → ℕ → Out → Type 0
  FeedTells waits1 untaken1 on = Unit {0}
  FeedTells waits1 untaken1 (accepted x) = Item x
  FeedTells waits1 untaken1 (no_ring x) = waits1 ≡ 0 → (R - 1) * N ≤ untaken1
  FeedTells waits1 untaken1 (taken x) = ⊥
  FeedTells waits1 untaken1 empty = ⊥
  FeedTells waits1 untaken1 damaged = ⊥

  -- what an answer of a take tells, met with the line u and the memory m
  abbrev pub DrawTells : ℕ → List ℕ → I.M → Out → Type 0
  DrawTells arrived1 u m on = Unit {0}
  DrawTells arrived1 u m (accepted x) = ⊥
  DrawTells arrived1 u m (no_ring x) = ⊥
  DrawTells arrived1 u m (taken x) = (u ≡ x ∷ after (taken x) u) × (0 < arrived u m)
  DrawTells arrived1 u m empty = ((arrived1 ≡ 0) ⊎ (arrived u m ≡ 0)) × (0 < arrived1 → ⊥)
  DrawTells arrived1 u m damaged = ⊥

  module _ (bare_no : Item 0 → ⊥) (R2 : 2 ≤ R) (N1 : 1 ≤ N) where
    -- the length and the arrived items by the counters
    module _ (u : List ℕ) (a1 w1 n1 : ℕ) (p : Places) (s : Putting) (q : Places) (t : Taking) (m : I.M) (c : Good u a1 w1 n1 p s q t m) where
      pub long : length u ≡ c.ghost.A - c.ghost.T
      long = ap length c.line ∙ items_length c.ghost.w c.ghost.T (c.ghost.A - c.ghost.T)

      pub come : arrived u m ≡ c.landed - c.ghost.T
      come = let r = c.arrival in let l = long in omega (arith, r.counts, r.low, r.high)

    module _ (a1 w1 n1 : ℕ) (u : List ℕ) (q : Places) (t : Taking) where
      abbrev E : Type 0
      E = a1 ≡ 0

      abbrev S : Type 0
      S = 0 < a1

      abbrev C : Type 0
      C = w1 ≡ 0

      abbrev K : Type 0
      K = (R - 1) * N ≤ n1

      pub good_feed : {p : Places} {s : Putting} {m : I.M} {p' : Places} {s' : Putting} {n : I.M} {o : Out} → Good u a1 w1 n1 p s q t m → Feeds I Item R N p s m p' s' n o → Good (after o u) a1 (at_p1 s (I.waits m) w1) (at_p1 s (length u) n1) p' s' q t n × FeedTells w1 n1 o
      good_feed {p} {s} {m} c (Lane.FeedsOver.begin x i) = (record { ghost = c.ghost; landed = c.landed; inv = Feed.begin_put I Item bare_no R N R2 N1 E S C K c.ghost p q t m x i c.inv; arrival = c.arrival; line = c.line }, tt)
      good_feed {p} {s} {m} c (Lane.FeedsOver.p1_bare {x = x} e) = (let h = Feed.p1_bare I Item bare_no R N R2 N1 E S C K c.ghost p q t m x c.inv e in record { ghost = c.ghost; landed = c.landed; inv = Feed.refeed I Item bare_no R N R2 N1 E S C K (I.waits m ≡ 0) ((R - 1) * N ≤ length u) c.ghost p (Lane.Putting.p7 x) (Lane.Putting.p7 x) q t m h h.ff; arrival = c.arrival; line = c.line }, tt)
      good_feed {p} {s} {m} c (Lane.FeedsOver.p1_full {x = x} e) = (let h = Feed.p1_full I Item bare_no R N R2 N1 E S C K c.ghost p q t m x c.inv e in record { ghost = c.ghost; landed = c.landed; inv = Feed.refeed I Item bare_no R N R2 N1 E S (Feed.Quiet I m) ((R - 1) * N + c.ghost.T ≤ c.ghost.A) (I.waits m ≡ 0) ((R - 1) * N ≤ length u) c.ghost p (Lane.Putting.p2 x) (Lane.Putting.p2 x) q t m h (h.ff.0, h.ff.1, h.ff.2, h.ff.3, λ z. elim (h.ff.4 (I.waits_none m z)) [ inl y ↦ inl (omega (arith, long u a1 w1 n1 p (Lane.Putting.p1 x) q t m c)) | inr y ↦ inr y ]); arrival = c.arrival; line = c.line }, tt)
      good_feed {p} {s} {m} c (Lane.FeedsOver.p2_bare {x = x} e) = let h = Feed.p2_bare I Item bare_no R N R2 N1 E S C K c.ghost p q t m x c.inv e in (record { ghost = c.ghost; landed = c.landed; inv = h.0; arrival = c.arrival; line = c.line }, h.1)
      good_feed {p} {s} {m} c (Lane.FeedsOver.p2_ring {x = x} k l e) = (record { ghost = c.ghost; landed = c.landed; inv = Feed.p2_ring I Item bare_no R N R2 N1 E S C K c.ghost p q t m x c.inv k l e; arrival = c.arrival; line = c.line }, tt)
      good_feed {p} {s} {m} c (Lane.FeedsOver.p2_bad {x = x} ne nr) = absurd (Feed.p2_bad I Item bare_no R N R2 N1 E S C K c.ghost p q t m x c.inv ne nr)
      good_feed {p} {s} {m} {n = n} c (Lane.FeedsOver.p3_step {x = x} {k = k} st) = (record { ghost = g_claim c.ghost; landed = c.landed; inv = Feed.p3_step I Item bare_no R N R2 N1 E S C K c.ghost p q t m n x k c.inv st; arrival = arrival_same I R N c.landed c.ghost.T c.ghost.A c.ghost.at c.ghost.w m n c.arrival (λ a l. I.store_there Feeder (free_cell R N p) 0 m n st a (λ e. omega arith)) c.inv.core.items.below (I.count_above (free_cell R N p) 0 m n st (R * N) (omega arith)); line = c.line }, tt)
      good_feed {p} {s} {m} {n = n} c (Lane.FeedsOver.p4_step {x = x} {k = k} st) = (record { ghost = c.ghost; landed = c.landed; inv = Feed.p4_step I Item bare_no R N R2 N1 E S C K c.ghost p q t m n x k c.inv st; arrival = arrival_same I R N c.landed c.ghost.T c.ghost.A c.ghost.at c.ghost.w m n c.arrival (λ a l. I.bar_view Feeder m n st a) c.inv.core.items.below (I.count_bar Feeder m n st (R * N)); line = c.line }, tt)
      good_feed {p} {s} {m} {n = n} c (Lane.FeedsOver.p5_step {x = x} {k = k} st) = (record { ghost = g_link c.ghost; landed = c.landed; inv = Feed.p5_step I Item bare_no R N R2 N1 E S C K c.ghost p q t m n x k c.inv st; arrival = arrival_same I R N c.landed c.ghost.T c.ghost.A c.ghost.at c.ghost.w m n c.arrival (λ a l. I.store_there Feeder (next_cell R N p) (suc k) m n st a (λ e. omega arith)) c.inv.core.items.below (I.count_above (next_cell R N p) (suc k) m n st (R * N) (omega arith)); line = c.line }, tt)
      good_feed {p} {s} {m} {n = n} c (Lane.FeedsOver.p6_step {x = x} {k = k} st) = (record { ghost = Feed.ghost6 I Item bare_no R N R2 N1 E S C K c.ghost p q t m n x k c.inv st; landed = c.landed; inv = Feed.p6_step I Item bare_no R N R2 N1 E S C K c.ghost p q t m n x k c.inv st; arrival = arrival_same I R N c.landed c.ghost.T c.ghost.A c.ghost.at c.ghost.w m n c.arrival (λ a l. I.store_there Feeder (mark_cell R N) (suc k) m n st a (λ e. omega arith)) c.inv.core.items.below (I.count_above (mark_cell R N) (suc k) m n st (R * N) (omega arith)); line = c.line }, tt)
      good_feed {p} {s} {m} {n = n} c (Lane.FeedsOver.p7_step {x = x} st) = (record { ghost = c.ghost; landed = c.landed; inv = Feed.p7_step I Item bare_no R N R2 N1 E S C K c.ghost p q t m n x c.inv st; arrival = arrival_same I R N c.landed c.ghost.T c.ghost.A c.ghost.at c.ghost.w m n c.arrival (λ a l. I.bar_view Feeder m n st a) c.inv.core.items.below (I.count_bar Feeder m n st (R * N)); line = c.line }, tt)
      good_feed {p} {s} {m} {n = n} c (Lane.FeedsOver.p8_step {x = x} st) = (record { ghost = Feed.ghost8 I Item bare_no R N R2 N1 E S C K c.ghost p q t m n x c.inv st; landed = c.landed; inv = Feed.p8_step I Item bare_no R N R2 N1 E S C K c.ghost p q t m n x c.inv st; arrival = arrival_put I R N c.landed c.ghost.T c.ghost.A c.ghost.at c.ghost.w m n c.arrival o (x) o< (rw own at st) c.inv.ff.1.bare fresh; line = longer }, c.inv.ff.0)
        where
          g : Ghost
          g = c.ghost

          o : ℕ
          o = cell R N c.ghost.f ((c.ghost.base c.ghost.f + c.ghost.A) % N)

          o< : o < R * N
          o< = cell< R R2 N c.ghost.f ((c.ghost.base c.ghost.f + c.ghost.A) % N) (mod-lt (c.ghost.base c.ghost.f + c.ghost.A) (omega arith))

          own : own_cell R N p ≡ o
          own = feeder_own_at I Item R N E S C K c.ghost p (Lane.Putting.p8 x) q t m c.inv

          fresh : (i : ℕ) → c.ghost.T ≤ i → i < c.ghost.A → c.ghost.at i ≡ o → ⊥
          fresh i a b e = filled_rest Feeder (c.ghost.w i) (I.view m (c.ghost.at i)) (c.inv.core.items.item i a b) (c.inv.core.items.filled i a b) (rw e c.inv.ff.1.bare)

          ta : c.ghost.T ≤ c.ghost.A
          ta = c.inv.core.numbers.TA

          w' : ℕ → ℕ
          w' = changed c.ghost.w c.ghost.A x

          z : ℕ
          z = c.ghost.A - c.ghost.T

          end : c.ghost.A ≡ c.ghost.T + z
          end = omega arith

          size : suc z ≡ suc c.ghost.A - c.ghost.T
          size = omega arith

          longer : u ++ (x ∷ []) ≡ items_from w' c.ghost.T (suc c.ghost.A - c.ghost.T)
          longer = ap (λ (l : List ℕ). l ++ (x ∷ [])) (c.line ∙ sym (items_upd c.ghost.w c.ghost.T z c.ghost.A x (omega arith))) ∙ (ap (λ (y : ℕ). items_from w' c.ghost.T z ++ (y ∷ [])) (sym (changed_there c.ghost.w c.ghost.A x) ∙ ap w' end) ∙ (items_snoc w' c.ghost.T z ∙ ap (items_from w' c.ghost.T) size))

    module _ (a1 w1 n1 : ℕ) (u : List ℕ) (p : Places) (s : Putting) where
      abbrev DE : Type 0
      DE = a1 ≡ 0

      abbrev DS : Type 0
      DS = 0 < a1

      abbrev DC : Type 0
      DC = w1 ≡ 0

      abbrev DK : Type 0
      DK = (R - 1) * N ≤ n1

      -- no untaken item has arrived
      none_come : {q : Places} {t : Taking} {m : I.M} (c : Good u a1 w1 n1 p s q t m) → Draw.None I Item bare_no R N R2 N1 c.ghost m → arrived u m ≡ 0
      none_come {q} {t} {m} c h = let e = come u a1 w1 n1 p s q t m c in elim (lt_or c.ghost.T c.landed) [ inr k ↦ omega arith | inl k ↦ absurd (not_coming I R N (I.view m (c.ghost.at c.ghost.T)) (c.ghost.w c.ghost.T) (c.ghost.w c.ghost.T) (c.arrival.here c.ghost.T (omega arith) k) (h c.ghost.T (omega arith) (omega (arith, c.arrival.high)))) ]

      some_come : {q : Places} {t : Taking} {m : I.M} (c : Good u a1 w1 n1 p s q t m) → 0 < arrived u m → Draw.Some I Item bare_no R N R2 N1 c.ghost m
      some_come {q} {t} {m} c h = let e = come u a1 w1 n1 p s q t m c in let k : c.ghost.T < c.landed = omega arith in (omega (arith, c.arrival.high), c.arrival.here c.ghost.T (omega arith) k)

      -- a look by the drawer: only the take's stage changes
      re_a1 : {q : Places} {t t' : Taking} {m : I.M} (c : Good u a1 w1 n1 p s q t m) (b1 : ℕ) → DFacts I Item R N c.ghost.d c.ghost.T c.ghost.nh (b1 ≡ 0) (0 < b1) c.ghost.f c.ghost.A c.ghost.start (c.ghost.at c.ghost.T) (c.ghost.w c.ghost.T) m t' → Good u b1 w1 n1 p s q t' m
      re_a1 {q} {t} {t'} {m} c b1 h = record { ghost = c.ghost; landed = c.landed; inv = Draw.redraw I Item bare_no R N R2 N1 DE DS DC DK (b1 ≡ 0) (0 < b1) c.ghost p s q t t' m c.inv h; arrival = c.arrival; line = c.line }

      pub good_draw : {q : Places} {t : Taking} {m : I.M} {q' : Places} {t' : Taking} {n : I.M} {o : Out} → Good u a1 w1 n1 p s q t m → Draws I Item R N q t m q' t' n o → Good (after o u) (at_t1 t (arrived u m) a1) w1 n1 p s q' t' n × DrawTells a1 u m o
      good_draw {q} {t} {m} c Lane.DrawsOver.begin = (re_a1 c a1 c.inv.dd, tt)
      good_draw {q} {t} {m} c (Lane.DrawsOver.t1_bare e) = (let h = Draw.t1_bare I Item bare_no R N R2 N1 DE DS DC DK c.ghost p s q m c.inv e in re_a1 c (arrived u m) (h.dd.0, elim h.dd.1 [ inl x ↦ inl (none_come c x) | inr x ↦ inr x ], λ x. some_come c x), tt)
      good_draw {q} {t} {m} c (Lane.DrawsOver.t1_item i) = (let h = Draw.sees_item I Item bare_no R N R2 N1 DE DS DC DK c.ghost p s q m Lane.Taking.t1 c.inv c.inv.dd i in re_a1 c (arrived u m) h.dd, tt)
      good_draw {q} {t} {m} c (Lane.DrawsOver.t1_bad ne ni) = absurd (Draw.sees_bad I Item bare_no R N R2 N1 DE DS DC DK c.ghost p s q m Lane.Taking.t1 c.inv ne ni)
      good_draw {q} {t} {m} c (Lane.DrawsOver.t2_own e) = let h = Draw.t2_own I Item bare_no R N R2 N1 DE DS DC DK c.ghost p s q m c.inv e in (re_a1 c a1 h.0.dd, (inl h.1, λ x. omega (arith, h.1)))
      good_draw {q} {t} {m} c (Lane.DrawsOver.t2_other k l e ne) = (re_a1 c a1 (Draw.t2_other I Item bare_no R N R2 N1 DE DS DC DK c.ghost p s q m c.inv k e ne).dd, tt)
      good_draw {q} {t} {m} c (Lane.DrawsOver.t2_bad nr) = absurd (Draw.t2_bad I Item bare_no R N R2 N1 DE DS DC DK c.ghost p s q m c.inv nr)
      good_draw {q} {t} {m} c (Lane.DrawsOver.t3_bare e) = (re_a1 c a1 (Draw.t3_bare I Item bare_no R N R2 N1 DE DS DC DK c.ghost p s q m c.inv e).dd, tt)
      good_draw {q} {t} {m} c (Lane.DrawsOver.t3_item i) = (re_a1 c a1 (Draw.sees_item I Item bare_no R N R2 N1 DE DS DC DK c.ghost p s q m Lane.Taking.t3 c.inv c.inv.dd.0 i).dd, tt)
      good_draw {q} {t} {m} c (Lane.DrawsOver.t3_bad ne ni) = absurd (Draw.sees_bad I Item bare_no R N R2 N1 DE DS DC DK c.ghost p s q m Lane.Taking.t3 c.inv ne ni)
      good_draw {q} {t} {m} c (Lane.DrawsOver.t4_bare e) = let h = Draw.t4_bare I Item bare_no R N R2 N1 DE DS DC DK c.ghost p s q m c.inv e in (re_a1 c a1 h.0.dd, (inr (none_come c h.1), h.2))
      good_draw {q} {t} {m} c (Lane.DrawsOver.t4_ring k l e) = (re_a1 c a1 (Draw.t4_ring I Item bare_no R N R2 N1 DE DS DC DK c.ghost p s q m c.inv k e).dd, tt)
      good_draw {q} {t} {m} c (Lane.DrawsOver.t4_bad ne nr) = absurd (Draw.t4_bad I Item bare_no R N R2 N1 DE DS DC DK c.ghost p s q m c.inv ne nr)
      good_draw {q} {t} {m} {n = n} c (Lane.DrawsOver.t5_step {k = k} st) = (record { ghost = g_pop c.ghost; landed = c.landed; inv = Draw.t5_step I Item bare_no R N R2 N1 DE DS DC DK c.ghost p s q m n k c.inv st; arrival = arrival_same I R N c.landed c.ghost.T c.ghost.A c.ghost.at c.ghost.w m n c.arrival (λ a l. I.store_there Drawer (next_cell R N q) 0 m n st a (λ e. omega arith)) c.inv.core.items.below (I.count_drawer (next_cell R N q) 0 m n st (R * N)); line = c.line }, tt)
      good_draw {q} {t} {m} {n = n} c (Lane.DrawsOver.t6_step {k = k} st) = (record { ghost = c.ghost; landed = c.landed; inv = Draw.t6_step I Item bare_no R N R2 N1 DE DS DC DK c.ghost p s q m n k c.inv st; arrival = arrival_same I R N c.landed c.ghost.T c.ghost.A c.ghost.at c.ghost.w m n c.arrival (λ a l. I.bar_view Drawer m n st a) c.inv.core.items.below (I.count_bar Drawer m n st (R * N)); line = c.line }, tt)
      good_draw {q} {t} {m} {n = n} c (Lane.DrawsOver.t7_step {k = k} st) = (record { ghost = g_leave c.ghost; landed = c.landed; inv = Draw.t7_step I Item bare_no R N R2 N1 DE DS DC DK c.ghost p s q m n k c.inv st; arrival = arrival_same I R N c.landed c.ghost.T c.ghost.A c.ghost.at c.ghost.w m n c.arrival (λ a l. I.store_there Drawer (free_cell R N q) (suc q.own) m n st a (λ e. omega arith)) c.inv.core.items.below (I.count_drawer (free_cell R N q) (suc q.own) m n st (R * N)); line = c.line }, tt)
      good_draw {q} {t} {m} c (Lane.DrawsOver.t8_bare e) = let h = Draw.t8_bare I Item bare_no R N R2 N1 DE DS DC DK c.ghost p s q m c.inv e in (re_a1 c a1 h.0.dd, (inr (none_come c h.1), h.2))
      good_draw {q} {t} {m} c (Lane.DrawsOver.t8_item i) = (re_a1 c a1 (Draw.sees_item I Item bare_no R N R2 N1 DE DS DC DK c.ghost p s q m Lane.Taking.t8 c.inv c.inv.dd.0 i).dd, tt)
      good_draw {q} {t} {m} c (Lane.DrawsOver.t8_bad ne ni) = absurd (Draw.sees_bad I Item bare_no R N R2 N1 DE DS DC DK c.ghost p s q m Lane.Taking.t8 c.inv ne ni)
      good_draw {q} {t} {m} {n = n} c (Lane.DrawsOver.t9_step {x = x} st) = (record { ghost = g_take c.ghost; landed = c.landed; inv = Draw.t9_step I Item bare_no R N R2 N1 DE DS DC DK c.ghost p s q m n x c.inv st; arrival = arr9; line = sym (ap (after (taken x)) whole) }, (whole', more))
        where
          lt : c.ghost.T < c.ghost.A
          lt = c.inv.dd.1.some

          own : own_cell R N q ≡ c.ghost.at c.ghost.T
          own = drawer_own_at I Item R N DE DS DC DK c.ghost p s q (Lane.Taking.t9 x) m c.inv ∙ sym (inside_at I R N R2 N1 c.ghost m c.inv.core (record { some = lt; within = c.inv.dd.1.within }))

          arr9 : Arrival I R N c.landed (suc c.ghost.T) c.ghost.A c.ghost.at c.ghost.w n
          arr9 = arrival_take I R N c.landed c.ghost.T c.ghost.A c.ghost.at c.ghost.w m n c.arrival (rw own at st) lt c.inv.dd.3 (λ i a b e. c.inv.core.items.apart c.ghost.T i (omega arith) a b (sym e))

          whole : x ∷ items_from c.ghost.w (suc c.ghost.T) (c.ghost.A - suc c.ghost.T) ≡ u
          whole = ap (λ (y : ℕ). y ∷ items_from c.ghost.w (suc c.ghost.T) (c.ghost.A - suc c.ghost.T)) c.inv.dd.2 ∙ (ap (items_from c.ghost.w c.ghost.T) size ∙ sym c.line)
            where
              size : suc (c.ghost.A - suc c.ghost.T) ≡ c.ghost.A - c.ghost.T
              size = omega arith

          whole' : u ≡ x ∷ after (taken x) u
          whole' = subst (λ (l : List ℕ). l ≡ x ∷ after (taken x) l) whole refl

          more : 0 < arrived u m
          more = omega (arith, come u a1 w1 n1 p s q (Lane.Taking.t9 x) m c, arr9.low)

      -- a landing
      pub good_land : (t : Taking) (q : Places) (x : Side) (a w : ℕ) (m n : I.M) → I.Land x a w m n → Good u a1 w1 n1 p s q t m → Good u a1 w1 n1 p s q t n
      good_land t q Drawer a w m n l c = record { ghost = c.ghost; landed = c.landed; inv = inv_lands I Item R N R2 N1 Drawer a w m n l DE DS DC DK c.ghost p s q t c.inv; arrival = arrival_drawer I R N c.ghost m n c.inv.core c.landed c.arrival a w l; line = c.line }
      good_land t q Feeder a w m n l c = elim (lt_or a (R * N)) [ inl h ↦ record { ghost = c.ghost; landed = suc c.landed; inv = inv_lands I Item R N R2 N1 Feeder a w m n l DE DS DC DK c.ghost p s q t c.inv; arrival = (arrival_cell I R N c.ghost m n c.inv.core c.landed c.arrival a w l h).1; line = c.line } | inr h ↦ record { ghost = c.ghost; landed = c.landed; inv = inv_lands I Item R N R2 N1 Feeder a w m n l DE DS DC DK c.ghost p s q t c.inv; arrival = arrival_above I R N c.ghost m n c.inv.core c.landed c.arrival a w l h; line = c.line } ]
