-- The drawer's steps keep the invariant.
use Rattle.std.proofs.Common.{◌≡◌, ℕ, suc, ◌+◌, ◌-◌, ◌*◌, ◌%◌, ◌<◌, ◌≤◌, sym, refl, ap, ◌∙◌, subst, inl, inr, mod-lt, arith}
use Rattle.memory.specs.declared.Side.TheVariants.{Feeder, Drawer}
use Rattle.queue.proofs.Steps.{moved_on}
use Rattle.queue.proofs.Views.{mine, seen, rest, coming, ring, visit_word}
use Rattle.queue.proofs.Interface.{Interface, Frame, frame_store}
use Rattle.queue.proofs.Addresses.{cell, next_slot, free_slot, mark, next_slot≥, next_slot<, free_slot≥, mark≡, mark_is, visit_word_is, visit_word_filled, visit_word_wraps, ring<, moved_on_ring}
use Rattle.queue.proofs.Core.{g_take, g_pop, g_leave, Ghost}
use Rattle.queue.proofs.Positions.{Pos}
use Rattle.queue.proofs.Steps.{Places, Putting, Taking, own_cell, next_cell, free_cell, mark_cell}
use Rattle.queue.proofs.Facts.{DFacts, f_keep}
use Rattle.queue.proofs.Invariant.{Inv, rest_apart, inv_bar, drawer_own_at, d_next_at, d_free_at}
use Rattle.queue.proofs.Steps.{Taking.idle, Taking.t1, Taking.t2, Taking.t3, Taking.t4, Taking.t5, Taking.t6, Taking.t7, Taking.t8, Taking.t9, on_free, on_next, on_own, into, NamesNoRing}
use Rattle.queue.proofs.OwnLooks.{Inside, inside_at, Shows, Shows.oldest, Shows.waiting, Shows.over, shows}
use Rattle.queue.proofs.ListLooks.{NextShows, NextShows.a_ring, NextShows.none, next_shows, mark_own, mark_other, passed_ahead, t1_bare as l1_bare, t3_bare as l3_bare, t8_bare as l8_bare}
use Rattle.queue.proofs.DrawerStores.{take_core, pop_core, leave_core}
use Rattle.queue.proofs.Positions.{pos_take, pos_leave}
use Rattle.queue.proofs.Lines.{cons_no_nil}

module _ (I : Interface) (Item : ℕ → Type 0) (bare_no : Item 0 → ⊥) (R N : ℕ) (R2 : 2 ≤ R) (N1 : 1 ≤ N) where
  small : (x : ℕ) → x % N < N
  small x = mod-lt x (omega arith)

  abbrev pub None : Ghost → I.M → Type 0
  None g m = (i : ℕ) → g.T ≤ i → i < g.A → I.view m (g.at i) ≡ coming Feeder (g.w i)

  -- the oldest untaken item has arrived
  abbrev pub Some : Ghost → I.M → Type 0
  Some g m = (g.T < g.A) × (I.view m (g.at g.T) ≡ rest (g.w g.T))

  pub none_some : (g : Ghost) (m : I.M) → None g m → Some g m → ⊥
  none_some g m h s = cons_no_nil (ap (mine Feeder) (sym (h g.T (omega arith) s.0) ∙ s.1))

  pub redraw : (E S C K E' S' : Type 0) (g : Ghost) (p : Places) (s : Putting) (q : Places) (t t' : Taking) (m : I.M) → Inv I Item R N E S C K g p s q t m → DFacts I Item R N g.d g.T g.nh E' S' g.f g.A g.start (g.at g.T) (g.w g.T) m t' → Inv I Item R N E' S' C K g p s q t' m
  redraw E S C K E' S' g p s q t t' m c h = record { core = c.core; kinds = c.kinds; f_ring = c.f_ring; f_next = c.f_next; f_free = c.f_free; d_ring = c.d_ring; d_next = c.d_next; d_free = c.d_free; pos = c.pos; ff = c.ff; dd = h }

  module _ (E S C K : Type 0) (g : Ghost) (p : Places) (s : Putting) (q : Places) (m : I.M) where
    -- T1, T3, T8: an item
    module _ (t : Taking) (c : Inv I Item R N E S C K g p s q t m) where
      own_is : own_cell R N q ≡ cell R N g.d ((g.base g.d + g.T) % N)
      own_is = drawer_own_at I Item R N E S C K g p s q t m c

      pub sees_item : g.nh ≡ g.d → Item (seen Drawer (I.view m (own_cell R N q))) → Inv I Item R N E S C K g p s q (t9 (seen Drawer (I.view m (own_cell R N q)))) m
      sees_item at_d i = go (shows I R N R2 N1 g m c.core)
        where
          go : Shows I R N R2 N1 g m c.core → Inv I Item R N E S C K g p s q (t9 (seen Drawer (I.view m (own_cell R N q)))) m
          go (oldest h x y) = redraw E S C K E S g p s q t (t9 (seen Drawer (I.view m (own_cell R N q)))) m c (at_d, record { some = h.some; within = h.within }, rw own_is y, x)
          go (waiting h x y) = absurd (bare_no (subst Item (rw own_is y) i))
          go (over h y) = absurd (bare_no (subst Item (rw own_is y) i))

      pub sees_bad : (seen Drawer (I.view m (own_cell R N q)) ≡ 0 → ⊥) → (Item (seen Drawer (I.view m (own_cell R N q))) → ⊥) → ⊥
      sees_bad ne ni = go (shows I R N R2 N1 g m c.core)
        where
          go : Shows I R N R2 N1 g m c.core → ⊥
          go (oldest h x y) = ni (rw (own_is, y) (c.kinds g.T (omega arith) h.some))
          go (waiting h x y) = ne (rw own_is y)
          go (over h y) = ne (rw own_is y)

    pub t1_bare : (c : Inv I Item R N E S C K g p s q t1 m) → seen Drawer (I.view m (own_cell R N q)) ≡ 0 → Inv I Item R N (None g m) (Some g m) C K g p s q t2 m
    t1_bare c e = redraw E S C K (None g m) (Some g m) g p s q t1 t2 m c (c.dd, l1_bare I R N R2 N1 g m c.core (rw (own_is t1 c) at e), λ x. x)

    module _ (c : Inv I Item R N E S C K g p s q t2 m) where
      pub t2_own : seen Drawer (I.view m (mark_cell R N)) ≡ suc q.own → Inv I Item R N E S C K g p s q idle m × E
      t2_own e = (redraw E S C K E S g p s q t2 idle m c c.dd.0, elim c.dd.1 [ inl z ↦ z | inr z ↦ absurd (mark_own I R N R2 N1 g m c.core (rw (sym (mark_is R N), c.d_ring, ← visit_word_is R g.d) at e) z) ])

      pub t2_other : (n : ℕ) → seen Drawer (I.view m (mark_cell R N)) ≡ suc n → (n ≡ q.own → ⊥) → Inv I Item R N E S C K g p s q t3 m
      t2_other n e ne = redraw E S C K E S g p s q t2 t3 m c (c.dd.0, mark_other I R N R2 N1 g m c.core (λ z. ne (let y : suc n ≡ suc (ring R g.d) = sym e ∙ (rw (← mark_is R N) (z ∙ visit_word_is R g.d)) in let v = c.d_ring in omega arith)), c.dd.2)

      pub t2_bad : NamesNoRing R (seen Drawer (I.view m (mark_cell R N))) → ⊥
      t2_bad nr = let h = c.core.marked in nr (ring R h.from) (ring< R R2 h.from) (rw (← mark_is R N) (ap (seen Drawer) h.is ∙ visit_word_is R h.from))

    pub t3_bare : (c : Inv I Item R N E S C K g p s q t3 m) → seen Drawer (I.view m (own_cell R N q)) ≡ 0 → Inv I Item R N E S C K g p s q t4 m
    t3_bare c e = redraw E S C K E S g p s q t3 t4 m c (c.dd.0, c.dd.1, l3_bare I R N R2 N1 g m c.core (rw (own_is t3 c) at e) c.dd.1, c.dd.2)

    module _ (c : Inv I Item R N E S C K g p s q t4 m) where
      next_is : next_cell R N q ≡ next_slot R N g.d
      next_is = d_next_at I Item R N E S C K g p s q t4 m c ∙ ap (next_slot R N) c.dd.0

      looks4 : NextShows I R N R2 N1 g m c.core
      looks4 = next_shows I R N R2 N1 g m c.core c.dd.0 (passed_ahead I R N R2 N1 g m c.core c.dd.1) c.dd.2

      pub t4_bare : seen Drawer (I.view m (next_cell R N q)) ≡ 0 → Inv I Item R N E S C K g p s q idle m × None g m × (S → ⊥)
      t4_bare e = (redraw E S C K E S g p s q t4 idle m c c.dd.0, none4, λ x. none_some g m none4 (c.dd.3 x))
        where
          go : NextShows I R N R2 N1 g m c.core → None g m
          go (none h z) = h
          go (a_ring h x z) = absurd (visit_word_filled R R2 (suc g.d) (sym z ∙ (rw next_is at e)))

          none4 : None g m
          none4 = go looks4

      pub t4_ring : (n : ℕ) → seen Drawer (I.view m (next_cell R N q)) ≡ suc n → Inv I Item R N E S C K g p s q (t5 n) m
      t4_ring n e = go looks4
        where
          go : NextShows I R N R2 N1 g m c.core → Inv I Item R N E S C K g p s q (t5 n) m
          go (none h z) = absurd (let y : suc n ≡ 0 = sym e ∙ (rw next_is z) in omega arith)
          go (a_ring h x z) = redraw E S C K E S g p s q t4 (t5 n) m c (c.dd.0, record { passed = c.dd.1; done = c.dd.2; is = (let y : suc n ≡ suc (ring R (suc g.d)) = sym e ∙ (rw next_is (z ∙ visit_word_is R (suc g.d))) in omega arith); cleared = x }, h, c.dd.3)

      pub t4_bad : (seen Drawer (I.view m (next_cell R N q)) ≡ 0 → ⊥) → NamesNoRing R (seen Drawer (I.view m (next_cell R N q))) → ⊥
      t4_bad ne nr = go looks4
        where
          go : NextShows I R N R2 N1 g m c.core → ⊥
          go (none h z) = ne (rw next_is z)
          go (a_ring h x z) = nr (ring R (suc g.d)) (ring< R R2 (suc g.d)) (rw next_is (z ∙ visit_word_is R (suc g.d)))

    -- T5
    module _ (n : I.M) (k : ℕ) (c : Inv I Item R N E S C K g p s q (t5 k) m) (st : I.Store Drawer (next_cell R N q) 0 m n) where
      st5 : I.Store Drawer (next_slot R N g.d) 0 m n
      st5 = rw (d_next_at I Item R N E S C K g p s q (t5 k) m c ∙ ap (next_slot R N) c.dd.0) at st

      fr5 : Frame I R (λ b. b ≡ next_slot R N g.d → ⊥) m n
      fr5 = frame_store I R Drawer (next_slot R N g.d) 0 m n st5

      lt5 : g.d < g.f
      lt5 = passed_ahead I R N R2 N1 g m c.core c.dd.1.passed

      item5 : (a v : ℕ) → a < R * N → I.view m a ≡ rest v → I.view n a ≡ rest v
      item5 a v l = (fr5.keeps a (λ e. omega (arith, next_slot≥ R R2 N g.d))).rest v

      pub t5_step : Inv I Item R N E S C K (g_pop g) p s (on_next R q) (t6 k) n
      t5_step = record {
        core = pop_core I R N R2 N1 g m n c.core lt5 c.dd.0 c.dd.2 st5;
        kinds = c.kinds;
        f_ring = c.f_ring;
        f_next = c.f_next;
        f_free = c.f_free;
        d_ring = c.d_ring;
        d_next = ap (moved_on R) (c.d_next ∙ ap (ring R) c.dd.0) ∙ moved_on_ring R g.d R2;
        d_free = c.d_free;
        pos = record { f_own = c.pos.f_own; f_left = c.pos.f_left; d_own = c.pos.d_own; d_ahead = c.pos.d_ahead; level = c.pos.level; small = c.pos.small };
        ff = f_keep I Item R N g.f g.A g.nt g.fh g.start g.base R2 N1 small g.d g.d m n (record {
          more = omega arith;
          bare = λ a l z. (fr5.keeps a (rest_apart I m a (next_slot R N g.d) 0 (visit_word R (suc g.d)) z c.dd.2 (λ e. visit_word_filled R R2 (suc g.d) (sym e)))).rest 0 z;
          shown = λ j v _. (fr5.keeps (free_slot R N j) (λ e. omega (arith, free_slot≥ R R2 N j, next_slot< R R2 N g.d))).rest v;
          sealed = I.store_sealed Drawer (next_slot R N g.d) 0 m n st5;
          but = I.store_other_but Drawer (next_slot R N g.d) 0 m n st5;
        }) (visit_word_filled R R2 (suc g.f)) C K s c.ff;
        dd = (refl, record { passed = (fr5.keeps (mark R N) (λ e. omega (arith, mark≡ R R2 N, next_slot< R R2 N g.d))).marked g.f (suc g.d) c.dd.1.passed; done = c.dd.1.done; is = c.dd.1.is; cleared = (fr5.keeps (free_slot R N g.d) (λ e. omega (arith, free_slot≥ R R2 N g.d, next_slot< R R2 N g.d))).rest 0 c.dd.1.cleared }, λ x. (let y = c.dd.3 x in (y.0, item5 (g.at g.T) (g.w g.T) (c.core.items.below g.T (omega arith) y.0) y.1)));
      }

    -- T6
    pub t6_step : (n : I.M) (k : ℕ) → Inv I Item R N E S C K g p s q (t6 k) m → I.Bar Drawer m n → Inv I Item R N E S C K g p s q (t7 k) n
    t6_step n k c br = let h = inv_bar I Item R N R2 N1 Drawer m n br E S C K g p s q (t6 k) c in redraw E S C K E S g p s q (t6 k) (t7 k) n h (h.dd.0, h.dd.1, I.bar_sealed Drawer m n br, h.dd.2)

    -- T7
    module _ (n : I.M) (k : ℕ) (c : Inv I Item R N E S C K g p s q (t7 k) m) (st : I.Store Drawer (free_cell R N q) (suc q.own) m n) where
      abbrev y7 : ℕ
      y7 = g.d + (R - 1)

      is7 : suc y7 ≡ g.d + R
      is7 = omega arith

      st7 : I.Store Drawer (free_slot R N y7) (visit_word R (suc y7)) m n
      st7 = rw (d_free_at I Item R N E S C K g p s q (t7 k) m c, ap suc c.d_ring ∙ (sym (visit_word_is R g.d) ∙ (sym (visit_word_wraps R R2 g.d) ∙ ap (visit_word R) (sym is7)))) at st

      fr7 : Frame I R (λ b. b ≡ free_slot R N y7 → ⊥) m n
      fr7 = frame_store I R Drawer (free_slot R N y7) (visit_word R (suc y7)) m n st7

      lt7 : g.d < g.f
      lt7 = passed_ahead I R N R2 N1 g m c.core c.dd.1.passed

      pub t7_step : Inv I Item R N E S C K (g_leave g) p s (into k (on_free R q)) t8 n
      t7_step = record {
        core = leave_core I R N R2 N1 g m n c.core y7 is7 lt7 c.dd.0 c.dd.1.done c.dd.2 c.dd.1.cleared c.dd.1.passed st7;
        kinds = c.kinds;
        f_ring = c.f_ring;
        f_next = c.f_next;
        f_free = c.f_free;
        d_ring = c.dd.1.is;
        d_next = c.d_next;
        d_free = ap (moved_on R) c.d_free ∙ (moved_on_ring R y7 R2 ∙ ap (ring R) (omega arith));
        pos = pos_leave R N R2 N1 g c.core.numbers p.at q.at c.pos lt7 c.dd.1.done;
        ff = f_keep I Item R N g.f g.A g.nt g.fh g.start g.base R2 N1 small g.d (suc g.d) m n (record {
          more = omega arith;
          bare = λ a l. (fr7.keeps a (λ e. omega (arith, free_slot≥ R R2 N y7))).rest 0;
          shown = λ j v ne z. (fr7.keeps (free_slot R N j) (rest_apart I m (free_slot R N j) (free_slot R N y7) v 0 z (c.core.free.free_rest y7 is7) ne)).rest v z;
          sealed = I.store_sealed Drawer (free_slot R N y7) (visit_word R (suc y7)) m n st7;
          but = I.store_other_but Drawer (free_slot R N y7) (visit_word R (suc y7)) m n st7;
        }) (visit_word_filled R R2 (suc g.f)) C K s c.ff;
        dd = (c.dd.0, c.dd.1.done, λ x. (let y = c.dd.3 x in (y.0, (fr7.keeps (g.at g.T) (λ e. omega (arith, free_slot≥ R R2 N y7, c.core.items.below g.T (omega arith) y.0))).rest (g.w g.T) y.1)));
      }

    pub t8_bare : (c : Inv I Item R N E S C K g p s q t8 m) → seen Drawer (I.view m (own_cell R N q)) ≡ 0 → Inv I Item R N E S C K g p s q idle m × None g m × (S → ⊥)
    t8_bare c e = (redraw E S C K E S g p s q t8 idle m c c.dd.0, none8, λ x. none_some g m none8 (c.dd.2 x))
      where
        none8 : None g m
        none8 = l8_bare I R N R2 N1 g m c.core (rw (own_is t8 c) at e) c.dd.1

    -- T9
    module _ (n : I.M) (x : ℕ) (c : Inv I Item R N E S C K g p s q (t9 x) m) (st : I.Store Drawer (own_cell R N q) 0 m n) where
      in9 : Inside I R N R2 N1 g m c.core
      in9 = record { some = c.dd.1.some; within = c.dd.1.within }

      abbrev o9 : ℕ
      o9 = g.at g.T

      st9 : I.Store Drawer o9 0 m n
      st9 = rw (own_is (t9 x) c ∙ sym (inside_at I R N R2 N1 g m c.core in9)) at st

      fr9 : Frame I R (λ b. b ≡ o9 → ⊥) m n
      fr9 = frame_store I R Drawer o9 0 m n st9

      below9 : o9 < R * N
      below9 = c.core.items.below g.T (omega arith) in9.some

      pos9 : Pos R N (g_take g) p.at (on_own N q).at
      pos9 = rw c.d_ring (pos_take R N R2 N1 g c.core.numbers p.at q.at c.pos)

      pub t9_step : Inv I Item R N E S C K (g_take g) p s (on_own N q) idle n
      t9_step = record {
        core = take_core I R N R2 N1 g m n c.core in9.some in9.within c.dd.3 st9;
        kinds = λ i a b. c.kinds i (omega arith) b;
        f_ring = c.f_ring;
        f_next = c.f_next;
        f_free = c.f_free;
        d_ring = c.d_ring;
        d_next = c.d_next;
        d_free = c.d_free;
        pos = pos9;
        ff = f_keep I Item R N g.f g.A g.nt g.fh g.start g.base R2 N1 small g.d g.d m n (record {
          more = omega arith;
          bare = λ a l z. (fr9.keeps a (rest_apart I m a o9 0 (g.w g.T) z c.dd.3 (λ e. c.core.items.item g.T (omega arith) in9.some (sym e)))).rest 0 z;
          shown = λ j v _. (fr9.keeps (free_slot R N j) (λ e. omega (arith, free_slot≥ R R2 N j, below9))).rest v;
          sealed = I.store_sealed Drawer o9 0 m n st9;
          but = I.store_other_but Drawer o9 0 m n st9;
        }) (visit_word_filled R R2 (suc g.f)) C K s c.ff;
        dd = c.dd.0;
      }
