-- The feeder's steps keep the invariant.
use Rattle.std.proofs.Common.{◌≡◌, ℕ, suc, ◌+◌, ◌-◌, ◌*◌, ◌%◌, ◌<◌, ◌≤◌, [], sym, refl, ap, ◌∙◌, subst, inl, inr, mod-lt, arith}
use Rattle.memory.specs.declared.Side.{Side}
use Rattle.memory.specs.declared.Side.TheVariants.{Feeder}
use Rattle.queue.proofs.Rounds.{eq_or, changed_there, changed_elsewhere}
use Rattle.queue.proofs.Steps.{moved_on}
use Rattle.queue.proofs.Views.{mine, seen, ring, visit_word, mark_push}
use Rattle.queue.proofs.Interface.{Interface, Frame, frame_store}
use Rattle.queue.proofs.Addresses.{cell, next_slot, free_slot, mark, cell<, next_slot≥, next_slot<, free_slot≥, free_slot<, mark≡, mark_is, visit_word_is, visit_word_filled, ring<, moved_on_ring}
use Rattle.queue.proofs.Core.{g_put, g_claim, g_link, g_enter, Ghost}
use Rattle.queue.proofs.Positions.{Pos}
use Rattle.queue.proofs.Steps.{Places, Putting, Taking, own_cell, next_cell, free_cell, mark_cell}
use Rattle.queue.proofs.Facts.{FFacts, d_keep}
use Rattle.queue.proofs.Invariant.{Inv, rest_apart, inv_bar, feeder_own_at, f_next_at, f_free_at}
use Rattle.queue.proofs.Steps.{Putting.idle, Putting.p1, Putting.p2, Putting.p3, Putting.p4, Putting.p5, Putting.p6, Putting.p7, Putting.p8, on_free, on_next, on_own, into, NamesNoRing}
use Rattle.queue.proofs.OwnLooks.{own_bare, own_full}
use Rattle.queue.proofs.ListLooks.{room, free_shows, FreeShows, FreeShows.a_ring, FreeShows.none}
use Rattle.queue.proofs.ItemStores.{put_core, each}
use Rattle.queue.proofs.RingStores.{claim_core, link_core, enter_core}
use Rattle.queue.proofs.Positions.{pos_put, pos_enter}

-- no store waits
abbrev pub Quiet : (I : Interface) → I.M → Type 0
Quiet I m = (a : ℕ) (s : Side) → mine s (I.view m a) ≡ []

module _ (I : Interface) (Item : ℕ → Type 0) (bare_no : Item 0 → ⊥) (R N : ℕ) (R2 : 2 ≤ R) (N1 : 1 ≤ N) where
  small : (x : ℕ) → x % N < N
  small x = mod-lt x (omega arith)

  non0 : (x : ℕ) → Item x → x ≡ 0 → ⊥
  non0 x i e = bare_no (subst Item e i)

  pub refeed : (E S C K C' K' : Type 0) (g : Ghost) (p : Places) (s s' : Putting) (q : Places) (t : Taking) (m : I.M) → Inv I Item R N E S C K g p s q t m → FFacts I Item R N g.f g.A g.nt g.fh g.start g.base C' K' g.d m s' → Inv I Item R N E S C' K' g p s' q t m
  refeed E S C K C' K' g p s s' q t m c h = record { core = c.core; kinds = c.kinds; f_ring = c.f_ring; f_next = c.f_next; f_free = c.f_free; d_ring = c.d_ring; d_next = c.d_next; d_free = c.d_free; pos = c.pos; ff = h; dd = c.dd }

  module _ (E S C K : Type 0) (g : Ghost) (p q : Places) (t : Taking) (m : I.M) where
    pub begin_put : (x : ℕ) → Item x → Inv I Item R N E S C K g p idle q t m → Inv I Item R N E S C K g p (p1 x) q t m
    begin_put x i c = refeed E S C K C K g p idle (p1 x) q t m c (i, c.ff)

    pub p1_bare : (x : ℕ) (c : Inv I Item R N E S C K g p (p1 x) q t m) → seen Feeder (I.view m (own_cell R N p)) ≡ 0 → Inv I Item R N E S C K g p (p7 x) q t m
    p1_bare x c e = refeed E S C K C K g p (p1 x) (p7 x) q t m c (c.ff.0, record { t = c.ff.1.t; h = c.ff.1.h; bare = own_bare I R N R2 N1 g m c.core (rw (feeder_own_at I Item R N E S C K g p (p1 x) q t m c) at e) })

    pub p1_full : (x : ℕ) (c : Inv I Item R N E S C K g p (p1 x) q t m) → (seen Feeder (I.view m (own_cell R N p)) ≡ 0 → ⊥) → Inv I Item R N E S (Quiet I m) ((R - 1) * N + g.T ≤ g.A) g p (p2 x) q t m
    p1_full x c ne = refeed E S C K (Quiet I m) ((R - 1) * N + g.T ≤ g.A) g p (p1 x) (p2 x) q t m c (c.ff.0, c.ff.1.t, c.ff.1.h, record { some = elim c.ff.1.fresh [ inl h ↦ h | inr h ↦ absurd (ne' (ap (seen Feeder) h)) ]; full = own_full I R N R2 N1 g m c.core ne' }, λ y. elim (room I R N R2 N1 g m c.core y c.ff.1.h ne') [ inl z ↦ inr z | inr z ↦ inl z ])
      where
        ne' : seen Feeder (I.view m (cell R N g.f ((g.base g.f + g.A) % N))) ≡ 0 → ⊥
        ne' = rw (feeder_own_at I Item R N E S C K g p (p1 x) q t m c) at ne

    module _ (x : ℕ) (c : Inv I Item R N E S C K g p (p2 x) q t m) where
      free_at : free_cell R N p ≡ free_slot R N g.f
      free_at = f_free_at I Item R N E S C K g p (p2 x) q t m c ∙ ap (free_slot R N) c.ff.2

      looks : FreeShows I R N R2 N1 g m c.core
      looks = free_shows I R N R2 N1 g m c.core c.ff.1 c.ff.2

      pub p2_bare : seen Feeder (I.view m (free_cell R N p)) ≡ 0 → Inv I Item R N E S C K g p idle q t m × (C → K)
      p2_bare e = (refeed E S C K C K g p (p2 x) idle q t m c (record { t = c.ff.1; h = c.ff.2; fresh = inl c.ff.3.some }), λ y. elim (c.ff.4 y) [ inl k ↦ k | inr k ↦ absurd (visit_word_filled R R2 (suc g.f) (sym (ap (seen Feeder) k.1) ∙ (rw free_at at e))) ])

      pub p2_ring : (n : ℕ) → n < R → seen Feeder (I.view m (free_cell R N p)) ≡ suc n → Inv I Item R N E S C K g p (p3 x n) q t m
      p2_ring n l e = go looks
        where
          e' : seen Feeder (I.view m (free_slot R N g.f)) ≡ suc n
          e' = rw free_at at e

          go : FreeShows I R N R2 N1 g m c.core → Inv I Item R N E S C K g p (p3 x n) q t m
          go (a_ring room shown ready next z) = refeed E S C K C K g p (p2 x) (p3 x n) q t m c (c.ff.0, c.ff.1, c.ff.2, record { leaves = c.ff.3; is = (let y : suc n ≡ suc (ring R (suc g.f)) = sym e' ∙ (z ∙ visit_word_is R (suc g.f)) in omega arith); ready = ready }, room, shown, next)
          go (none h z) = absurd (let y : suc n ≡ 0 = sym e' ∙ z in omega arith)

      pub p2_bad : (seen Feeder (I.view m (free_cell R N p)) ≡ 0 → ⊥) → NamesNoRing R (seen Feeder (I.view m (free_cell R N p))) → ⊥
      p2_bad ne nr = go looks
        where
          go : FreeShows I R N R2 N1 g m c.core → ⊥
          go (a_ring room shown ready next z) = nr (ring R (suc g.f)) (ring< R R2 (suc g.f)) (rw free_at (z ∙ visit_word_is R (suc g.f)))
          go (none h z) = ne (rw free_at z)

    -- P3
    module _ (n : I.M) (x k : ℕ) (c : Inv I Item R N E S C K g p (p3 x k) q t m) (st : I.Store Feeder (free_cell R N p) 0 m n) where
      st3 : I.Store Feeder (free_slot R N g.f) 0 m n
      st3 = rw (f_free_at I Item R N E S C K g p (p3 x k) q t m c ∙ ap (free_slot R N) c.ff.2) at st

      fr3 : Frame I R (λ b. b ≡ free_slot R N g.f → ⊥) m n
      fr3 = frame_store I R Feeder (free_slot R N g.f) 0 m n st3

      pub p3_step : Inv I Item R N E S C K (g_claim g) (on_free R p) (p4 x k) q t n
      p3_step = record {
        core = claim_core I R N R2 N1 g m n c.core c.ff.4 c.ff.2 c.ff.5 st3 c.ff.1;
        kinds = c.kinds;
        f_ring = c.f_ring;
        f_next = c.f_next;
        f_free = ap (moved_on R) (c.f_free ∙ ap (ring R) c.ff.2) ∙ moved_on_ring R g.f R2;
        d_ring = c.d_ring;
        d_next = c.d_next;
        d_free = c.d_free;
        pos = record { f_own = c.pos.f_own; f_left = c.pos.f_left; d_own = c.pos.d_own; d_ahead = c.pos.d_ahead; level = c.pos.level; small = c.pos.small };
        ff = (c.ff.0, c.ff.1, refl, record { leaves = record { some = c.ff.3.leaves.some; full = c.ff.3.leaves.full }; is = c.ff.3.is; ready = λ y l. (fr3.keeps (cell R N (suc g.f) y) (λ e. omega (arith, cell< R R2 N (suc g.f) y l, free_slot≥ R R2 N g.f))).rest 0 (c.ff.3.ready y l) }, (fr3.keeps (next_slot R N g.f) (λ e. omega (arith, next_slot< R R2 N g.f, free_slot≥ R R2 N g.f))).rest 0 c.ff.6);
        dd = d_keep I Item R N g.d g.T g.nh g.f g.A g.start (g.at g.T) (g.w g.T) m g.f g.A g.start (g.at g.T) (g.w g.T) n (record {
          more = omega arith;
          mine = refl;
          ahead = λ _. refl;
          within = λ _ h l. h l;
          passed = (fr3.keeps (mark R N) (λ e. omega (arith, mark≡ R R2 N, free_slot< R R2 N g.f))).marked g.f (suc g.d);
          item = λ l. (fr3.keeps (g.at g.T) (λ e. omega (arith, c.core.items.below g.T (omega arith) l, free_slot≥ R R2 N g.f))).rest (g.w g.T);
          word = λ _. refl;
          linked = (fr3.keeps (next_slot R N g.d) (λ e. omega (arith, next_slot< R R2 N g.d, free_slot≥ R R2 N g.f))).rest (visit_word R (suc g.d));
          cleared = λ z. (fr3.keeps (free_slot R N g.d) (rest_apart I m (free_slot R N g.d) (free_slot R N g.f) 0 (visit_word R (suc g.f)) z c.ff.5 (λ e. visit_word_filled R R2 (suc g.f) (sym e)))).rest 0 z;
          sealed = I.store_sealed Feeder (free_slot R N g.f) 0 m n st3;
        }) E S t c.dd;
      }

    -- P4
    pub p4_step : (n : I.M) (x k : ℕ) → Inv I Item R N E S C K g p (p4 x k) q t m → I.Bar Feeder m n → Inv I Item R N E S C K g p (p5 x k) q t n
    p4_step n x k c br = let h = inv_bar I Item R N R2 N1 Feeder m n br E S C K g p (p4 x k) q t c in refeed E S C K C K g p (p4 x k) (p5 x k) q t n h (h.ff.0, h.ff.1, h.ff.2, h.ff.3, h.ff.4, I.bar_sealed Feeder m n br)

    -- P5
    module _ (n : I.M) (x k : ℕ) (c : Inv I Item R N E S C K g p (p5 x k) q t m) (st : I.Store Feeder (next_cell R N p) (suc k) m n) where
      st5 : I.Store Feeder (next_slot R N g.f) (visit_word R (suc g.f)) m n
      st5 = rw (f_next_at I Item R N E S C K g p (p5 x k) q t m c ∙ ap (next_slot R N) c.ff.1, ap suc c.ff.3.is ∙ sym (visit_word_is R (suc g.f))) at st

      fr5 : Frame I R (λ b. b ≡ next_slot R N g.f → ⊥) m n
      fr5 = frame_store I R Feeder (next_slot R N g.f) (visit_word R (suc g.f)) m n st5

      pub p5_step : Inv I Item R N E S C K (g_link g) (on_next R p) (p6 x k) q t n
      p5_step = record {
        core = link_core I R N R2 N1 g m n c.core c.ff.2 c.ff.1 c.ff.4 c.ff.5 st5;
        kinds = c.kinds;
        f_ring = c.f_ring;
        f_next = ap (moved_on R) (c.f_next ∙ ap (ring R) c.ff.1) ∙ moved_on_ring R g.f R2;
        f_free = c.f_free;
        d_ring = c.d_ring;
        d_next = c.d_next;
        d_free = c.d_free;
        pos = record { f_own = c.pos.f_own; f_left = c.pos.f_left; d_own = c.pos.d_own; d_ahead = c.pos.d_ahead; level = c.pos.level; small = c.pos.small };
        ff = (c.ff.0, refl, record { leaves = record { some = c.ff.3.leaves.some; full = c.ff.3.leaves.full }; is = c.ff.3.is; ready = λ y l. (fr5.keeps (cell R N (suc g.f) y) (λ e. omega (arith, cell< R R2 N (suc g.f) y l, next_slot≥ R R2 N g.f))).rest 0 (c.ff.3.ready y l) }, I.store_but Feeder (next_slot R N g.f) (visit_word R (suc g.f)) m n st5 c.ff.5);
        dd = d_keep I Item R N g.d g.T g.nh g.f g.A g.start (g.at g.T) (g.w g.T) m g.f g.A g.start (g.at g.T) (g.w g.T) n (record {
          more = omega arith;
          mine = refl;
          ahead = λ _. refl;
          within = λ _ h l. h l;
          passed = (fr5.keeps (mark R N) (λ e. omega (arith, mark≡ R R2 N, next_slot< R R2 N g.f))).marked g.f (suc g.d);
          item = λ l. (fr5.keeps (g.at g.T) (λ e. omega (arith, c.core.items.below g.T (omega arith) l, next_slot≥ R R2 N g.f))).rest (g.w g.T);
          word = λ _. refl;
          linked = λ z. (fr5.keeps (next_slot R N g.d) (rest_apart I m (next_slot R N g.d) (next_slot R N g.f) (visit_word R (suc g.d)) 0 z c.ff.4 (visit_word_filled R R2 (suc g.d)))).rest (visit_word R (suc g.d)) z;
          cleared = (fr5.keeps (free_slot R N g.d) (λ e. omega (arith, free_slot≥ R R2 N g.d, next_slot< R R2 N g.f))).rest 0;
          sealed = I.store_sealed Feeder (next_slot R N g.f) (visit_word R (suc g.f)) m n st5;
        }) E S t c.dd;
      }

    -- P6
    module _ (n : I.M) (x k : ℕ) (c : Inv I Item R N E S C K g p (p6 x k) q t m) (st : I.Store Feeder (mark_cell R N) (suc k) m n) where
      st6 : I.Store Feeder (mark R N) (visit_word R (suc g.f)) m n
      st6 = rw (sym (mark_is R N), ap suc c.ff.2.is ∙ sym (visit_word_is R (suc g.f))) at st

      fr6 : Frame I R (λ b. b ≡ mark R N → ⊥) m n
      fr6 = frame_store I R Feeder (mark R N) (visit_word R (suc g.f)) m n st6

      abbrev pub ghost6 : Ghost
      ghost6 = g_enter g (q.at (ring R (suc g.f)) + (N - 1) * g.A)

      room6 : suc g.f < g.d + R
      room6 = omega (arith, c.core.numbers, c.ff.1)

      pos6 : Pos R N ghost6 p.at q.at
      pos6 = pos_enter R N R2 N1 g c.core.numbers p.at q.at c.pos room6

      old6 : (j : ℕ) → j ≤ g.f → ghost6.start j ≡ g.start j
      old6 j l = changed_elsewhere g.start (suc g.f) g.A j (omega arith)

      within6 : g.T < g.A → (g.d < g.f → g.T < g.start (suc g.d)) → g.d < suc g.f → g.T < ghost6.start (suc g.d)
      within6 l h l' = elim (eq_or g.d g.f) [ inl e ↦ (let z : ghost6.start (suc g.d) ≡ g.A = ap (λ (y : ℕ). ghost6.start (suc y)) e ∙ changed_there g.start (suc g.f) g.A in omega arith) | inr e ↦ (let y : g.d < g.f = omega arith in omega (arith, h y, old6 (suc g.d) y)) ]

      pub p6_step : Inv I Item R N E S C K ghost6 (into k p) (p7 x) q t n
      p6_step = record {
        core = enter_core I R N R2 N1 g m n c.core (q.at (ring R (suc g.f)) + (N - 1) * g.A) c.ff.1 c.ff.2.leaves.some c.ff.2.leaves.full c.ff.2.ready c.ff.3 st6;
        kinds = c.kinds;
        f_ring = c.ff.2.is;
        f_next = c.f_next;
        f_free = c.f_free;
        d_ring = c.d_ring;
        d_next = c.d_next;
        d_free = c.d_free;
        pos = pos6;
        ff = (c.ff.0, record { t = c.ff.1; h = omega (arith, c.core.numbers, c.ff.1); bare = (fr6.keeps (cell R N (suc g.f) ((ghost6.base (suc g.f) + g.A) % N)) (λ e. omega (arith, cell< R R2 N (suc g.f) ((ghost6.base (suc g.f) + g.A) % N) (small (ghost6.base (suc g.f) + g.A)), mark≡ R R2 N))).rest 0 (c.ff.2.ready ((ghost6.base (suc g.f) + g.A) % N) (small (ghost6.base (suc g.f) + g.A))) });
        dd = d_keep I Item R N g.d g.T g.nh g.f g.A g.start (g.at g.T) (g.w g.T) m (suc g.f) g.A ghost6.start (g.at g.T) (g.w g.T) n (record {
          more = omega arith;
          mine = old6 g.d c.core.numbers.df;
          ahead = λ l. old6 (suc g.d) l;
          within = within6;
          passed = λ z. rw (I.store_here Feeder (mark R N) (visit_word R (suc g.f)) m n st6) (mark_push R g.f (suc g.d) (I.view m (mark R N)) z);
          item = λ l. (fr6.keeps (g.at g.T) (λ e. omega (arith, c.core.items.below g.T (omega arith) l, mark≡ R R2 N))).rest (g.w g.T);
          word = λ _. refl;
          linked = (fr6.keeps (next_slot R N g.d) (λ e. omega (arith, next_slot< R R2 N g.d, mark≡ R R2 N))).rest (visit_word R (suc g.d));
          cleared = (fr6.keeps (free_slot R N g.d) (λ e. omega (arith, free_slot< R R2 N g.d, mark≡ R R2 N))).rest 0;
          sealed = I.store_sealed Feeder (mark R N) (visit_word R (suc g.f)) m n st6;
        }) E S t c.dd;
      }

    -- P7
    pub p7_step : (n : I.M) (x : ℕ) → Inv I Item R N E S C K g p (p7 x) q t m → I.Bar Feeder m n → Inv I Item R N E S C K g p (p8 x) q t n
    p7_step n x c br = let h = inv_bar I Item R N R2 N1 Feeder m n br E S C K g p (p7 x) q t c in refeed E S C K C K g p (p7 x) (p8 x) q t n h (h.ff.0, h.ff.1, I.bar_sealed Feeder m n br)

    -- P8
    module _ (n : I.M) (x : ℕ) (c : Inv I Item R N E S C K g p (p8 x) q t m) (st : I.Store Feeder (own_cell R N p) x m n) where
      abbrev o8 : ℕ
      o8 = cell R N g.f ((g.base g.f + g.A) % N)

      o8< : o8 < R * N
      o8< = cell< R R2 N g.f ((g.base g.f + g.A) % N) (small (g.base g.f + g.A))

      st8 : I.Store Feeder o8 x m n
      st8 = rw (feeder_own_at I Item R N E S C K g p (p8 x) q t m c) at st

      fr8 : Frame I R (λ b. b ≡ o8 → ⊥) m n
      fr8 = frame_store I R Feeder o8 x m n st8

      abbrev pub ghost8 : Ghost
      ghost8 = g_put g (cell R N g.f ((g.base g.f + g.A) % N)) x

      pos8 : Pos R N ghost8 (on_own N p).at q.at
      pos8 = rw c.f_ring (pos_put R N R2 N1 g c.core.numbers p.at q.at c.pos ghost8.w ghost8.at)

      pub p8_step : Inv I Item R N E S C K ghost8 (on_own N p) idle q t n
      p8_step = record {
        core = put_core I R N R2 N1 g m n c.core o8 x (non0 x c.ff.0) o8< refl c.ff.1.bare c.ff.2 st8;
        kinds = each g.at g.w g.T g.A o8 x (λ i a v. Item v) c.kinds c.ff.0;
        f_ring = c.f_ring;
        f_next = c.f_next;
        f_free = c.f_free;
        d_ring = c.d_ring;
        d_next = c.d_next;
        d_free = c.d_free;
        pos = pos8;
        ff = record { t = c.ff.1.t; h = c.ff.1.h; fresh = inl (omega (arith, c.core.numbers.fA)) };
        dd = d_keep I Item R N g.d g.T g.nh g.f g.A g.start (g.at g.T) (g.w g.T) m g.f (suc g.A) g.start (ghost8.at g.T) (ghost8.w g.T) n (record {
          more = omega arith;
          mine = refl;
          ahead = λ _. refl;
          within = λ _ h l. h l;
          passed = (fr8.keeps (mark R N) (λ e. omega (arith, mark≡ R R2 N, o8<))).marked g.f (suc g.d);
          item = λ l z. rw (changed_elsewhere g.at g.A o8 g.T (omega arith), changed_elsewhere g.w g.A x g.T (omega arith)) ((fr8.keeps (g.at g.T) (rest_apart I m (g.at g.T) o8 (g.w g.T) 0 z c.ff.1.bare (c.core.items.item g.T (omega arith) l))).rest (g.w g.T) z);
          word = λ l. changed_elsewhere g.w g.A x g.T (omega arith);
          linked = (fr8.keeps (next_slot R N g.d) (λ e. omega (arith, next_slot≥ R R2 N g.d, o8<))).rest (visit_word R (suc g.d));
          cleared = (fr8.keeps (free_slot R N g.d) (λ e. omega (arith, free_slot≥ R R2 N g.d, o8<))).rest 0;
          sealed = I.store_sealed Feeder o8 x m n st8;
        }) E S t c.dd;
      }
