-- What the looks at the lists and the mark tell.
use Rattle.std.proofs.Common.{◌≡◌, ℕ, zero, suc, ◌+◌, ◌-◌, ◌*◌, ◌%◌, ◌<◌, ◌≤◌, ◌⊎◌, [], sym, refl, ap, ◌∙◌, inl, inr, mod-lt, arith}
use Rattle.memory.specs.declared.Side.{Side}
use Rattle.memory.specs.declared.Side.TheVariants.{Feeder, Drawer}
use Rattle.queue.proofs.Rounds.{eq_or}
use Rattle.queue.proofs.Views.{mine, seen, Filled, Vacant, Filled.rests, Filled.comes, Vacant.rests as vrests, Vacant.goes, rest, Marked, visit_word, run, not_in_run}
use Rattle.queue.specs.Waiting.{In, View}
use Rattle.queue.proofs.Interface.{Interface}
use Rattle.queue.proofs.Addresses.{cell, next_slot, free_slot, mark, cell<, cells_apart, free_slot_wraps, visit_words_apart}
use Rattle.queue.proofs.Core.{Ghost, Core}
use Rattle.queue.proofs.ItemStores.{mono}
use Rattle.queue.proofs.OwnLooks.{visit_of, NoneArrived, fown, down, own_full, waits_on, first_waits, Shows, Shows.oldest, Shows.waiting, Shows.over, shows}
use Rattle.queue.proofs.Lines.{cons_no_nil}

mark_seen : (R hi lo : ℕ) (x : View) (h : Marked R hi lo x) → seen Drawer x ≡ visit_word R h.from
mark_seen R hi lo x h = ap (seen Drawer) h.is

pub start_full : (N : ℕ) (s : ℕ → ℕ) (j n f : ℕ) → ((k : ℕ) → j ≤ k → k < f → s k + N ≤ s (suc k)) → j + n ≤ f → s j + n * N ≤ s (j + n)
start_full N s j zero f h l = let e : s (j + 0) ≡ s j = ap s (omega arith) in omega arith
start_full N s j (suc n) f h l = let a : s j + n * N ≤ s (j + n) = start_full N s j n f h (omega arith) in let b : s (j + n) + N ≤ s (suc (j + n)) = h (j + n) (omega arith) (omega arith) in let e : s (suc (j + n)) ≡ s (j + suc n) = ap s (omega arith) in omega arith

module _ (I : Interface) (R N : ℕ) (R2 : 2 ≤ R) (N1 : 1 ≤ N) where
  module _ (g : Ghost) (m : I.M) (c : Core I R N g m) where
    abbrev pub Passed : Type 0
    Passed = Marked R g.f (suc g.d) (I.view m (mark R N))

    abbrev pub Ready : Type 0
    Ready = (p : ℕ) → p < N → I.view m (cell R N (suc g.f) p) ≡ rest 0

    -- P2: what the free list's head shows
    pub data FreeShows : Type 0 where
      a_ring : suc g.f < g.d + R → I.view m (free_slot R N g.f) ≡ rest (visit_word R (suc g.f)) → Ready → I.view m (next_slot R N g.f) ≡ rest 0 → seen Feeder (I.view m (free_slot R N g.f)) ≡ visit_word R (suc g.f) → FreeShows
      none : ((suc g.f < g.d + R) → I.view m (free_slot R N g.f) ≡ rest (visit_word R (suc g.f)) → ⊥) → seen Feeder (I.view m (free_slot R N g.f)) ≡ 0 → FreeShows

    pub free_shows : g.nt ≡ g.f → g.fh ≡ g.f → FreeShows
    free_shows at_t at_h = elim (eq_or (suc g.f) (g.d + R)) [ inl e ↦ none (λ l _. omega arith) (ap (seen Feeder) (c.free.free_rest g.f e)) | inr e ↦ (let l : suc g.f < g.d + R = omega (arith, c.numbers.fR) in fill l (c.free.free_filled g.f (omega arith) l)) ]
      where
        fill : suc g.f < g.d + R → Filled Drawer (visit_word R (suc g.f)) (I.view m (free_slot R N g.f)) → FreeShows
        fill l (comes e) = none (λ _ h. cons_no_nil (ap (mine Drawer) (sym e ∙ h))) (ap (seen Feeder) e)
        fill l (rests e) = a_ring l e ready next (ap (seen Feeder) e)
          where
            cells : (p : ℕ) → p < N → Vacant Drawer (I.view m (cell R N (suc g.f) p)) → I.view m (cell R N (suc g.f) p) ≡ rest 0
            cells p q (vrests h) = h
            cells p q (goes u ne h) = absurd (rw e at (I.holds_waits Drawer m (cell R N (suc g.f) p) 0 (free_slot R N g.f) (visit_word R (suc g.f)) (c.order.cell_free g.f p (omega arith) l q) (rw h (inl refl))))

            ready : Ready
            ready p q = cells p q (c.items.vacant (cell R N (suc g.f) p) (cell< R R2 N (suc g.f) p q) (λ i a b h. no i a b h (visit_of R N g c.numbers i a)))
              where
                no : (i : ℕ) → g.T ≤ i → i < g.A → g.at i ≡ cell R N (suc g.f) p → (k : ℕ) × (g.d ≤ k) × (k ≤ g.f) × (g.start k ≤ i) × (k < g.f → i < g.start (suc k)) → ⊥
                no i a b h (k, x, y, z, t) = cells_apart R R2 N k (suc g.f) ((g.base k + i) % N) p (omega arith) (omega arith) (mod-lt (g.base k + i) (omega arith)) q (sym (c.visits.placed k i x y z t a b) ∙ h)

            nexts : Vacant Drawer (I.view m (next_slot R N g.f)) → I.view m (next_slot R N g.f) ≡ rest 0
            nexts (vrests h) = h
            nexts (goes u ne h) = absurd (rw e at (I.holds_waits Drawer m (next_slot R N g.f) 0 (free_slot R N g.f) (visit_word R (suc g.f)) (c.order.next_free g.f (omega arith) l) (rw h (inl refl))))

            next : I.view m (next_slot R N g.f) ≡ rest 0
            next = nexts (c.next.next_vacant g.f (omega arith) (omega (arith, c.numbers)))

    -- T2: the mark
    pub mark_own : seen Drawer (I.view m (mark R N)) ≡ visit_word R g.d → Passed → ⊥
    mark_own e h = visit_words_apart R R2 g.d h.from h.low (omega (arith, h.ends, c.numbers.fR)) (sym e ∙ mark_seen R g.f (suc g.d) (I.view m (mark R N)) h)

    pub mark_other : (seen Drawer (I.view m (mark R N)) ≡ visit_word R g.d → ⊥) → Passed
    mark_other ne = let h = c.marked in record { from = h.from; more = h.more; is = h.is; ends = h.ends; low = elim (eq_or h.from g.d) [ inl e ↦ absurd (ne (mark_seen R g.f g.d (I.view m (mark R N)) h ∙ ap (visit_word R) e)) | inr e ↦ omega (arith, h.low) ] }

    pub passed_ahead : Passed → g.d < g.f
    passed_ahead h = omega (arith, h.low, h.ends)

    -- T1: a bare own cell
    pub t1_bare : seen Drawer (I.view m (down I R N R2 N1 g m c)) ≡ 0 → NoneArrived I R N R2 N1 g m c ⊎ Passed
    t1_bare e = go (shows I R N R2 N1 g m c)
      where
        unpassed : g.d < g.f → g.start (suc g.d) ≤ g.T → (h : Marked R g.f g.d (I.view m (mark R N))) → h.from ≡ g.d → NoneArrived I R N R2 N1 g m c
        unpassed l q h x i p r = waits_on I R N R2 N1 g m c i p r (I.holds_waits Feeder m (mark R N) (visit_word R (suc g.d)) (g.at i) (g.w i) (c.order.mark_item (suc g.d) i (omega arith) l (omega arith) r) (first h.more h.from x h.is h.ends))
          where
            first : (more from : ℕ) → from ≡ g.d → I.view m (mark R N) ≡ record { word = visit_word R from; feeder = run R more (suc from); drawer = [] } → from + more ≡ g.f → In (visit_word R (suc g.d)) (mine Feeder (I.view m (mark R N)))
            first zero from x y z = absurd (omega arith)
            first (suc k) from x y z = rw (y, x) (inl refl)

        ahead : g.d < g.f → g.start (suc g.d) ≤ g.T → NoneArrived I R N R2 N1 g m c ⊎ Passed
        ahead l q = let h = c.marked in elim (eq_or h.from g.d) [ inl x ↦ inl (unpassed l q h x) | inr x ↦ inr (record { from = h.from; more = h.more; is = h.is; ends = h.ends; low = omega (arith, h.low) }) ]

        go : Shows I R N R2 N1 g m c → NoneArrived I R N R2 N1 g m c ⊎ Passed
        go (oldest h x y) = absurd (c.items.item g.T (omega arith) h.some (sym y ∙ e))
        go (waiting h x y) = inl (first_waits I R N R2 N1 g m c h.some x)
        go (over (inl h) y) = inl (λ i p q. absurd (omega arith))
        go (over (inr h) y) = ahead h.0 h.1

    -- T3: a bare own cell behind the mark
    pub t3_bare : seen Drawer (I.view m (down I R N R2 N1 g m c)) ≡ 0 → Passed → g.T ≡ g.start (suc g.d)
    t3_bare e h = go (shows I R N R2 N1 g m c)
      where
        l : g.d < g.f
        l = passed_ahead h

        go : Shows I R N R2 N1 g m c → g.T ≡ g.start (suc g.d)
        go (oldest k x y) = absurd (c.items.item g.T (omega arith) k.some (sym y ∙ e))
        go (waiting k x y) = absurd (not_in_run R h.more (suc g.d) (suc h.from) (λ i p q r. visit_words_apart R R2 (suc g.d) i p (omega (arith, h.ends, c.numbers.fR)) r) (omega (arith, h.low)) (rw h.is at (I.holds_waits Feeder m (g.at g.T) (g.w g.T) (mark R N) (visit_word R (suc g.d)) (c.order.item_mark g.T (suc g.d) (omega arith) k.some (omega arith) l (k.within l)) (rw x (inl refl)))))
        go (over (inl k) y) = omega (arith, c.numbers.Td l, c.numbers.fA, mono R N g c.visits (suc g.d) g.f (omega arith) l (omega arith))
        go (over (inr k) y) = omega (arith, c.numbers.Td l, k.1)

    -- T4: what the next list's head shows
    pub data NextShows : Type 0 where
      a_ring : I.view m (next_slot R N g.d) ≡ rest (visit_word R (suc g.d)) → I.view m (free_slot R N g.d) ≡ rest 0 → seen Drawer (I.view m (next_slot R N g.d)) ≡ visit_word R (suc g.d) → NextShows
      none : NoneArrived I R N R2 N1 g m c → seen Drawer (I.view m (next_slot R N g.d)) ≡ 0 → NextShows

    pub next_shows : g.nh ≡ g.d → g.d < g.f → g.T ≡ g.start (suc g.d) → NextShows
    next_shows at_d l done = fill (c.next.next_filled g.d (omega arith) (omega (arith, c.numbers)))
      where
        fill : Filled Feeder (visit_word R (suc g.d)) (I.view m (next_slot R N g.d)) → NextShows
        fill (rests e) = a_ring e (clear (rw (free_slot_wraps R R2 N g.d) at (c.free.free_vacant (g.d + R) (omega arith) (omega (arith, c.numbers))))) (ap (seen Drawer) e)
          where
            clear : Vacant Feeder (I.view m (free_slot R N g.d)) → I.view m (free_slot R N g.d) ≡ rest 0
            clear (vrests h) = h
            clear (goes u ne h) = absurd (rw e at (I.holds_waits Feeder m (free_slot R N g.d) 0 (next_slot R N g.d) (visit_word R (suc g.d)) (c.order.clear_next g.d (omega arith) (omega (arith, c.numbers))) (rw h (inl refl))))
        fill (comes e) = none (λ i p q. waits_on I R N R2 N1 g m c i p q (I.holds_waits Feeder m (next_slot R N g.d) (visit_word R (suc g.d)) (g.at i) (g.w i) (c.order.next_item g.d i (omega arith) l (omega arith) q) (rw e (inl refl)))) (ap (seen Drawer) e)

    -- T8: a bare own cell on coming into a ring
    pub t8_bare : seen Drawer (I.view m (down I R N R2 N1 g m c)) ≡ 0 → g.T ≡ g.start g.d → NoneArrived I R N R2 N1 g m c
    t8_bare e s = go (shows I R N R2 N1 g m c)
      where
        go : Shows I R N R2 N1 g m c → NoneArrived I R N R2 N1 g m c
        go (oldest k x y) = absurd (c.items.item g.T (omega arith) k.some (sym y ∙ e))
        go (waiting k x y) = first_waits I R N R2 N1 g m c k.some x
        go (over (inl k) y) = λ i p q. absurd (omega arith)
        go (over (inr k) y) = absurd (omega (arith, k.1, c.visits.rising g.d (omega arith) k.0))

    -- P1 with nothing waiting: a ring is free at rest, or R - 1 rings are full
    pub room : ((a : ℕ) (s : Side) → mine s (I.view m a) ≡ []) → g.fh ≡ g.f → (seen Feeder (I.view m (fown I R N R2 N1 g m c)) ≡ 0 → ⊥) → ((suc g.f < g.d + R) × (I.view m (free_slot R N g.f) ≡ rest (visit_word R (suc g.f)))) ⊎ ((R - 1) * N + g.T ≤ g.A)
    room quiet at_h ne = elim (eq_or (suc g.f) (g.d + R)) [ inr e ↦ (let l : suc g.f < g.d + R = omega (arith, c.numbers.fR) in inl (l, still (c.free.free_filled g.f (omega arith) l))) | inl e ↦ inr (let l : g.d < g.f = omega arith in let a = own_full I R N R2 N1 g m c ne l in let b = start_full N g.start (suc g.d) (R - 2) g.f (λ k p q. c.visits.full k p q) (omega arith) in let z : g.start (suc g.d + (R - 2)) ≡ g.start g.f = ap g.start (omega arith) in let t = c.numbers.Td l in let y : (R - 1) * N ≡ (R - 2) * N + N = times in omega arith) ]
      where
        still : Filled Drawer (visit_word R (suc g.f)) (I.view m (free_slot R N g.f)) → I.view m (free_slot R N g.f) ≡ rest (visit_word R (suc g.f))
        still (rests e) = e
        still (comes e) = absurd (cons_no_nil (sym (ap (mine Drawer) e) ∙ quiet (free_slot R N g.f) Drawer))

        times : (R - 1) * N ≡ (R - 2) * N + N
        times = ap (λ (x : ℕ). x * N) (omega arith) ∙ succ (R - 2)
          where
            succ : (x : ℕ) → suc x * N ≡ x * N + N
            succ x = omega arith
