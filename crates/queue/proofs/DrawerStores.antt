-- The drawer's stores keep the queue's invariant.
use Rattle.std.proofs.Common.{◌≡◌, ℕ, suc, ◌+◌, ◌*◌, ◌%◌, ◌<◌, ◌≤◌, sym, ap, ◌∙◌, inl, inr, mod-lt, arith}
use Rattle.memory.specs.declared.Side.TheVariants.{Feeder, Drawer}
use Rattle.queue.proofs.Rounds.{eq_or}
use Rattle.queue.proofs.Views.{push, Filled.comes, Vacant.goes, rest, coming, going, Marked, visit_word}
use Rattle.queue.proofs.Interface.{Interface, Frame, frame_store}
use Rattle.queue.proofs.Addresses.{cell, next_slot, free_slot, mark, cell<, cells_apart, next_slot≥, next_slot<, free_slot≥, free_slot<, mark≡, next_slots_apart, free_slots_apart, next_slot_wraps, free_slot_wraps, visit_word_filled}
use Rattle.queue.proofs.Core.{g_take, g_pop, g_leave, Ghost, Numbers, Visits, Items, Next, Free, Order, Core, items_frame, next_frame, free_frame, mark_frame, order_frame}

module _ (I : Interface) (R N : ℕ) (R2 : 2 ≤ R) (N1 : 1 ≤ N) where
  module _ (g : Ghost) (m n : I.M) (c : Core I R N g m) where
    -- T9: the item's cell is cleared
    module _ (lt : g.T < g.A) (inside : g.d < g.f → g.T < g.start (suc g.d)) (shown : I.view m (g.at g.T) ≡ rest (g.w g.T)) (st : I.Store Drawer (g.at g.T) 0 m n) where
      abbrev o : ℕ
      o = g.at g.T

      fr : Frame I R (λ b. b ≡ o → ⊥) m n
      fr = frame_store I R Drawer o 0 m n st

      here : I.view n o ≡ going Drawer (g.w g.T)
      here = I.store_here Drawer o 0 m n st ∙ ap (push Drawer 0) shown

      o< : o < R * N
      o< = c.items.below g.T (omega arith) lt

      own : o ≡ cell R N g.d ((g.base g.d + g.T) % N)
      own = c.visits.placed g.d g.T (omega arith) c.numbers.df c.numbers.dT inside (omega arith) lt

      fresh : (i : ℕ) → suc g.T ≤ i → i < g.A → g.at i ≡ o → ⊥
      fresh i p q e = c.items.apart g.T i (omega arith) p q (sym e)

      take_numbers : Numbers R N (g_take g)
      take_numbers = let h = c.numbers in record { df = h.df; fR = h.fR; TA = lt; dT = omega (arith, h.dT); fA = h.fA; Td = λ l. inside l; nh1 = h.nh1; nh2 = h.nh2; nhf = h.nhf; nt1 = h.nt1; nt2 = h.nt2; fh2 = h.fh2; fhR = h.fhR }

      take_visits : Visits R N (g_take g)
      take_visits = record { rising = c.visits.rising; full = c.visits.full; placed = λ k i p q r s t u. c.visits.placed k i p q r s (omega arith) u }

      out : (k p : ℕ) → g.d < k → k ≤ g.f → p < N → cell R N k p ≡ o → ⊥
      out k p a b l e = cells_apart R R2 N g.d k ((g.base g.d + g.T) % N) p a (omega (arith, c.numbers)) (mod-lt (g.base g.d + g.T) (omega arith)) l (sym own ∙ sym e)

      take_items : Items I R N (g_take g) n
      take_items = record {
        filled = λ i p q. (fr.keeps (g.at i) (fresh i p q)).filled Feeder (g.w i) (c.items.filled i (omega arith) q);
        item = λ i p q. c.items.item i (omega arith) q;
        below = λ i p q. c.items.below i (omega arith) q;
        apart = λ i j p q r. c.items.apart i j (omega arith) q r;
        vacant = λ a l h. elim (eq_or a o) [ inl e ↦ rw e (goes (g.w g.T) (c.items.item g.T (omega arith) lt) here) | inr e ↦ (fr.keeps a e).vacant Drawer (c.items.vacant a l (λ i p q r. elim (eq_or i g.T) [ inl x ↦ e (sym r ∙ ap g.at x) | inr x ↦ h i (omega arith) q r ])) ];
        calm = λ k p a b l h. (fr.keeps (cell R N k p) (out k p a b l)).rest 0 (c.items.calm k p a b l (λ i s t r. elim (eq_or i g.T) [ inl x ↦ out k p a b l (sym r ∙ ap g.at x) | inr x ↦ h i (omega arith) t r ]));
        ordered = λ i j p q r. fr.holds Feeder (g.at i) (g.w i) (g.at j) (g.w j) (fresh i p (omega arith)) (c.items.ordered i j (omega arith) q r);
      }

      take_weaker : Order I R N (g_take g) m
      take_weaker = record { item_mark = λ i k p q r s t. c.order.item_mark i k (omega arith) q r s t; mark_item = c.order.mark_item; next_item = c.order.next_item; clear_next = c.order.clear_next; cell_free = c.order.cell_free; next_free = c.order.next_free }

      pub take_core : Core I R N (g_take g) n
      take_core = record {
        numbers = take_numbers;
        visits = take_visits;
        items = take_items;
        next = next_frame I R N m n g.nh g.nt (λ b. b ≡ o → ⊥) fr (λ k e. omega (arith, next_slot≥ R R2 N k, o<)) c.next;
        free = free_frame I R N m n g.fh g.d (λ b. b ≡ o → ⊥) fr (λ k e. omega (arith, free_slot≥ R R2 N k, o<)) c.free;
        marked = mark_frame I R N m n (λ b. b ≡ o → ⊥) fr (λ e. omega (arith, mark≡ R R2 N, o<)) g.f g.d c.marked;
        order = order_frame I R N m n (g_take g) (λ b. b ≡ o → ⊥) fr fresh (λ e. omega (arith, mark≡ R R2 N, o<)) (λ k _ _ e. omega (arith, next_slot≥ R R2 N k, o<)) (λ k _ _ e. omega (arith, free_slot≥ R R2 N k, o<)) (λ k p q r s e. cells_apart R R2 N g.d (suc k) ((g.base g.d + g.T) % N) p (omega (arith, c.numbers)) r (mod-lt (g.base g.d + g.T) (omega arith)) s (sym own ∙ sym e)) (λ k _ _ e. omega (arith, next_slot≥ R R2 N k, o<)) c.numbers.nt1 take_weaker;
      }

    -- T5: the next list's entry is cleared
    module _ (lt : g.d < g.f) (at_d : g.nh ≡ g.d) (shown : I.view m (next_slot R N g.d) ≡ rest (visit_word R (suc g.d))) (st : I.Store Drawer (next_slot R N g.d) 0 m n) where
      abbrev px : ℕ
      px = next_slot R N g.d

      abbrev PQ : ℕ → Type 0
      PQ b = b ≡ px → ⊥

      pfr : Frame I R PQ m n
      pfr = frame_store I R Drawer px 0 m n st

      phere : I.view n px ≡ going Drawer (visit_word R (suc g.d))
      phere = I.store_here Drawer px 0 m n st ∙ ap (push Drawer 0) shown

      pop_numbers : Numbers R N (g_pop g)
      pop_numbers = let h = c.numbers in record { df = h.df; fR = h.fR; TA = h.TA; dT = h.dT; fA = h.fA; Td = h.Td; nh1 = omega arith; nh2 = omega arith; nhf = lt; nt1 = h.nt1; nt2 = h.nt2; fh2 = h.fh2; fhR = h.fhR }

      pq : (k : ℕ) → g.d < k → k < g.d + R → PQ (next_slot R N k)
      pq k p q e = next_slots_apart R R2 N g.d k p q (sym e)

      pop_next : Next I R N (suc g.d) g.nt n
      pop_next = record {
        next_filled = λ k p q. (pfr.keeps (next_slot R N k) (pq k p (omega (arith, c.numbers)))).filled Feeder (visit_word R (suc k)) (c.next.next_filled k (omega (arith, at_d)) q);
        next_vacant = λ k p q. elim (eq_or k (g.d + R)) [ inl e ↦ rw (e, next_slot_wraps R R2 N g.d) (goes (visit_word R (suc g.d)) (visit_word_filled R R2 (suc g.d)) phere) | inr e ↦ (pfr.keeps (next_slot R N k) (pq k (omega (arith, c.numbers)) (omega arith))).vacant Drawer (c.next.next_vacant k p (omega (arith, at_d))) ];
      }

      pop_weaker : Order I R N (g_pop g) m
      pop_weaker = record { item_mark = c.order.item_mark; mark_item = c.order.mark_item; next_item = λ k i p q r s. c.order.next_item k i (omega arith) q r s; clear_next = λ k p q. c.order.clear_next k (omega arith) q; cell_free = c.order.cell_free; next_free = c.order.next_free }

      pub pop_core : Core I R N (g_pop g) n
      pop_core = record {
        numbers = pop_numbers;
        visits = record { rising = c.visits.rising; full = c.visits.full; placed = c.visits.placed };
        items = let h = items_frame I R N m n R2 g PQ pfr (λ a l e. omega (arith, next_slot≥ R R2 N g.d)) c.items in record { filled = h.filled; item = h.item; below = h.below; apart = h.apart; vacant = h.vacant; calm = h.calm; ordered = h.ordered };
        next = pop_next;
        free = free_frame I R N m n g.fh g.d PQ pfr (λ k e. omega (arith, free_slot≥ R R2 N k, next_slot< R R2 N g.d)) c.free;
        marked = mark_frame I R N m n PQ pfr (λ e. omega (arith, mark≡ R R2 N, next_slot< R R2 N g.d)) g.f g.d c.marked;
        order = order_frame I R N m n (g_pop g) PQ pfr (λ i p q e. omega (arith, c.items.below i p q, next_slot≥ R R2 N g.d)) (λ e. omega (arith, mark≡ R R2 N, next_slot< R R2 N g.d)) (λ k p q. pq k p (omega (arith, c.numbers))) (λ k _ _ e. omega (arith, free_slot≥ R R2 N k, next_slot< R R2 N g.d)) (λ k p q r s e. omega (arith, cell< R R2 N (suc k) p s, next_slot≥ R R2 N g.d)) (λ k p q. pq k (omega (arith, c.numbers)) (omega arith)) c.numbers.nt1 pop_weaker;
      }

    -- T7: the ring left goes to the free list
    module _ (y : ℕ) (is : suc y ≡ g.d + R) (lt : g.d < g.f) (at_d : g.nh ≡ suc g.d) (done : g.T ≡ g.start (suc g.d)) (sealed : I.Sealed Drawer m) (cleared : I.view m (free_slot R N g.d) ≡ rest 0) (passed : Marked R g.f (suc g.d) (I.view m (mark R N))) (st : I.Store Drawer (free_slot R N y) (visit_word R (suc y)) m n) where
      abbrev lx : ℕ
      lx = free_slot R N y

      abbrev LQ : ℕ → Type 0
      LQ b = b ≡ lx → ⊥

      lfr : Frame I R LQ m n
      lfr = frame_store I R Drawer lx (visit_word R (suc y)) m n st

      lhere : I.view n lx ≡ coming Drawer (visit_word R (suc y))
      lhere = I.store_here Drawer lx (visit_word R (suc y)) m n st ∙ ap (push Drawer (visit_word R (suc y))) (c.free.free_rest y is)

      leave_numbers : Numbers R N (g_leave g)
      leave_numbers = let h = c.numbers in record { df = lt; fR = omega (arith, h.fR); TA = h.TA; dT = omega arith; fA = h.fA; Td = λ l. omega (arith, c.visits.rising (suc g.d) (omega arith) l); nh1 = omega arith; nh2 = omega arith; nhf = h.nhf; nt1 = h.nt1; nt2 = h.nt2; fh2 = h.fh2; fhR = omega (arith, h.fhR) }

      leave_visits : Visits R N (g_leave g)
      leave_visits = record { rising = λ k p q. c.visits.rising k (omega arith) q; full = λ k p q. c.visits.full k (omega arith) q; placed = λ k i p q r s t u. c.visits.placed k i (omega arith) q r s t u }

      lq : (k : ℕ) → y < k → k < y + R → LQ (free_slot R N k)
      lq k p q e = free_slots_apart R R2 N y k p q (sym e)

      lq' : (k : ℕ) → k < y → y < k + R → LQ (free_slot R N k)
      lq' k p q e = free_slots_apart R R2 N k y p q e

      leave_free : Free I R N g.fh (suc g.d) n
      leave_free = record {
        free_filled = λ k p q. elim (eq_or k y) [ inl e ↦ rw e (comes lhere) | inr e ↦ (lfr.keeps (free_slot R N k) (lq' k (omega arith) (omega (arith, c.numbers)))).filled Drawer (visit_word R (suc k)) (c.free.free_filled k p (omega arith)) ];
        free_vacant = λ k p q. (lfr.keeps (free_slot R N k) (lq k (omega arith) (omega (arith, c.numbers)))).vacant Feeder (c.free.free_vacant k (omega arith) q);
        free_rest = λ k p. (lfr.keeps (free_slot R N k) (lq k (omega arith) (omega arith))).rest 0 (let e : k ≡ g.d + R = omega arith in rw (e, free_slot_wraps R R2 N g.d) cleared);
      }

      leave_order : Order I R N (g_leave g) n
      leave_order = record {
        item_mark = λ i k p q r s t. lfr.holds Feeder (g.at i) (g.w i) (mark R N) (visit_word R k) (λ e. omega (arith, c.items.below i p q, free_slot≥ R R2 N y)) (c.order.item_mark i k p q (omega arith) s t);
        mark_item = λ k i p q r s. lfr.holds Feeder (mark R N) (visit_word R k) (g.at i) (g.w i) (λ e. omega (arith, mark≡ R R2 N, free_slot< R R2 N y)) (c.order.mark_item k i (omega arith) q r s);
        next_item = λ k i p q r s. lfr.holds Feeder (next_slot R N k) (visit_word R (suc k)) (g.at i) (g.w i) (λ e. omega (arith, next_slot< R R2 N k, free_slot≥ R R2 N y)) (c.order.next_item k i p q r s);
        clear_next = λ k p q. lfr.holds Feeder (free_slot R N k) 0 (next_slot R N k) (visit_word R (suc k)) (lq' k (omega (arith, c.numbers)) (omega (arith, c.numbers))) (c.order.clear_next k p q);
        cell_free = λ k p q r s. elim (eq_or k y) [ inl e ↦ rw e (I.store_new Drawer lx (visit_word R (suc y)) m n st sealed (cell R N (suc y) p) 0 (λ h _. omega (arith, cell< R R2 N (suc y) p s, free_slot≥ R R2 N y))) | inr e ↦ lfr.holds Drawer (cell R N (suc k) p) 0 (free_slot R N k) (visit_word R (suc k)) (λ h. omega (arith, cell< R R2 N (suc k) p s, free_slot≥ R R2 N y)) (c.order.cell_free k p q (omega arith) s) ];
        next_free = λ k p q. elim (eq_or k y) [ inl e ↦ rw e (I.store_new Drawer lx (visit_word R (suc y)) m n st sealed (next_slot R N y) 0 (λ h _. omega (arith, next_slot< R R2 N y, free_slot≥ R R2 N y))) | inr e ↦ lfr.holds Drawer (next_slot R N k) 0 (free_slot R N k) (visit_word R (suc k)) (λ h. omega (arith, next_slot< R R2 N k, free_slot≥ R R2 N y)) (c.order.next_free k p (omega arith)) ];
      }

      pub leave_core : Core I R N (g_leave g) n
      leave_core = record {
        numbers = leave_numbers;
        visits = leave_visits;
        items = let h = items_frame I R N m n R2 g LQ lfr (λ a l e. omega (arith, free_slot≥ R R2 N y)) c.items in record { filled = h.filled; item = h.item; below = h.below; apart = h.apart; vacant = h.vacant; calm = λ k p a b l e. h.calm k p (omega arith) b l e; ordered = h.ordered };
        next = next_frame I R N m n g.nh g.nt LQ lfr (λ k e. omega (arith, free_slot≥ R R2 N y, next_slot< R R2 N k)) c.next;
        free = leave_free;
        marked = mark_frame I R N m n LQ lfr (λ e. omega (arith, mark≡ R R2 N, free_slot< R R2 N y)) g.f (suc g.d) passed;
        order = leave_order;
      }
