-- The feeder's stores at a change of ring keep the queue's invariant.
use Rattle.std.proofs.Common.{◌≡◌, ℕ, suc, ◌+◌, ◌<◌, ◌≤◌, ◌⊎◌, sym, ap, ◌∙◌, inl, inr, le_of_eq, arith}
use Rattle.memory.specs.declared.Side.TheVariants.{Feeder, Drawer}
use Rattle.queue.proofs.Rounds.{eq_or, changed_there, changed_elsewhere}
use Rattle.queue.proofs.Views.{push, Filled.comes, Vacant.goes, rest, coming, going, Marked, visit_word, mark_push}
use Rattle.queue.proofs.Interface.{Interface, Frame, frame_store}
use Rattle.queue.proofs.Addresses.{cell, next_slot, free_slot, mark, cell<, next_slot≥, next_slot<, free_slot≥, free_slot<, mark≡, next_slots_apart, free_slots_apart, free_slot_wraps, visit_words_apart, visit_word_filled}
use Rattle.queue.proofs.Core.{g_claim, g_link, g_enter, Ghost, Numbers, Visits, Next, Free, Order, Core, items_frame, next_frame, free_frame, mark_frame, order_frame}

module _ (I : Interface) (R N : ℕ) (R2 : 2 ≤ R) (N1 : 1 ≤ N) where
  module _ (g : Ghost) (m n : I.M) (c : Core I R N g m) where
    -- P3: the free list's entry is cleared
    module _ (room : suc g.f < g.d + R) (at_f : g.fh ≡ g.f) (shown : I.view m (free_slot R N g.f) ≡ rest (visit_word R (suc g.f))) (st : I.Store Feeder (free_slot R N g.f) 0 m n) where
      abbrev cx : ℕ
      cx = free_slot R N g.f

      abbrev CQ : ℕ → Type 0
      CQ b = b ≡ cx → ⊥

      cfr : Frame I R CQ m n
      cfr = frame_store I R Feeder cx 0 m n st

      chere : I.view n cx ≡ going Feeder (visit_word R (suc g.f))
      chere = I.store_here Feeder cx 0 m n st ∙ ap (push Feeder 0) shown

      claim_numbers : Numbers R N (g_claim g)
      claim_numbers = let h = c.numbers in record { df = h.df; fR = h.fR; TA = h.TA; dT = h.dT; fA = h.fA; Td = h.Td; nh1 = h.nh1; nh2 = h.nh2; nhf = h.nhf; nt1 = h.nt1; nt2 = omega (arith, h.nt2); fh2 = omega arith; fhR = room }

      cq : (k : ℕ) → g.f < k → k < g.f + R → CQ (free_slot R N k)
      cq k p q e = free_slots_apart R R2 N g.f k p q (sym e)

      cq' : (k : ℕ) → k < g.f → g.f < k + R → CQ (free_slot R N k)
      cq' k p q e = free_slots_apart R R2 N k g.f p q e

      claim_free : Free I R N (suc g.f) g.d n
      claim_free = record {
        free_filled = λ k p q. (cfr.keeps (free_slot R N k) (cq k p (omega (arith, c.numbers)))).filled Drawer (visit_word R (suc k)) (c.free.free_filled k (omega (arith, at_f)) q);
        free_vacant = λ k p q. elim (eq_or k (g.f + R)) [ inl e ↦ rw (e, free_slot_wraps R R2 N g.f) (goes (visit_word R (suc g.f)) (visit_word_filled R R2 (suc g.f)) chere) | inr e ↦ (cfr.keeps (free_slot R N k) (cq k (omega arith) (omega arith))).vacant Feeder (c.free.free_vacant k p (omega (arith, at_f))) ];
        free_rest = λ k p. (cfr.keeps (free_slot R N k) (cq k (omega arith) (omega (arith, c.numbers)))).rest 0 (c.free.free_rest k p);
      }

      claim_weaker : Order I R N (g_claim g) m
      claim_weaker = record { item_mark = c.order.item_mark; mark_item = c.order.mark_item; next_item = c.order.next_item; clear_next = c.order.clear_next; cell_free = λ k p q r s. c.order.cell_free k p (omega arith) r s; next_free = λ k p q. c.order.next_free k (omega arith) q }

      pub claim_core : g.nt ≡ g.f → Core I R N (g_claim g) n
      claim_core at_t = record {
        numbers = claim_numbers;
        visits = record { rising = c.visits.rising; full = c.visits.full; placed = c.visits.placed };
        items = let h = items_frame I R N m n R2 g CQ cfr (λ a l e. omega (arith, free_slot≥ R R2 N g.f)) c.items in record { filled = h.filled; item = h.item; below = h.below; apart = h.apart; vacant = h.vacant; calm = h.calm; ordered = h.ordered };
        next = next_frame I R N m n g.nh g.nt CQ cfr (λ k e. omega (arith, free_slot≥ R R2 N g.f, next_slot< R R2 N k)) c.next;
        free = claim_free;
        marked = mark_frame I R N m n CQ cfr (λ e. omega (arith, mark≡ R R2 N, free_slot< R R2 N g.f)) g.f g.d c.marked;
        order = order_frame I R N m n (g_claim g) CQ cfr (λ i p q e. omega (arith, c.items.below i p q, free_slot≥ R R2 N g.f)) (λ e. omega (arith, mark≡ R R2 N, free_slot< R R2 N g.f)) (λ k p q e. omega (arith, next_slot< R R2 N k, free_slot≥ R R2 N g.f)) (λ k p q. cq' k (omega arith) (omega (arith, c.numbers))) (λ k p q r s e. omega (arith, cell< R R2 N (suc k) p s, free_slot≥ R R2 N g.f)) (λ k p q e. omega (arith, next_slot< R R2 N k, free_slot≥ R R2 N g.f)) c.numbers.nt1 claim_weaker;
      }

    -- P5: the ring goes to the next list
    module _ (at_h : g.fh ≡ suc g.f) (at_t : g.nt ≡ g.f) (bare : I.view m (next_slot R N g.f) ≡ rest 0) (sealed : I.Sealed Feeder m) (st : I.Store Feeder (next_slot R N g.f) (visit_word R (suc g.f)) m n) where
      abbrev kx : ℕ
      kx = next_slot R N g.f

      abbrev kw : ℕ
      kw = visit_word R (suc g.f)

      abbrev KQ : ℕ → Type 0
      KQ b = b ≡ kx → ⊥

      kfr : Frame I R KQ m n
      kfr = frame_store I R Feeder kx kw m n st

      khere : I.view n kx ≡ coming Feeder kw
      khere = I.store_here Feeder kx kw m n st ∙ ap (push Feeder kw) bare

      link_numbers : Numbers R N (g_link g)
      link_numbers = let h = c.numbers in record { df = h.df; fR = h.fR; TA = h.TA; dT = h.dT; fA = h.fA; Td = h.Td; nh1 = h.nh1; nh2 = h.nh2; nhf = h.nhf; nt1 = omega arith; nt2 = omega arith; fh2 = h.fh2; fhR = h.fhR }

      kq : (k : ℕ) → g.f < k → k < g.f + R → KQ (next_slot R N k)
      kq k p q e = next_slots_apart R R2 N g.f k p q (sym e)

      kq' : (k : ℕ) → k < g.f → g.f < k + R → KQ (next_slot R N k)
      kq' k p q e = next_slots_apart R R2 N k g.f p q e

      link_next : Next I R N g.nh (suc g.f) n
      link_next = record {
        next_filled = λ k p q. elim (eq_or k g.f) [ inl e ↦ rw e (comes khere) | inr e ↦ (kfr.keeps (next_slot R N k) (kq' k (omega arith) (omega (arith, c.numbers)))).filled Feeder (visit_word R (suc k)) (c.next.next_filled k p (omega (arith, at_t))) ];
        next_vacant = λ k p q. (kfr.keeps (next_slot R N k) (kq k p (omega (arith, c.numbers)))).vacant Drawer (c.next.next_vacant k (omega (arith, at_t)) q);
      }

      link_order : Order I R N (g_link g) n
      link_order = record {
        item_mark = λ i k p q r s t. kfr.holds Feeder (g.at i) (g.w i) (mark R N) (visit_word R k) (λ e. omega (arith, c.items.below i p q, next_slot≥ R R2 N g.f)) (c.order.item_mark i k p q r s t);
        mark_item = λ k i p q r s. kfr.holds Feeder (mark R N) (visit_word R k) (g.at i) (g.w i) (λ e. omega (arith, mark≡ R R2 N, next_slot< R R2 N g.f)) (c.order.mark_item k i p q r s);
        next_item = λ k i p q r s. kfr.holds Feeder (next_slot R N k) (visit_word R (suc k)) (g.at i) (g.w i) (kq' k q (omega (arith, c.numbers))) (c.order.next_item k i p q r s);
        clear_next = λ k p q. elim (eq_or k g.f) [ inl e ↦ rw e (I.store_new Feeder kx kw m n st sealed (free_slot R N g.f) 0 (λ h _. omega (arith, free_slot≥ R R2 N g.f, next_slot< R R2 N g.f))) | inr e ↦ kfr.holds Feeder (free_slot R N k) 0 (next_slot R N k) (visit_word R (suc k)) (λ h. omega (arith, free_slot≥ R R2 N k, next_slot< R R2 N g.f)) (c.order.clear_next k p (omega (arith, at_t))) ];
        cell_free = λ k p q r s. kfr.holds Drawer (cell R N (suc k) p) 0 (free_slot R N k) (visit_word R (suc k)) (λ h. omega (arith, cell< R R2 N (suc k) p s, next_slot≥ R R2 N g.f)) (c.order.cell_free k p q r s);
        next_free = λ k p q. kfr.holds Drawer (next_slot R N k) 0 (free_slot R N k) (visit_word R (suc k)) (kq k (omega arith) (omega (arith, c.numbers))) (c.order.next_free k p q);
      }

      pub link_core : Core I R N (g_link g) n
      link_core = record {
        numbers = link_numbers;
        visits = record { rising = c.visits.rising; full = c.visits.full; placed = c.visits.placed };
        items = let h = items_frame I R N m n R2 g KQ kfr (λ a l e. omega (arith, next_slot≥ R R2 N g.f)) c.items in record { filled = h.filled; item = h.item; below = h.below; apart = h.apart; vacant = h.vacant; calm = h.calm; ordered = h.ordered };
        next = link_next;
        free = free_frame I R N m n g.fh g.d KQ kfr (λ k e. omega (arith, free_slot≥ R R2 N k, next_slot< R R2 N g.f)) c.free;
        marked = mark_frame I R N m n KQ kfr (λ e. omega (arith, mark≡ R R2 N, next_slot< R R2 N g.f)) g.f g.d c.marked;
        order = link_order;
      }

    -- P6: the mark names the new ring
    module _ (b : ℕ) (at_t : g.nt ≡ suc g.f) (some : g.start g.f < g.A) (full : g.d < g.f → g.start g.f + N ≤ g.A) (ready : (p : ℕ) → p < N → I.view m (cell R N (suc g.f) p) ≡ rest 0) (sealed : I.SealedBut Feeder m (next_slot R N g.f) (visit_word R (suc g.f))) (st : I.Store Feeder (mark R N) (visit_word R (suc g.f)) m n) where
      abbrev ew : ℕ
      ew = visit_word R (suc g.f)

      abbrev EQ : ℕ → Type 0
      EQ b = b ≡ mark R N → ⊥

      efr : Frame I R EQ m n
      efr = frame_store I R Feeder (mark R N) ew m n st

      old : (k : ℕ) → k ≤ g.f → (g_enter g b).start k ≡ g.start k
      old k p = changed_elsewhere g.start (suc g.f) g.A k (omega arith)

      new : (g_enter g b).start (suc g.f) ≡ g.A
      new = changed_there g.start (suc g.f) g.A

      old_base : (k : ℕ) → k ≤ g.f → (g_enter g b).base k ≡ g.base k
      old_base k p = changed_elsewhere g.base (suc g.f) b k (omega arith)

      first : (d : ℕ) → d ≡ g.f ⊎ d < g.f → g.T ≤ g.A → (d < g.f → g.T ≤ g.start (suc d)) → g.T ≤ (g_enter g b).start (suc d)
      first d (inl e) l h = rw (e, new) l
      first d (inr e) l h = rw (old (suc d) e) (h e)

      eq_lt : (k l : ℕ) → k ≤ l → k ≡ l ⊎ k < l
      eq_lt k l h = elim (eq_or k l) [ inl e ↦ inl e | inr e ↦ inr (omega arith) ]

      enter_numbers : Numbers R N (g_enter g b)
      enter_numbers = let h = c.numbers in record { df = omega (arith, h.df); fR = omega (arith, h.fhR, h.nt2); TA = h.TA; dT = rw (old g.d h.df) h.dT; fA = le_of_eq new; Td = λ l. first g.d (eq_lt g.d g.f h.df) h.TA h.Td; nh1 = h.nh1; nh2 = h.nh2; nhf = omega (arith, h.nhf); nt1 = omega arith; nt2 = h.nt2; fh2 = omega (arith, h.fh2); fhR = h.fhR }

      enter_visits : Visits R N (g_enter g b)
      enter_visits = record {
        rising = λ k p q. elim (eq_or k g.f) [ inl e ↦ rw (e, new, old g.f (omega arith)) some | inr e ↦ rw (old k (omega arith), old (suc k) (omega arith)) (c.visits.rising k p (omega arith)) ];
        full = λ k p q. elim (eq_or k g.f) [ inl e ↦ rw (e, new, old g.f (omega arith)) (full (omega arith)) | inr e ↦ rw (old k (omega arith), old (suc k) (omega arith)) (c.visits.full k p (omega arith)) ];
        placed = λ k i p q r s t u. elim (eq_or k (suc g.f)) [ inl e ↦ absurd (omega (arith, r, new, ap (g_enter g b).start e)) | inr e ↦ rw (old_base k (omega arith)) (c.visits.placed k i p (omega arith) (omega (arith, r, old k (omega arith))) (λ h. omega (arith, s (omega arith), old (suc k) h)) t u) ];
      }

      enter_mark : Marked R (suc g.f) g.d (I.view n (mark R N))
      enter_mark = rw (I.store_here Feeder (mark R N) ew m n st) (mark_push R g.f g.d (I.view m (mark R N)) c.marked)

      enter_order : Order I R N (g_enter g b) n
      enter_order = record {
        item_mark = λ i k p q r s t. elim (eq_or k (suc g.f)) [ inl e ↦ rw e (I.store_new_but Feeder (mark R N) ew m n st (next_slot R N g.f) ew sealed (g.at i) (g.w i) (λ h _. omega (arith, c.items.below i p q, mark≡ R R2 N)) (λ h _. omega (arith, c.items.below i p q, next_slot≥ R R2 N g.f))) | inr e ↦ efr.holds Feeder (g.at i) (g.w i) (mark R N) (visit_word R k) (λ h. omega (arith, c.items.below i p q, mark≡ R R2 N)) (c.order.item_mark i k p q r (omega arith) (omega (arith, t, old k (omega arith)))) ];
        mark_item = λ k i p q r s. elim (eq_or k (suc g.f)) [ inl e ↦ absurd (omega (arith, r, new, ap (g_enter g b).start e)) | inr e ↦ I.store_holds Feeder (mark R N) ew m n st Feeder (mark R N) (visit_word R k) (g.at i) (g.w i) (λ _ h. visit_words_apart R R2 k (suc g.f) (omega arith) (omega (arith, c.numbers)) h) (c.order.mark_item k i p (omega arith) (omega (arith, r, old k (omega arith))) s) ];
        next_item = λ k i p q r s. elim (eq_or k g.f) [ inl e ↦ absurd (omega (arith, r, new, ap (λ (x : ℕ). (g_enter g b).start (suc x)) e)) | inr e ↦ efr.holds Feeder (next_slot R N k) (visit_word R (suc k)) (g.at i) (g.w i) (λ h. omega (arith, next_slot< R R2 N k, mark≡ R R2 N)) (c.order.next_item k i p (omega arith) (omega (arith, r, old (suc k) (omega arith))) s) ];
        clear_next = λ k p q. efr.holds Feeder (free_slot R N k) 0 (next_slot R N k) (visit_word R (suc k)) (λ h. omega (arith, free_slot< R R2 N k, mark≡ R R2 N)) (c.order.clear_next k p q);
        cell_free = λ k p q r s. efr.holds Drawer (cell R N (suc k) p) 0 (free_slot R N k) (visit_word R (suc k)) (λ h. omega (arith, cell< R R2 N (suc k) p s, mark≡ R R2 N)) (c.order.cell_free k p q r s);
        next_free = λ k p q. efr.holds Drawer (next_slot R N k) 0 (free_slot R N k) (visit_word R (suc k)) (λ h. omega (arith, next_slot< R R2 N k, mark≡ R R2 N)) (c.order.next_free k p q);
      }

      pub enter_core : Core I R N (g_enter g b) n
      enter_core = record {
        numbers = enter_numbers;
        visits = enter_visits;
        items = let h = items_frame I R N m n R2 g EQ efr (λ a l e. omega (arith, mark≡ R R2 N)) c.items in record { filled = h.filled; item = h.item; below = h.below; apart = h.apart; vacant = h.vacant; calm = λ k p a b l e. elim (eq_or k (suc g.f)) [ inl x ↦ rw x ((efr.keeps (cell R N (suc g.f) p) (λ y. omega (arith, mark≡ R R2 N, cell< R R2 N (suc g.f) p l))).rest 0 (ready p l)) | inr x ↦ h.calm k p a (omega arith) l e ]; ordered = h.ordered };
        next = next_frame I R N m n g.nh g.nt EQ efr (λ k e. omega (arith, mark≡ R R2 N, next_slot< R R2 N k)) c.next;
        free = free_frame I R N m n g.fh g.d EQ efr (λ k e. omega (arith, mark≡ R R2 N, free_slot< R R2 N k)) c.free;
        marked = enter_mark;
        order = enter_order;
      }
