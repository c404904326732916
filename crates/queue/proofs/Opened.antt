-- An opened lane, and its runs.
use Rattle.std.proofs.Common.{◌≡◌, ℕ, suc, ◌+◌, ◌-◌, ◌*◌, ◌%◌, ◌<◌, ◌≤◌, [], sym, refl, ap, ◌∙◌, inr, mod-lt, mod-eq_of_lt, arith}
use Rattle.memory.specs.declared.Side.TheVariants.{Drawer}
use Rattle.queue.proofs.Views.{mine, rest, Filled.rests, Vacant.rests as vrests, ring, visit_word}
use Rattle.queue.proofs.Interface.{Interface}
use Rattle.queue.proofs.Addresses.{cell, next_slot, free_slot, cell<, next_slot_is, free_slot_is, mark_is, visit_word_is, ring<}
use Rattle.queue.proofs.Core.{Ghost, Core}
use Rattle.queue.proofs.Steps.{Putting.idle as pidle, Taking.idle as tidle}
use Rattle.queue.proofs.Runs.{feeder_opened, drawer_opened}
use Rattle.queue.proofs.Good.{Good}

module _ (I : Interface) (R N : ℕ) where
  pub record Opened (m : I.M) : Type 0 where
    pub cells : (a : ℕ) → a < R * N → I.view m a ≡ rest 0
    pub nexts : (i : ℕ) → i < R → I.view m (R * N + i) ≡ rest 0
    pub frees : (i : ℕ) → suc i < R → I.view m (R * N + R + i) ≡ rest (suc (suc i))
    pub last : I.view m (R * N + R + (R - 1)) ≡ rest 0
    pub mark : I.view m (R * N + R + R) ≡ rest 1
    pub none : I.count (R * N) m ≡ 0

abbrev ghost0 : Ghost
ghost0 = record { f = 0; d = 0; A = 0; T = 0; nh = 0; nt = 0; fh = 0; w = λ _. 0; at = λ _. 0; start = λ _. 0; base = λ _. 0 }

ring_is : (R k : ℕ) → k < R → ring R k ≡ k
unfolding ring
ring_is R k l = mod-eq_of_lt l

module _ (I : Interface) (Item : ℕ → Type 0) (bare_no : Item 0 → ⊥) (R N : ℕ) (R2 : 2 ≤ R) (N1 : 1 ≤ N) where
  opened_core : (m : I.M) → Opened I R N m → Core I R N ghost0 m
  opened_core m c = record {
    numbers = record { df = omega arith; fR = omega arith; TA = omega arith; dT = omega arith; fA = omega arith; Td = λ l. omega arith; nh1 = omega arith; nh2 = omega arith; nhf = omega arith; nt1 = omega arith; nt2 = omega arith; fh2 = omega arith; fhR = omega arith };
    visits = record { rising = λ k p q. absurd (omega arith); full = λ k p q. absurd (omega arith); placed = λ k i p q r s t u. absurd (omega arith) };
    items = record { filled = λ i p q. absurd (omega arith); item = λ i p q. absurd (omega arith); below = λ i p q. absurd (omega arith); apart = λ i j p q r. absurd (omega arith); vacant = λ a l h. vrests (c.cells a l); calm = λ k p a b l h. c.cells (cell R N k p) (cell< R R2 N k p l); ordered = λ i j p q r. absurd (omega arith) };
    next = record { next_filled = λ k p q. absurd (omega arith); next_vacant = λ k p q. vrests (rw (next_slot_is R N k) (c.nexts (ring R k) (ring< R R2 k))) };
    free = record { free_filled = λ k p q. rests (rw (free_slot_is R N k, visit_word_is R (suc k), ring_is R k (omega arith), ring_is R (suc k) (omega arith)) (c.frees k (omega arith))); free_vacant = λ k p q. vrests (last k (omega arith)); free_rest = λ k p. last k (omega arith) };
    marked = record { from = 0; more = 0; is = rw (mark_is R N, visit_word_is R 0, ring_is R 0 (omega arith)) c.mark; ends = refl; low = omega arith };
    order = record { item_mark = λ i k p q r s t. absurd (omega arith); mark_item = λ k i p q r s. absurd (omega arith); next_item = λ k i p q r s. absurd (omega arith); clear_next = λ k p q. absurd (omega arith); cell_free = λ k p q r s. I.holds_none Drawer m (cell R N (suc k) p) 0 (free_slot R N k) (visit_word R (suc k)) (ap (mine Drawer) (c.cells (cell R N (suc k) p) (cell< R R2 N (suc k) p s))); next_free = λ k p q. I.holds_none Drawer m (next_slot R N k) 0 (free_slot R N k) (visit_word R (suc k)) (ap (mine Drawer) (nx k)) };
  }
    where
      nx : (k : ℕ) → I.view m (next_slot R N k) ≡ rest 0
      nx k = rw (next_slot_is R N k) (c.nexts (ring R k) (ring< R R2 k))

      last : (k : ℕ) → k ≡ R - 1 → I.view m (free_slot R N k) ≡ rest 0
      last k e = rw (free_slot_is R N k, ring_is R k (omega arith), e) c.last

  pub opened_good : (m : I.M) → Opened I R N m → Good I Item R N [] 0 0 0 feeder_opened pidle (drawer_opened R) tidle m
  opened_good m c = record {
    ghost = ghost0;
    landed = 0;
    inv = record {
      core = opened_core m c;
      kinds = λ i p q. absurd (omega arith);
      f_ring = zero0;
      f_next = zero0;
      f_free = zero0;
      d_ring = zero0;
      d_next = zero0;
      d_free = sym (ring_is R (0 + (R - 1)) (omega arith) ∙ (omega arith));
      pos = record { f_own = sym (mod-eq_of_lt (omega arith)); f_left = λ k p q. absurd (omega arith); d_own = sym (mod-eq_of_lt (omega arith)); d_ahead = λ k p q. absurd (omega arith); level = λ k p q. refl; small = λ k. omega arith };
      ff = record { t = refl; h = refl; fresh = inr (c.cells (cell R N 0 ((0 + 0) % N)) (cell< R R2 N 0 ((0 + 0) % N) (mod-lt (0 + 0) (omega arith)))) };
      dd = refl;
    };
    arrival = record { low = omega arith; high = omega arith; here = λ i p q. absurd (omega arith); yet = λ i p q. absurd (omega arith); counts = omega (arith, c.none) };
    line = refl;
  }
    where
      zero0 : 0 ≡ ring R 0
      zero0 = sym (ring_is R 0 (omega arith))
