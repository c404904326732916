-- Each store keeps the queue's invariant.
use Rattle.std.proofs.Common.{◌≡◌, ℕ, zero, suc, ◌+◌, ◌-◌, ◌*◌, ◌%◌, ◌<◌, ◌≤◌, ◌⊎◌, sym, ap, ◌∙◌, subst, subst₂, inl, inr, le_of_eq, mod-lt, arith}
use Rattle.memory.specs.declared.Side.{Side}
use Rattle.memory.specs.declared.Side.TheVariants.{Feeder, Drawer}
use Rattle.queue.proofs.Rounds.{lt_or, eq_or, changed_there, changed_elsewhere}
use Rattle.queue.proofs.Steps.{changed}
use Rattle.queue.proofs.Views.{push, Filled, Filled.rests, Filled.comes, rest, coming, visit_word}
use Rattle.queue.specs.Waiting.{View}
use Rattle.queue.proofs.Interface.{Interface, Frame, frame_store}
use Rattle.queue.proofs.Addresses.{cell, next_slot, free_slot, mark, cells_apart, next_slot≥, free_slot≥, mark≡}
use Rattle.queue.proofs.Core.{g_put, Ghost, Numbers, Visits, Items, Order, Core, next_frame, free_frame, mark_frame}
use Rattle.queue.proofs.Lines.{cons_no_nil}

-- a filled address is not at rest with 0
pub filled_rest : (s : Side) (v : ℕ) (x : View) → (v ≡ 0 → ⊥) → Filled s v x → x ≡ rest 0 → ⊥
filled_rest s v x ne (rests e) h = ne (ap (λ (q : View). q.word) (sym e ∙ h))
filled_rest Feeder v x ne (comes e) h = cons_no_nil (ap (λ (q : View). q.feeder) (sym e ∙ h))
filled_rest Drawer v x ne (comes e) h = cons_no_nil (ap (λ (q : View). q.drawer) (sym e ∙ h))

-- first items rise with the visits
pub start_mono : (s : ℕ → ℕ) (j n f : ℕ) → ((k : ℕ) → j ≤ k → k < f → s k < s (suc k)) → j + n ≤ f → s j ≤ s (j + n)
start_mono s j zero f h l = le_of_eq (ap s (omega arith))
start_mono s j (suc n) f h l = let a : s j ≤ s (j + n) = start_mono s j n f h (omega arith) in let b : s (j + n) < s (suc (j + n)) = h (j + n) (omega arith) (omega arith) in let e : s (suc (j + n)) ≡ s (j + suc n) = ap s (omega arith) in omega arith

pub mono : (R N : ℕ) (g : Ghost) → Visits R N g → (j k : ℕ) → g.d ≤ j → j ≤ k → k ≤ g.f → g.start j ≤ g.start k
mono R N g c j k p q r = let e : j + (k - j) ≡ k = omega arith in subst (λ (x : ℕ). g.start j ≤ g.start x) e (start_mono g.start j (k - j) g.f (λ i a b. c.rising i (omega arith) b) (omega arith))

-- what is taken belongs to the drawer's visit or an earlier one
pub low : (R N : ℕ) (g : Ghost) → Numbers R N g → Visits R N g → (k : ℕ) → g.d < k → k ≤ g.f → g.T ≤ g.start k
low R N g h c k p q = let a = h.Td (omega arith) in let b = mono R N g c (suc g.d) k (omega arith) p q in omega arith

-- one item more: what holds of the old ones and of the new one
pub each : (at w : ℕ → ℕ) (T A o x : ℕ) (P : ℕ → ℕ → ℕ → Type 0) → ((i : ℕ) → T ≤ i → i < A → P i (at i) (w i)) → P A o x → (i : ℕ) → T ≤ i → i < suc A → P i (changed at A o i) (changed w A x i)
each at w T A o x P old new i p q = elim (eq_or i A) [ inl e ↦ subst (λ (k : ℕ). P k (changed at A o k) (changed w A x k)) (sym e) (subst₂ (λ (a b : ℕ). P A a b) (sym (changed_there at A o)) (sym (changed_there w A x)) new) | inr h ↦ subst₂ (λ (a b : ℕ). P i a b) (sym (changed_elsewhere at A o i h)) (sym (changed_elsewhere w A x i h)) (old i p (omega arith)) ]

module _ (I : Interface) (R N : ℕ) (R2 : 2 ≤ R) (N1 : 1 ≤ N) where
  module _ (g : Ghost) (m n : I.M) (c : Core I R N g m) where
    -- the item's store
    module _ (o x : ℕ) (ne : x ≡ 0 → ⊥) (o< : o < R * N) (own : o ≡ cell R N g.f ((g.base g.f + g.A) % N)) (bare : I.view m o ≡ rest 0) (sealed : I.Sealed Feeder m) (st : I.Store Feeder o x m n) where
      put_numbers : Numbers R N (g_put g o x)
      put_numbers = let h = c.numbers in record { df = h.df; fR = h.fR; TA = omega arith; dT = h.dT; fA = omega arith; Td = h.Td; nh1 = h.nh1; nh2 = h.nh2; nhf = h.nhf; nt1 = h.nt1; nt2 = h.nt2; fh2 = h.fh2; fhR = h.fhR }

      fresh : (i : ℕ) → g.T ≤ i → i < g.A → g.at i ≡ o → ⊥
      fresh i p q e = filled_rest Feeder (g.w i) (I.view m (g.at i)) (c.items.item i p q) (c.items.filled i p q) (rw e bare)

      every : (P : ℕ → ℕ → ℕ → Type 0) → ((i : ℕ) → g.T ≤ i → i < g.A → P i (g.at i) (g.w i)) → P g.A o x → (i : ℕ) → g.T ≤ i → i < suc g.A → P i ((g_put g o x).at i) ((g_put g o x).w i)
      every = each g.at g.w g.T g.A o x

      fr : Frame I R (λ b. b ≡ o → ⊥) m n
      fr = frame_store I R Feeder o x m n st

      here : I.view n o ≡ coming Feeder x
      here = I.store_here Feeder o x m n st ∙ ap (push Feeder x) bare

      put_items : Items I R N (g_put g o x) n
      put_items = record {
        filled = every (λ i a v. Filled Feeder v (I.view n a)) (λ i p q. (fr.keeps (g.at i) (fresh i p q)).filled Feeder (g.w i) (c.items.filled i p q)) (comes here);
        item = every (λ i a v. v ≡ 0 → ⊥) c.items.item ne;
        below = every (λ i a v. a < R * N) c.items.below o<;
        apart = λ i j p q r e. every (λ j b u. g.T ≤ i → i < j → (g_put g o x).at i ≡ b → ⊥) (λ j p q h1 h2 h3. c.items.apart i j h1 h2 q (sym (changed_elsewhere g.at g.A o i (omega arith)) ∙ h3)) (λ h1 h2 h3. fresh i h1 h2 (sym (changed_elsewhere g.at g.A o i (omega arith)) ∙ h3)) j (omega arith) r p q e;
        vacant = λ a l h. (fr.keeps a (λ e. h g.A (omega (arith, c.numbers)) (omega arith) (changed_there g.at g.A o ∙ sym e))).vacant Drawer (c.items.vacant a l (λ i p q e. h i p (omega arith) (changed_elsewhere g.at g.A o i (omega arith) ∙ e)));
        calm = λ k p a b l h. (fr.keeps (cell R N k p) (λ e. h g.A (omega (arith, c.numbers)) (omega arith) (changed_there g.at g.A o ∙ sym e))).rest 0 (c.items.calm k p a b l (λ i p q e. h i p (omega arith) (changed_elsewhere g.at g.A o i (omega arith) ∙ e)));
        ordered = λ i j p q r. every (λ i a v. i < j → I.Holds Feeder n a v ((g_put g o x).at j) ((g_put g o x).w j)) (λ i p q l. every (λ j b u. i < j → I.Holds Feeder n (g.at i) (g.w i) b u) (λ j p' q' l. fr.holds Feeder (g.at i) (g.w i) (g.at j) (g.w j) (fresh i p q) (c.items.ordered i j p l q')) (λ l. I.store_new Feeder o x m n st sealed (g.at i) (g.w i) (λ e _. fresh i p q e)) j (omega arith) r l) (λ l. absurd (omega arith)) i p (omega arith) q;
      }

      put_visits : Visits R N (g_put g o x)
      put_visits = record {
        rising = c.visits.rising;
        full = c.visits.full;
        placed = λ k i p q r s t u. every (λ i a v. g.start k ≤ i → (k < g.f → i < g.start (suc k)) → a ≡ cell R N k ((g.base k + i) % N)) (λ i t u r s. c.visits.placed k i p q r s t u) (λ r s. last k p q s (lt_or k g.f)) i t u r s;
      }
        where
          last : (k : ℕ) → g.d ≤ k → k ≤ g.f → (k < g.f → g.A < g.start (suc k)) → (k < g.f) ⊎ (g.f ≤ k) → o ≡ cell R N k ((g.base k + g.A) % N)
          last k p q s (inl h) = absurd (omega (arith, s h, mono R N g c.visits (suc k) g.f (omega arith) h (omega arith), c.numbers.fA))
          last k p q s (inr h) = let e : k ≡ g.f = omega arith in rw e own

      put_order : Order I R N (g_put g o x) n
      put_order = record {
        item_mark = λ i k p q r s t. every (λ i a v. i < g.start k → I.Holds Feeder n a v (mark R N) (visit_word R k)) (λ i p q t. fr.holds Feeder (g.at i) (g.w i) (mark R N) (visit_word R k) (fresh i p q) (c.order.item_mark i k p q r s t)) (λ t. absurd (omega (arith, mono R N g c.visits k g.f (omega arith) s (omega arith), c.numbers.fA))) i p q t;
        mark_item = λ k i p q r s. every (λ i a v. g.start k ≤ i → I.Holds Feeder n (mark R N) (visit_word R k) a v) (λ i s t r. fr.holds Feeder (mark R N) (visit_word R k) (g.at i) (g.w i) (λ e. omega (arith, mark≡ R R2 N)) (c.order.mark_item k i p q r t)) (λ t. I.store_new Feeder o x m n st sealed (mark R N) (visit_word R k) (λ e _. omega (arith, mark≡ R R2 N))) i (omega (arith, low R N g c.numbers c.visits k p q)) s r;
        next_item = λ k i p q r s. every (λ i a v. g.start (suc k) ≤ i → I.Holds Feeder n (next_slot R N k) (visit_word R (suc k)) a v) (λ i s t r. fr.holds Feeder (next_slot R N k) (visit_word R (suc k)) (g.at i) (g.w i) (λ e. omega (arith, next_slot≥ R R2 N k)) (c.order.next_item k i p q r t)) (λ t. I.store_new Feeder o x m n st sealed (next_slot R N k) (visit_word R (suc k)) (λ e _. omega (arith, next_slot≥ R R2 N k))) i (omega (arith, low R N g c.numbers c.visits (suc k) (omega (arith, c.numbers)) q)) s r;
        clear_next = λ k p q. fr.holds Feeder (free_slot R N k) 0 (next_slot R N k) (visit_word R (suc k)) (λ e. omega (arith, free_slot≥ R R2 N k)) (c.order.clear_next k p q);
        cell_free = λ k p q r s. fr.holds Drawer (cell R N (suc k) p) 0 (free_slot R N k) (visit_word R (suc k)) (λ e. cells_apart R R2 N g.f (suc k) ((g.base g.f + g.A) % N) p (omega (arith, c.numbers)) (omega (arith, c.numbers)) (mod-lt (g.base g.f + g.A) (omega arith)) s (sym own ∙ sym e)) (c.order.cell_free k p q r s);
        next_free = λ k p q. fr.holds Drawer (next_slot R N k) 0 (free_slot R N k) (visit_word R (suc k)) (λ e. omega (arith, next_slot≥ R R2 N k)) (c.order.next_free k p q);
      }

      pub put_core : Core I R N (g_put g o x) n
      put_core = record {
        numbers = put_numbers;
        visits = put_visits;
        items = put_items;
        next = next_frame I R N m n g.nh g.nt (λ b. b ≡ o → ⊥) fr (λ k e. omega (arith, next_slot≥ R R2 N k)) c.next;
        free = free_frame I R N m n g.fh g.d (λ b. b ≡ o → ⊥) fr (λ k e. omega (arith, free_slot≥ R R2 N k)) c.free;
        marked = mark_frame I R N m n (λ b. b ≡ o → ⊥) fr (λ e. omega (arith, mark≡ R R2 N)) g.f g.d c.marked;
        order = put_order;
      }
