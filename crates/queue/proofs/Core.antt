-- The queue's invariant.
use Rattle.std.proofs.Common.{◌≡◌, ℕ, suc, ◌+◌, ◌*◌, ◌%◌, ◌<◌, ◌≤◌, arith}
use Rattle.queue.proofs.Steps.{changed}
use Rattle.memory.specs.declared.Side.TheVariants.{Feeder, Drawer}
use Rattle.queue.proofs.Views.{Filled, Vacant, rest, Marked, visit_word}
use Rattle.queue.proofs.Interface.{Interface, Frame}
use Rattle.queue.proofs.Addresses.{cell, next_slot, free_slot, mark, cell<}

-- f, d: the visits of feeder and drawer; A, T: items accepted and taken; nh, nt: the next list's ends; fh: the free list's head.
-- w, at: each item's word and address; start: the first item of a visit; base: a visit's place before item 0
pub record Ghost : Type 0 where
  pub f : ℕ
  pub d : ℕ
  pub A : ℕ
  pub T : ℕ
  pub nh : ℕ
  pub nt : ℕ
  pub fh : ℕ
  pub w : ℕ → ℕ
  pub at : ℕ → ℕ
  pub start : ℕ → ℕ
  pub base : ℕ → ℕ

-- what each store makes of it
abbrev pub g_put : Ghost → ℕ → ℕ → Ghost
g_put g o x = record { f = g.f; d = g.d; A = suc g.A; T = g.T; nh = g.nh; nt = g.nt; fh = g.fh; w = changed g.w g.A x; at = changed g.at g.A o; start = g.start; base = g.base }

abbrev pub g_take : Ghost → Ghost
g_take g = record { f = g.f; d = g.d; A = g.A; T = suc g.T; nh = g.nh; nt = g.nt; fh = g.fh; w = g.w; at = g.at; start = g.start; base = g.base }

abbrev pub g_pop : Ghost → Ghost
g_pop g = record { f = g.f; d = g.d; A = g.A; T = g.T; nh = suc g.d; nt = g.nt; fh = g.fh; w = g.w; at = g.at; start = g.start; base = g.base }

abbrev pub g_leave : Ghost → Ghost
g_leave g = record { f = g.f; d = suc g.d; A = g.A; T = g.T; nh = g.nh; nt = g.nt; fh = g.fh; w = g.w; at = g.at; start = g.start; base = g.base }

abbrev pub g_claim : Ghost → Ghost
g_claim g = record { f = g.f; d = g.d; A = g.A; T = g.T; nh = g.nh; nt = g.nt; fh = suc g.f; w = g.w; at = g.at; start = g.start; base = g.base }

abbrev pub g_link : Ghost → Ghost
g_link g = record { f = g.f; d = g.d; A = g.A; T = g.T; nh = g.nh; nt = suc g.f; fh = g.fh; w = g.w; at = g.at; start = g.start; base = g.base }

abbrev pub g_enter : Ghost → ℕ → Ghost
g_enter g b = record { f = suc g.f; d = g.d; A = g.A; T = g.T; nh = g.nh; nt = g.nt; fh = g.fh; w = g.w; at = g.at; start = changed g.start (suc g.f) g.A; base = changed g.base (suc g.f) b }

pub record Numbers (R N : ℕ) (g : Ghost) : Type 0 where
  pub df : g.d ≤ g.f
  pub fR : g.f < g.d + R
  pub TA : g.T ≤ g.A
  pub dT : g.start g.d ≤ g.T
  pub fA : g.start g.f ≤ g.A
  pub Td : g.d < g.f → g.T ≤ g.start (suc g.d)
  pub nh1 : g.d ≤ g.nh
  pub nh2 : g.nh ≤ suc g.d
  pub nhf : g.nh ≤ g.f
  pub nt1 : g.f ≤ g.nt
  pub nt2 : g.nt ≤ g.fh
  pub fh2 : g.fh ≤ suc g.f
  pub fhR : g.fh < g.d + R

-- the visits' first items
pub record Visits (R N : ℕ) (g : Ghost) : Type 0 where
  pub rising : (k : ℕ) → g.d ≤ k → k < g.f → g.start k < g.start (suc k)
  pub full : (k : ℕ) → g.d < k → k < g.f → g.start k + N ≤ g.start (suc k)
  pub placed : (k i : ℕ) → g.d ≤ k → k ≤ g.f → g.start k ≤ i → (k < g.f → i < g.start (suc k)) → g.T ≤ i → i < g.A → g.at i ≡ cell R N k ((g.base k + i) % N)

module _ (I : Interface) (R N : ℕ) where
  pub record Items (g : Ghost) (m : I.M) : Type 0 where
    pub filled : (i : ℕ) → g.T ≤ i → i < g.A → Filled Feeder (g.w i) (I.view m (g.at i))
    pub item : (i : ℕ) → g.T ≤ i → i < g.A → g.w i ≡ 0 → ⊥
    pub below : (i : ℕ) → g.T ≤ i → i < g.A → g.at i < R * N
    pub apart : (i j : ℕ) → g.T ≤ i → i < j → j < g.A → g.at i ≡ g.at j → ⊥
    pub vacant : (a : ℕ) → a < R * N → ((i : ℕ) → g.T ≤ i → i < g.A → g.at i ≡ a → ⊥) → Vacant Drawer (I.view m a)
    pub calm : (k p : ℕ) → g.d < k → k ≤ g.f → p < N → ((i : ℕ) → g.T ≤ i → i < g.A → g.at i ≡ cell R N k p → ⊥) → I.view m (cell R N k p) ≡ rest 0
    pub ordered : (i j : ℕ) → g.T ≤ i → i < j → j < g.A → I.Holds Feeder m (g.at i) (g.w i) (g.at j) (g.w j)

  pub record Next (nh nt : ℕ) (m : I.M) : Type 0 where
    pub next_filled : (k : ℕ) → nh ≤ k → k < nt → Filled Feeder (visit_word R (suc k)) (I.view m (next_slot R N k))
    pub next_vacant : (k : ℕ) → nt ≤ k → k < nh + R → Vacant Drawer (I.view m (next_slot R N k))

  pub record Free (fh d : ℕ) (m : I.M) : Type 0 where
    pub free_filled : (k : ℕ) → fh ≤ k → suc k < d + R → Filled Drawer (visit_word R (suc k)) (I.view m (free_slot R N k))
    pub free_vacant : (k : ℕ) → d + R ≤ suc k → k < fh + R → Vacant Feeder (I.view m (free_slot R N k))
    pub free_rest : (k : ℕ) → suc k ≡ d + R → I.view m (free_slot R N k) ≡ rest 0

  pub record Order (g : Ghost) (m : I.M) : Type 0 where
    pub item_mark : (i k : ℕ) → g.T ≤ i → i < g.A → g.d < k → k ≤ g.f → i < g.start k → I.Holds Feeder m (g.at i) (g.w i) (mark R N) (visit_word R k)
    pub mark_item : (k i : ℕ) → g.d < k → k ≤ g.f → g.start k ≤ i → i < g.A → I.Holds Feeder m (mark R N) (visit_word R k) (g.at i) (g.w i)
    pub next_item : (k i : ℕ) → g.nh ≤ k → k < g.f → g.start (suc k) ≤ i → i < g.A → I.Holds Feeder m (next_slot R N k) (visit_word R (suc k)) (g.at i) (g.w i)
    pub clear_next : (k : ℕ) → g.nh ≤ k → k < g.nt → I.Holds Feeder m (free_slot R N k) 0 (next_slot R N k) (visit_word R (suc k))
    pub cell_free : (k p : ℕ) → g.fh ≤ k → suc k < g.d + R → p < N → I.Holds Drawer m (cell R N (suc k) p) 0 (free_slot R N k) (visit_word R (suc k))
    pub next_free : (k : ℕ) → g.fh ≤ k → suc k < g.d + R → I.Holds Drawer m (next_slot R N k) 0 (free_slot R N k) (visit_word R (suc k))

  pub record Core (g : Ghost) (m : I.M) : Type 0 where
    pub numbers : Numbers R N g
    pub visits : Visits R N g
    pub items : Items g m
    pub next : Next g.nh g.nt m
    pub free : Free g.fh g.d m
    pub marked : Marked R g.f g.d (I.view m (mark R N))
    pub order : Order g m

  -- a frame over everything keeps all of it
  module _ (m n : I.M) where
    pub items_frame : 2 ≤ R → (g : Ghost) (Q : ℕ → Type 0) → Frame I R Q m n → ((a : ℕ) → a < R * N → Q a) → Items g m → Items g n
    items_frame R2 g Q fr q c = record {
      filled = λ i p r. (fr.keeps (g.at i) (q (g.at i) (c.below i p r))).filled Feeder (g.w i) (c.filled i p r);
      item = c.item;
      below = c.below;
      apart = c.apart;
      vacant = λ a l h. (fr.keeps a (q a l)).vacant Drawer (c.vacant a l h);
      calm = λ k p a b l h. (fr.keeps (cell R N k p) (q (cell R N k p) (cell< R R2 N k p l))).rest 0 (c.calm k p a b l h);
      ordered = λ i j p r s. fr.holds Feeder (g.at i) (g.w i) (g.at j) (g.w j) (q (g.at i) (c.below i p (omega arith))) (c.ordered i j p r s);
    }

    pub next_frame : (nh nt : ℕ) (Q : ℕ → Type 0) → Frame I R Q m n → ((k : ℕ) → Q (next_slot R N k)) → Next nh nt m → Next nh nt n
    next_frame nh nt Q fr q c = record {
      next_filled = λ k p r. (fr.keeps (next_slot R N k) (q k)).filled Feeder (visit_word R (suc k)) (c.next_filled k p r);
      next_vacant = λ k p r. (fr.keeps (next_slot R N k) (q k)).vacant Drawer (c.next_vacant k p r);
    }

    pub free_frame : (fh d : ℕ) (Q : ℕ → Type 0) → Frame I R Q m n → ((k : ℕ) → Q (free_slot R N k)) → Free fh d m → Free fh d n
    free_frame fh d Q fr q c = record {
      free_filled = λ k p r. (fr.keeps (free_slot R N k) (q k)).filled Drawer (visit_word R (suc k)) (c.free_filled k p r);
      free_vacant = λ k p r. (fr.keeps (free_slot R N k) (q k)).vacant Feeder (c.free_vacant k p r);
      free_rest = λ k p. (fr.keeps (free_slot R N k) (q k)).rest 0 (c.free_rest k p);
    }

    pub mark_frame : (Q : ℕ → Type 0) → Frame I R Q m n → Q (mark R N) → (hi lo : ℕ) → Marked R hi lo (I.view m (mark R N)) → Marked R hi lo (I.view n (mark R N))
    mark_frame Q fr q hi lo = (fr.keeps (mark R N) q).marked hi lo

    pub order_frame : (g : Ghost) (Q : ℕ → Type 0) → Frame I R Q m n
        → ((i : ℕ) → g.T ≤ i → i < g.A → Q (g.at i)) → Q (mark R N)
        → ((k : ℕ) → g.nh ≤ k → k < g.nt → Q (next_slot R N k)) → ((k : ℕ) → g.nh ≤ k → k < g.nt → Q (free_slot R N k))
        → ((k p : ℕ) → g.fh ≤ k → suc k < g.d + R → p < N → Q (cell R N (suc k) p)) → ((k : ℕ) → g.fh ≤ k → suc k < g.d + R → Q (next_slot R N k))
        → g.f ≤ g.nt → Order g m → Order g n
    order_frame g Q fr qi qm qn qf qc qx l c = record {
      item_mark = λ i k p q r s t. fr.holds Feeder (g.at i) (g.w i) (mark R N) (visit_word R k) (qi i p q) (c.item_mark i k p q r s t);
      mark_item = λ k i p q r s. fr.holds Feeder (mark R N) (visit_word R k) (g.at i) (g.w i) qm (c.mark_item k i p q r s);
      next_item = λ k i p q r s. fr.holds Feeder (next_slot R N k) (visit_word R (suc k)) (g.at i) (g.w i) (qn k p (omega arith)) (c.next_item k i p q r s);
      clear_next = λ k p q. fr.holds Feeder (free_slot R N k) 0 (next_slot R N k) (visit_word R (suc k)) (qf k p q) (c.clear_next k p q);
      cell_free = λ k p q r s. fr.holds Drawer (cell R N (suc k) p) 0 (free_slot R N k) (visit_word R (suc k)) (qc k p q r s) (c.cell_free k p q r s);
      next_free = λ k p q. fr.holds Drawer (next_slot R N k) 0 (free_slot R N k) (visit_word R (suc k)) (qx k p q) (c.next_free k p q);
    }

    pub core_frame : 2 ≤ R → (g : Ghost) → Frame I R (λ _. Unit {0}) m n → Core g m → Core g n
    core_frame R2 g fr c = record {
      numbers = c.numbers;
      visits = c.visits;
      items = items_frame R2 g (λ _. Unit {0}) fr (λ a _. tt) c.items;
      next = next_frame g.nh g.nt (λ _. Unit {0}) fr (λ a. tt) c.next;
      free = free_frame g.fh g.d (λ _. Unit {0}) fr (λ a. tt) c.free;
      marked = mark_frame (λ _. Unit {0}) fr tt g.f g.d c.marked;
      order = order_frame g (λ _. Unit {0}) fr (λ _ _ _. tt) tt (λ _ _ _. tt) (λ _ _ _. tt) (λ _ _ _ _ _. tt) (λ _ _ _. tt) c.numbers.nt1 c.order;
    }
