-- The lane: its two sides and their steps.
use Rattle.std.proofs.Common.{◌≡◌, ℕ, suc, ◌+◌, ◌*◌, ◌<◌, cond, eqb}
use Rattle.memory.specs.declared.Side.{Side}
use Rattle.memory.specs.declared.Side.TheVariants.{Feeder, Drawer}

-- the next place in a list of n that goes round
abbrev pub moved_on : ℕ → ℕ → ℕ
moved_on n p = cond (eqb (suc p) n) 0 (suc p)

-- a function changed at one place
abbrev pub changed : (ℕ → ℕ) → ℕ → ℕ → ℕ → ℕ
changed g k x i = cond (eqb i k) x (g i)

-- where a put stands: the word offered, and the ring that it found free
pub data Putting : Type 0 where
  idle : Putting
  p1 p2 p7 p8 : ℕ → Putting
  p3 p4 p5 p6 : ℕ → ℕ → Putting

-- where a take stands: the ring that it found next, or the word that it saw
pub data Taking : Type 0 where
  idle t1 t2 t3 t4 t8 : Taking
  t5 t6 t7 t9 : ℕ → Taking

-- a side's own ring, its places in the rings, and in the next and the free list
pub record Places : Type 0 where
  pub own : ℕ
  pub at : ℕ → ℕ
  pub next : ℕ
  pub free : ℕ

pub data Out : Type 0 where
  on : Out
  accepted : ℕ → Out
  no_ring : ℕ → Out
  taken : ℕ → Out
  empty : Out
  damaged : Out

abbrev pub own_cell : ℕ → ℕ → Places → ℕ
own_cell R N p = p.own * N + p.at p.own

abbrev pub next_cell : ℕ → ℕ → Places → ℕ
next_cell R N p = R * N + p.next

abbrev pub free_cell : ℕ → ℕ → Places → ℕ
free_cell R N p = R * N + R + p.free

abbrev pub mark_cell : ℕ → ℕ → ℕ
mark_cell R N = R * N + R + R

abbrev pub on_free : ℕ → Places → Places
on_free R p = record { own = p.own; at = p.at; next = p.next; free = moved_on R p.free }

abbrev pub on_next : ℕ → Places → Places
on_next R p = record { own = p.own; at = p.at; next = moved_on R p.next; free = p.free }

abbrev pub on_own : ℕ → Places → Places
on_own N p = record { own = p.own; at = changed p.at p.own (moved_on N (p.at p.own)); next = p.next; free = p.free }

abbrev pub into : ℕ → Places → Places
into n p = record { own = n; at = p.at; next = p.next; free = p.free }

-- a word that is no ring below R
abbrev pub NamesNoRing : ℕ → ℕ → Type 0
NamesNoRing R v = (n : ℕ) → n < R → v ≡ suc n → ⊥

-- the steps of the two tables, over what a memory answers and does
module _ (M : Type 0) (look : Side → ℕ → M → ℕ) (Store : Side → ℕ → ℕ → M → M → Type 0) (Bar : Side → M → M → Type 0) (Item : ℕ → Type 0) (R N : ℕ) where
  pub data FeedsOver : Places → Putting → M → Places → Putting → M → Out → Type 0 where
    begin : {p : Places} {m : M} (x : ℕ) → Item x → FeedsOver p idle m p (p1 x) m on
    p1_bare : {p : Places} {m : M} {x : ℕ} → look Feeder (own_cell R N p) m ≡ 0 → FeedsOver p (p1 x) m p (p7 x) m on
    p1_full : {p : Places} {m : M} {x : ℕ} → (look Feeder (own_cell R N p) m ≡ 0 → ⊥) → FeedsOver p (p1 x) m p (p2 x) m on
    p2_bare : {p : Places} {m : M} {x : ℕ} → look Feeder (free_cell R N p) m ≡ 0 → FeedsOver p (p2 x) m p idle m (no_ring x)
    p2_ring : {p : Places} {m : M} {x : ℕ} (n : ℕ) → n < R → look Feeder (free_cell R N p) m ≡ suc n → FeedsOver p (p2 x) m p (p3 x n) m on
    p2_bad : {p : Places} {m : M} {x : ℕ} → (look Feeder (free_cell R N p) m ≡ 0 → ⊥) → NamesNoRing R (look Feeder (free_cell R N p) m) → FeedsOver p (p2 x) m p idle m damaged
    p3_step : {p : Places} {m n : M} {x k : ℕ} → Store Feeder (free_cell R N p) 0 m n → FeedsOver p (p3 x k) m (on_free R p) (p4 x k) n on
    p4_step : {p : Places} {m n : M} {x k : ℕ} → Bar Feeder m n → FeedsOver p (p4 x k) m p (p5 x k) n on
    p5_step : {p : Places} {m n : M} {x k : ℕ} → Store Feeder (next_cell R N p) (suc k) m n → FeedsOver p (p5 x k) m (on_next R p) (p6 x k) n on
    p6_step : {p : Places} {m n : M} {x k : ℕ} → Store Feeder (mark_cell R N) (suc k) m n → FeedsOver p (p6 x k) m (into k p) (p7 x) n on
    p7_step : {p : Places} {m n : M} {x : ℕ} → Bar Feeder m n → FeedsOver p (p7 x) m p (p8 x) n on
    p8_step : {p : Places} {m n : M} {x : ℕ} → Store Feeder (own_cell R N p) x m n → FeedsOver p (p8 x) m (on_own N p) idle n (accepted x)

  pub data DrawsOver : Places → Taking → M → Places → Taking → M → Out → Type 0 where
    begin : {p : Places} {m : M} → DrawsOver p idle m p t1 m on
    t1_bare : {p : Places} {m : M} → look Drawer (own_cell R N p) m ≡ 0 → DrawsOver p t1 m p t2 m on
    t1_item : {p : Places} {m : M} → Item (look Drawer (own_cell R N p) m) → DrawsOver p t1 m p (t9 (look Drawer (own_cell R N p) m)) m on
    t1_bad : {p : Places} {m : M} → (look Drawer (own_cell R N p) m ≡ 0 → ⊥) → (Item (look Drawer (own_cell R N p) m) → ⊥) → DrawsOver p t1 m p idle m damaged
    t2_own : {p : Places} {m : M} → look Drawer (mark_cell R N) m ≡ suc p.own → DrawsOver p t2 m p idle m empty
    t2_other : {p : Places} {m : M} (n : ℕ) → n < R → look Drawer (mark_cell R N) m ≡ suc n → (n ≡ p.own → ⊥) → DrawsOver p t2 m p t3 m on
    t2_bad : {p : Places} {m : M} → NamesNoRing R (look Drawer (mark_cell R N) m) → DrawsOver p t2 m p idle m damaged
    t3_bare : {p : Places} {m : M} → look Drawer (own_cell R N p) m ≡ 0 → DrawsOver p t3 m p t4 m on
    t3_item : {p : Places} {m : M} → Item (look Drawer (own_cell R N p) m) → DrawsOver p t3 m p (t9 (look Drawer (own_cell R N p) m)) m on
    t3_bad : {p : Places} {m : M} → (look Drawer (own_cell R N p) m ≡ 0 → ⊥) → (Item (look Drawer (own_cell R N p) m) → ⊥) → DrawsOver p t3 m p idle m damaged
    t4_bare : {p : Places} {m : M} → look Drawer (next_cell R N p) m ≡ 0 → DrawsOver p t4 m p idle m empty
    t4_ring : {p : Places} {m : M} (n : ℕ) → n < R → look Drawer (next_cell R N p) m ≡ suc n → DrawsOver p t4 m p (t5 n) m on
    t4_bad : {p : Places} {m : M} → (look Drawer (next_cell R N p) m ≡ 0 → ⊥) → NamesNoRing R (look Drawer (next_cell R N p) m) → DrawsOver p t4 m p idle m damaged
    t5_step : {p : Places} {m n : M} {k : ℕ} → Store Drawer (next_cell R N p) 0 m n → DrawsOver p (t5 k) m (on_next R p) (t6 k) n on
    t6_step : {p : Places} {m n : M} {k : ℕ} → Bar Drawer m n → DrawsOver p (t6 k) m p (t7 k) n on
    t7_step : {p : Places} {m n : M} {k : ℕ} → Store Drawer (free_cell R N p) (suc p.own) m n → DrawsOver p (t7 k) m (into k (on_free R p)) t8 n on
    t8_bare : {p : Places} {m : M} → look Drawer (own_cell R N p) m ≡ 0 → DrawsOver p t8 m p idle m empty
    t8_item : {p : Places} {m : M} → Item (look Drawer (own_cell R N p) m) → DrawsOver p t8 m p (t9 (look Drawer (own_cell R N p) m)) m on
    t8_bad : {p : Places} {m : M} → (look Drawer (own_cell R N p) m ≡ 0 → ⊥) → (Item (look Drawer (own_cell R N p) m) → ⊥) → DrawsOver p t8 m p idle m damaged
    t9_step : {p : Places} {m n : M} {x : ℕ} → Store Drawer (own_cell R N p) 0 m n → DrawsOver p (t9 x) m (on_own N p) idle n (taken x)
