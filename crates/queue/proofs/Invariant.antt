-- The whole invariant, and what keeps it.
use Rattle.std.proofs.Common.{◌≡◌, ℕ, suc, ◌+◌, ◌-◌, ◌*◌, ◌%◌, ◌<◌, ◌≤◌, sym, refl, ap, ◌∙◌, mod-lt, arith}
use Rattle.memory.specs.declared.Side.{Side}
use Rattle.memory.specs.declared.Side.TheVariants.{Feeder, Drawer}
use Rattle.queue.proofs.Views.{rest, ring, visit_word}
use Rattle.queue.specs.Waiting.{View}
use Rattle.queue.proofs.Interface.{Interface, Frame, frame_bar, frame_lands}
use Rattle.queue.proofs.Addresses.{cell, next_slot, free_slot, mark, cell_is, next_slot_is, free_slot_is, visit_word_filled}
use Rattle.queue.proofs.Core.{Ghost, Core, core_frame}
use Rattle.queue.proofs.Positions.{Pos}
use Rattle.queue.proofs.Steps.{Places, Putting, Taking, own_cell, next_cell, free_cell}
use Rattle.queue.proofs.Facts.{FFacts, DFacts, FKeep, DKeep, f_keep, d_keep}

pub rest_apart : (I : Interface) (m : I.M) (a b u v : ℕ) → I.view m a ≡ rest u → I.view m b ≡ rest v → (u ≡ v → ⊥) → a ≡ b → ⊥
rest_apart I m a b u v p q ne e = ne (ap (λ (x : View). x.word) (sym p ∙ (ap (I.view m) e ∙ q)))

module _ (I : Interface) (Item : ℕ → Type 0) (R N : ℕ) where
  -- E, S: of the state met at T1. C, K: of the state met at P1
  pub record Inv (E S C K : Type 0) (g : Ghost) (p : Places) (s : Putting) (q : Places) (t : Taking) (m : I.M) : Type 0 where
    pub core : Core I R N g m
    pub kinds : (i : ℕ) → g.T ≤ i → i < g.A → Item (g.w i)
    pub f_ring : p.own ≡ ring R g.f
    pub f_next : p.next ≡ ring R g.nt
    pub f_free : p.free ≡ ring R g.fh
    pub d_ring : q.own ≡ ring R g.d
    pub d_next : q.next ≡ ring R g.nh
    pub d_free : q.free ≡ ring R (g.d + (R - 1))
    pub pos : Pos R N g p.at q.at
    pub ff : FFacts I Item R N g.f g.A g.nt g.fh g.start g.base C K g.d m s
    pub dd : DFacts I Item R N g.d g.T g.nh E S g.f g.A g.start (g.at g.T) (g.w g.T) m t

  module _ (E S C K : Type 0) (g : Ghost) (p : Places) (s : Putting) (q : Places) (t : Taking) (m : I.M) (c : Inv E S C K g p s q t m) where
    pub feeder_own_at : own_cell R N p ≡ cell R N g.f ((g.base g.f + g.A) % N)
    feeder_own_at = ap (λ (r : ℕ). r * N + p.at r) c.f_ring ∙ (ap (λ (x : ℕ). ring R g.f * N + x) c.pos.f_own ∙ sym (cell_is R N g.f ((g.base g.f + g.A) % N)))

    pub drawer_own_at : own_cell R N q ≡ cell R N g.d ((g.base g.d + g.T) % N)
    drawer_own_at = ap (λ (r : ℕ). r * N + q.at r) c.d_ring ∙ (ap (λ (x : ℕ). ring R g.d * N + x) c.pos.d_own ∙ sym (cell_is R N g.d ((g.base g.d + g.T) % N)))

    pub f_next_at : next_cell R N p ≡ next_slot R N g.nt
    f_next_at = ap (λ (x : ℕ). R * N + x) c.f_next ∙ sym (next_slot_is R N g.nt)

    pub f_free_at : free_cell R N p ≡ free_slot R N g.fh
    f_free_at = ap (λ (x : ℕ). R * N + R + x) c.f_free ∙ sym (free_slot_is R N g.fh)

    pub d_next_at : next_cell R N q ≡ next_slot R N g.nh
    d_next_at = ap (λ (x : ℕ). R * N + x) c.d_next ∙ sym (next_slot_is R N g.nh)

    pub d_free_at : free_cell R N q ≡ free_slot R N (g.d + (R - 1))
    d_free_at = ap (λ (x : ℕ). R * N + R + x) c.d_free ∙ sym (free_slot_is R N (g.d + (R - 1)))

  -- what a landing or a bar keeps
  module _ (R2 : 2 ≤ R) (N1 : 1 ≤ N) (m n : I.M) (fr : Frame I R (λ _. Unit {0}) m n) (sl : (x : Side) → I.Sealed x m → I.Sealed x n) (bt : (x : Side) (a v : ℕ) → I.SealedBut x m a v → I.SealedBut x n a v) where
    small : (x : ℕ) → x % N < N
    small x = mod-lt x (omega arith)

    pub quiet_f : (f A nt fh : ℕ) (start base : ℕ → ℕ) (d : ℕ) → FKeep I Item R N f A nt fh start base d d m n
    quiet_f f A nt fh start base d = record { more = omega arith; bare = λ a _. (fr.keeps a tt).rest 0; shown = λ k v _. (fr.keeps (free_slot R N k) tt).rest v; sealed = sl Feeder; but = bt Feeder }

    pub quiet_d : (d T nh f A : ℕ) (start : ℕ → ℕ) (a v : ℕ) → DKeep I Item R N d T nh f A start a v m f A start a v n
    quiet_d d T nh f A start a v = record { more = omega arith; mine = refl; ahead = λ _. refl; within = λ _ h l. h l; passed = (fr.keeps (mark R N) tt).marked f (suc d); item = λ _. (fr.keeps a tt).rest v; word = λ _. refl; linked = (fr.keeps (next_slot R N d) tt).rest (visit_word R (suc d)); cleared = (fr.keeps (free_slot R N d) tt).rest 0; sealed = sl Drawer }

    -- stages the same, both sides'
    pub quiet : (E S C K : Type 0) (g : Ghost) (p : Places) (s : Putting) (q : Places) (t : Taking) → Inv E S C K g p s q t m → Inv E S C K g p s q t n
    quiet E S C K g p s q t c = record {
      core = core_frame I R N m n R2 g fr c.core;
      kinds = c.kinds;
      f_ring = c.f_ring;
      f_next = c.f_next;
      f_free = c.f_free;
      d_ring = c.d_ring;
      d_next = c.d_next;
      d_free = c.d_free;
      pos = c.pos;
      ff = f_keep I Item R N g.f g.A g.nt g.fh g.start g.base R2 N1 small g.d g.d m n (quiet_f g.f g.A g.nt g.fh g.start g.base g.d) (visit_word_filled R R2 (suc g.f)) C K s c.ff;
      dd = d_keep I Item R N g.d g.T g.nh g.f g.A g.start (g.at g.T) (g.w g.T) m g.f g.A g.start (g.at g.T) (g.w g.T) n (quiet_d g.d g.T g.nh g.f g.A g.start (g.at g.T) (g.w g.T)) E S t c.dd;
    }

  -- every landing keeps the invariant
  module _ (R2 : 2 ≤ R) (N1 : 1 ≤ N) where
    pub inv_lands : (x : Side) (a w : ℕ) (m n : I.M) → I.Land x a w m n → (E S C K : Type 0) (g : Ghost) (p : Places) (s : Putting) (q : Places) (t : Taking) → Inv E S C K g p s q t m → Inv E S C K g p s q t n
    inv_lands x a w m n l = quiet R2 N1 m n (frame_lands I R x a w m n l) (λ y. I.land_sealed x a w m n l y) (λ y b v. I.land_but x a w m n l y b v)

    pub inv_bar : (x : Side) (m n : I.M) → I.Bar x m n → (E S C K : Type 0) (g : Ghost) (p : Places) (s : Putting) (q : Places) (t : Taking) → Inv E S C K g p s q t m → Inv E S C K g p s q t n
    inv_bar x m n l = quiet R2 N1 m n (frame_bar I R x m n l) (λ y. I.bar_keeps x m n l y) (λ y b v. I.bar_but x m n l y b v)
