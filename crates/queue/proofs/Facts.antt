-- What is known at each step of a call.
use Rattle.std.proofs.Common.{◌≡◌, ℕ, suc, ◌+◌, ◌*◌, ◌%◌, ◌<◌, ◌≤◌, ◌⊎◌, sym, ◌∙◌, inl, inr, arith}
use Rattle.memory.specs.declared.Side.TheVariants.{Feeder, Drawer}
use Rattle.queue.proofs.Views.{rest, Marked, ring, visit_word}
use Rattle.queue.proofs.Interface.{Interface}
use Rattle.queue.proofs.Addresses.{cell, next_slot, free_slot, mark, cell<, next_slot<}
use Rattle.queue.proofs.Steps.{Putting, Taking, Putting.idle, Putting.p1, Putting.p2, Putting.p3, Putting.p4, Putting.p5, Putting.p6, Putting.p7, Putting.p8, Taking.idle as tidle, Taking.t1, Taking.t2, Taking.t3, Taking.t4, Taking.t5, Taking.t6, Taking.t7, Taking.t8, Taking.t9}

module _ (I : Interface) (Item : ℕ → Type 0) (R N : ℕ) where
  module _ (f A nt fh : ℕ) (start base : ℕ → ℕ) where
    abbrev own : ℕ
    own = cell R N f ((base f + A) % N)

    pub record Settled (m : I.M) : Type 0 where
      pub t : nt ≡ f
      pub h : fh ≡ f
      pub fresh : (start f < A) ⊎ (I.view m (cell R N f ((base f + A) % N)) ≡ rest 0)

    -- the own ring is left
    pub record Leaves (d : ℕ) : Type 0 where
      pub some : start f < A
      pub full : d < f → start f + N ≤ A

    pub record Chose (d k : ℕ) (m : I.M) : Type 0 where
      pub leaves : Leaves d
      pub is : k ≡ ring R (suc f)
      pub ready : (p : ℕ) → p < N → I.view m (cell R N (suc f) p) ≡ rest 0

    pub record Bare (m : I.M) : Type 0 where
      pub t : nt ≡ f
      pub h : fh ≡ f
      pub bare : I.view m (cell R N f ((base f + A) % N)) ≡ rest 0

    -- C: no store waited at P1. K: (R - 1) × N items were untaken there
    abbrev pub FFacts : Type 0 → Type 0 → ℕ → I.M → Putting → Type 0
    FFacts C K d m idle = Settled m
    FFacts C K d m (p1 x) = Item x × Settled m
    FFacts C K d m (p2 x) = Item x × (nt ≡ f) × (fh ≡ f) × Leaves d × (C → K ⊎ ((suc f < d + R) × (I.view m (free_slot R N f) ≡ rest (visit_word R (suc f)))))
    FFacts C K d m (p3 x k) = Item x × (nt ≡ f) × (fh ≡ f) × Chose d k m × (suc f < d + R) × (I.view m (free_slot R N f) ≡ rest (visit_word R (suc f))) × (I.view m (next_slot R N f) ≡ rest 0)
    FFacts C K d m (p4 x k) = Item x × (nt ≡ f) × (fh ≡ suc f) × Chose d k m × (I.view m (next_slot R N f) ≡ rest 0)
    FFacts C K d m (p5 x k) = Item x × (nt ≡ f) × (fh ≡ suc f) × Chose d k m × (I.view m (next_slot R N f) ≡ rest 0) × I.Sealed Feeder m
    FFacts C K d m (p6 x k) = Item x × (nt ≡ suc f) × Chose d k m × I.SealedBut Feeder m (next_slot R N f) (visit_word R (suc f))
    FFacts C K d m (p7 x) = Item x × Bare m
    FFacts C K d m (p8 x) = Item x × Bare m × I.Sealed Feeder m

    -- what the drawer's steps and landings keep for the feeder
    pub record FKeep (d e : ℕ) (m n : I.M) : Type 0 where
      pub more : d ≤ e
      pub bare : (a : ℕ) → a < R * N + R → I.view m a ≡ rest 0 → I.view n a ≡ rest 0
      pub shown : (k v : ℕ) → (v ≡ 0 → ⊥) → I.view m (free_slot R N k) ≡ rest v → I.view n (free_slot R N k) ≡ rest v
      pub sealed : I.Sealed Feeder m → I.Sealed Feeder n
      pub but : (a v : ℕ) → I.SealedBut Feeder m a v → I.SealedBut Feeder n a v

    module _ (R2 : 2 ≤ R) (N1 : 1 ≤ N) (small : (x : ℕ) → x % N < N) (d e : ℕ) (m n : I.M) (q : FKeep d e m n) (nz : visit_word R (suc f) ≡ 0 → ⊥) where
      keep_settled : Settled m → Settled n
      keep_settled c = record { t = c.t; h = c.h; fresh = elim c.fresh [ inl h ↦ inl h | inr h ↦ inr (q.bare (cell R N f ((base f + A) % N)) (omega (arith, cell< R R2 N f ((base f + A) % N) (small (base f + A)))) h) ] }

      keep_leaves : Leaves d → Leaves e
      keep_leaves c = record { some = c.some; full = λ l. c.full (omega (arith, q.more)) }

      keep_chose : (k : ℕ) → Chose d k m → Chose e k n
      keep_chose k c = record { leaves = keep_leaves c.leaves; is = c.is; ready = λ p l. q.bare (cell R N (suc f) p) (omega (arith, cell< R R2 N (suc f) p l)) (c.ready p l) }

      keep_bare : Bare m → Bare n
      keep_bare c = record { t = c.t; h = c.h; bare = q.bare (cell R N f ((base f + A) % N)) (omega (arith, cell< R R2 N f ((base f + A) % N) (small (base f + A)))) c.bare }

      keep_next : I.view m (next_slot R N f) ≡ rest 0 → I.view n (next_slot R N f) ≡ rest 0
      keep_next h = q.bare (next_slot R N f) (next_slot< R R2 N f) h

      pub f_keep : (C K : Type 0) (s : Putting) → FFacts C K d m s → FFacts C K e n s
      f_keep C K idle c = keep_settled c
      f_keep C K (p1 x) (i, c) = (i, keep_settled c)
      f_keep C K (p2 x) (i, t, h, c, r) = (i, t, h, keep_leaves c, λ y. elim (r y) [ inl z ↦ inl z | inr z ↦ inr (omega (arith, q.more, z.0), q.shown f (visit_word R (suc f)) nz z.1) ])
      f_keep C K (p3 x k) (i, t, h, c, r, s, u) = (i, t, h, keep_chose k c, omega (arith, q.more), q.shown f (visit_word R (suc f)) nz s, keep_next u)
      f_keep C K (p4 x k) (i, t, h, c, u) = (i, t, h, keep_chose k c, keep_next u)
      f_keep C K (p5 x k) (i, t, h, c, u, s) = (i, t, h, keep_chose k c, keep_next u, q.sealed s)
      f_keep C K (p6 x k) (i, t, c, s) = (i, t, keep_chose k c, q.but (next_slot R N f) (visit_word R (suc f)) s)
      f_keep C K (p7 x) (i, c) = (i, keep_bare c)
      f_keep C K (p8 x) (i, c, s) = (i, keep_bare c, q.sealed s)

  module _ (d T nh : ℕ) where
    -- the drawer's side: a and v are the oldest untaken item's address and word
    pub record Within (f A : ℕ) (start : ℕ → ℕ) : Type 0 where
      pub some : T < A
      pub within : d < f → T < start (suc d)

    pub record Moving (f A : ℕ) (start : ℕ → ℕ) (k : ℕ) (m : I.M) : Type 0 where
      pub passed : Marked R f (suc d) (I.view m (mark R N))
      pub done : T ≡ start (suc d)
      pub is : k ≡ ring R (suc d)
      pub cleared : I.view m (free_slot R N d) ≡ rest 0

    -- E: no untaken item had arrived at T1. S: some had
    abbrev pub Arr : Type 0 → ℕ → ℕ → ℕ → I.M → Type 0
    Arr S A a v m = S → (T < A) × (I.view m a ≡ rest v)

    abbrev pub DFacts : Type 0 → Type 0 → ℕ → ℕ → (ℕ → ℕ) → ℕ → ℕ → I.M → Taking → Type 0
    DFacts E S f A start a v m tidle = nh ≡ d
    DFacts E S f A start a v m t1 = nh ≡ d
    DFacts E S f A start a v m t2 = (nh ≡ d) × (E ⊎ Marked R f (suc d) (I.view m (mark R N))) × Arr S A a v m
    DFacts E S f A start a v m t3 = (nh ≡ d) × Marked R f (suc d) (I.view m (mark R N)) × Arr S A a v m
    DFacts E S f A start a v m t4 = (nh ≡ d) × Marked R f (suc d) (I.view m (mark R N)) × (T ≡ start (suc d)) × Arr S A a v m
    DFacts E S f A start a v m (t5 k) = (nh ≡ d) × Moving f A start k m × (I.view m (next_slot R N d) ≡ rest (visit_word R (suc d))) × Arr S A a v m
    DFacts E S f A start a v m (t6 k) = (nh ≡ suc d) × Moving f A start k m × Arr S A a v m
    DFacts E S f A start a v m (t7 k) = (nh ≡ suc d) × Moving f A start k m × I.Sealed Drawer m × Arr S A a v m
    DFacts E S f A start a v m t8 = (nh ≡ d) × (T ≡ start d) × Arr S A a v m
    DFacts E S f A start a v m (t9 x) = (nh ≡ d) × Within f A start × (x ≡ v) × (I.view m a ≡ rest v)

    -- what the feeder's steps and landings keep for the drawer
    pub record DKeep (f A : ℕ) (start : ℕ → ℕ) (a v : ℕ) (m : I.M) (f' A' : ℕ) (start' : ℕ → ℕ) (a' v' : ℕ) (n : I.M) : Type 0 where
      pub more : A ≤ A'
      pub mine : start' d ≡ start d
      pub ahead : d < f → start' (suc d) ≡ start (suc d)
      pub within : T < A → (d < f → T < start (suc d)) → d < f' → T < start' (suc d)
      pub passed : Marked R f (suc d) (I.view m (mark R N)) → Marked R f' (suc d) (I.view n (mark R N))
      pub item : T < A → I.view m a ≡ rest v → I.view n a' ≡ rest v'
      pub word : T < A → v' ≡ v
      pub linked : I.view m (next_slot R N d) ≡ rest (visit_word R (suc d)) → I.view n (next_slot R N d) ≡ rest (visit_word R (suc d))
      pub cleared : I.view m (free_slot R N d) ≡ rest 0 → I.view n (free_slot R N d) ≡ rest 0
      pub sealed : I.Sealed Drawer m → I.Sealed Drawer n

    module _ (f A : ℕ) (start : ℕ → ℕ) (a v : ℕ) (m : I.M) (f' A' : ℕ) (start' : ℕ → ℕ) (a' v' : ℕ) (n : I.M) (q : DKeep f A start a v m f' A' start' a' v' n) where
      ahead_of : Marked R f (suc d) (I.view m (mark R N)) → d < f
      ahead_of h = omega (arith, h.low, h.ends)

      keep_moving : (k : ℕ) → Moving f A start k m → Moving f' A' start' k n
      keep_moving k c = record { passed = q.passed c.passed; done = c.done ∙ sym (q.ahead (ahead_of c.passed)); is = c.is; cleared = q.cleared c.cleared }

      keep_arr : (S : Type 0) → Arr S A a v m → Arr S A' a' v' n
      keep_arr S h s = let x = h s in (omega (arith, x.0, q.more), q.item x.0 x.1)

      pub d_keep : (E S : Type 0) (s : Taking) → DFacts E S f A start a v m s → DFacts E S f' A' start' a' v' n s
      d_keep E S tidle c = c
      d_keep E S t1 c = c
      d_keep E S t2 (h, c, r) = (h, elim c [ inl z ↦ inl z | inr z ↦ inr (q.passed z) ], keep_arr S r)
      d_keep E S t3 (h, c, r) = (h, q.passed c, keep_arr S r)
      d_keep E S t4 (h, c, e, r) = (h, q.passed c, e ∙ sym (q.ahead (ahead_of c)), keep_arr S r)
      d_keep E S (t5 k) (h, c, e, r) = (h, keep_moving k c, q.linked e, keep_arr S r)
      d_keep E S (t6 k) (h, c, r) = (h, keep_moving k c, keep_arr S r)
      d_keep E S (t7 k) (h, c, s, r) = (h, keep_moving k c, q.sealed s, keep_arr S r)
      d_keep E S t8 (h, e, r) = (h, e ∙ sym q.mine, keep_arr S r)
      d_keep E S (t9 x) (h, c, e, z) = (h, record { some = omega (arith, c.some, q.more); within = q.within c.some c.within }, e ∙ sym (q.word c.some), q.item c.some z)
