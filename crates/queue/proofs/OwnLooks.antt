-- What each look tells.
use Rattle.std.proofs.Common.{◌≡◌, ℕ, zero, suc, ◌+◌, ◌-◌, ◌%◌, ◌<◌, ◌≤◌, ◌⊎◌, sym, refl, ap, ◌∙◌, inl, inr, mod-lt, arith}
use Rattle.memory.specs.declared.Side.TheVariants.{Feeder, Drawer}
use Rattle.queue.proofs.Rounds.{mod_window, lt_or, eq_or}
use Rattle.queue.proofs.Views.{mine, seen, Filled, Vacant, Filled.rests, Filled.comes, Vacant.rests as vrests, Vacant.goes, rest, coming}
use Rattle.queue.specs.Waiting.{In}
use Rattle.queue.proofs.Interface.{Interface}
use Rattle.queue.proofs.Addresses.{cell_place, cell, cell<, cells_apart}
use Rattle.queue.proofs.Core.{Ghost, Numbers, Core}

-- is one of the items i, lo ≤ i < lo + n, at address a
find : (at : ℕ → ℕ) (a lo n : ℕ) → ((i : ℕ) × (lo ≤ i) × (i < lo + n) × (at i ≡ a)) ⊎ ((i : ℕ) → lo ≤ i → i < lo + n → at i ≡ a → ⊥)
find at a lo zero = inr (λ i p q e. omega arith)
find at a lo (suc n) = elim (find at a lo n) [ inl x ↦ inl (x.0, x.1, omega (arith, x.2), x.3) | inr h ↦ elim (eq_or (at (lo + n)) a) [ inl e ↦ inl (lo + n, omega arith, omega arith, e) | inr ne ↦ inr (λ i p q e. elim (eq_or i (lo + n)) [ inl x ↦ ne (sym (ap at x) ∙ e) | inr x ↦ h i p (omega arith) e ]) ] ]

pub find_item : (at : ℕ → ℕ) (a T A : ℕ) → T ≤ A → ((i : ℕ) × (T ≤ i) × (i < A) × (at i ≡ a)) ⊎ ((i : ℕ) → T ≤ i → i < A → at i ≡ a → ⊥)
find_item at a T A l = elim (find at a T (A - T)) [ inl x ↦ inl (x.0, x.1, omega (arith, x.2), x.3) | inr h ↦ inr (λ i p q e. h i p (omega arith) e) ]

-- the visit of an item
visit : (start : ℕ → ℕ) (d n i : ℕ) → start d ≤ i → (k : ℕ) × (d ≤ k) × (k ≤ d + n) × (start k ≤ i) × (k < d + n → i < start (suc k))
visit start d zero i l = (d, omega arith, omega arith, l, λ h. absurd (omega arith))
visit start d (suc n) i l = elim (lt_or i (start (d + suc n))) [ inr h ↦ (d + suc n, omega arith, omega arith, h, λ x. absurd (omega arith)) | inl h ↦ (let (k, a, b, c, e) = visit start d n i l in (k, a, omega arith, c, λ x. go k (eq_or k (d + n)) e x h)) ]
  where
    go : (k : ℕ) → (k ≡ d + n) ⊎ (k ≡ d + n → ⊥) → (k < d + n → i < start (suc k)) → k < d + suc n → i < start (d + suc n) → i < start (suc k)
    go k (inl q) e x h = let z : suc k ≡ d + suc n = omega arith in rw z h
    go k (inr q) e x h = e (omega arith)

pub visit_of : (R N : ℕ) (g : Ghost) → Numbers R N g → (i : ℕ) → g.T ≤ i → (k : ℕ) × (g.d ≤ k) × (k ≤ g.f) × (g.start k ≤ i) × (k < g.f → i < g.start (suc k))
visit_of R N g h i l = let (k, a, b, c, e) = visit g.start g.d (g.f - g.d) i (omega (arith, h.dT)) in (k, a, omega (arith, h.df), c, λ x. e (omega (arith, h.df)))

module _ (I : Interface) (R N : ℕ) (R2 : 2 ≤ R) (N1 : 1 ≤ N) where
  module _ (g : Ghost) (m : I.M) (c : Core I R N g m) where
    -- every untaken item still waits
    abbrev pub NoneArrived : Type 0
    NoneArrived = (i : ℕ) → g.T ≤ i → i < g.A → I.view m (g.at i) ≡ coming Feeder (g.w i)

    abbrev pub fown : ℕ
    fown = cell R N g.f ((g.base g.f + g.A) % N)

    abbrev pub down : ℕ
    down = cell R N g.d ((g.base g.d + g.T) % N)

    place< : (x : ℕ) → x % N < N
    place< x = mod-lt x (omega arith)

    -- P1: a bare own cell is at rest
    pub own_bare : seen Feeder (I.view m fown) ≡ 0 → I.view m fown ≡ rest 0
    own_bare e = elim (find_item g.at fown g.T g.A c.numbers.TA) [ inl x ↦ absurd (item x.0 x.1 x.2 x.3 (c.items.filled x.0 x.1 x.2)) | inr h ↦ vac (c.items.vacant fown (cell< R R2 N g.f ((g.base g.f + g.A) % N) (place< (g.base g.f + g.A))) h) ]
      where
        item : (i : ℕ) → g.T ≤ i → i < g.A → g.at i ≡ fown → Filled Feeder (g.w i) (I.view m (g.at i)) → ⊥
        item i p q r (rests z) = c.items.item i p q (sym (ap (seen Feeder) z) ∙ (rw r e))
        item i p q r (comes z) = c.items.item i p q (sym (ap (seen Feeder) z) ∙ (rw r e))

        vac : Vacant Drawer (I.view m fown) → I.view m fown ≡ rest 0
        vac (vrests z) = z
        vac (goes u ne z) = absurd (ne (sym (ap (seen Feeder) z) ∙ e))

    -- P1: a full own cell ahead of the drawer's ring means a full ring
    pub own_full : (seen Feeder (I.view m fown) ≡ 0 → ⊥) → g.d < g.f → g.start g.f + N ≤ g.A
    own_full ne l = elim (lt_or g.A (g.start g.f + N)) [ inr h ↦ h | inl h ↦ absurd (ne (ap (seen Feeder) (c.items.calm g.f ((g.base g.f + g.A) % N) l (omega arith) (place< (g.base g.f + g.A)) (λ i p q e. go h i p q e (visit_of R N g c.numbers i p))))) ]
      where
        go : g.A < g.start g.f + N → (i : ℕ) → g.T ≤ i → i < g.A → g.at i ≡ fown → (k : ℕ) × (g.d ≤ k) × (k ≤ g.f) × (g.start k ≤ i) × (k < g.f → i < g.start (suc k)) → ⊥
        go h i p q e (k, a, b, s, t) = elim (eq_or k g.f) [ inl x ↦ mod_window N (g.base g.f + i) (g.base g.f + g.A) (omega arith) (omega (arith, ap g.start x)) (cell_place R R2 N g.f ((g.base g.f + i) % N) ((g.base g.f + g.A) % N) (sym (here x) ∙ e)) | inr x ↦ cells_apart R R2 N k g.f ((g.base k + i) % N) ((g.base g.f + g.A) % N) (omega arith) (omega (arith, c.numbers)) (place< (g.base k + i)) (place< (g.base g.f + g.A)) (sym (c.visits.placed k i a b s t p q) ∙ e) ]
          where
            here : k ≡ g.f → g.at i ≡ cell R N g.f ((g.base g.f + i) % N)
            here x = rw x at (c.visits.placed k i a b s t p q)

    -- the drawer's ring still has an untaken item
    pub record Inside : Type 0 where
      pub some : g.T < g.A
      pub within : g.d < g.f → g.T < g.start (suc g.d)

    pub inside_at : Inside → g.at g.T ≡ down
    inside_at h = c.visits.placed g.d g.T (omega arith) c.numbers.df c.numbers.dT h.within (omega arith) h.some

    pub inside_or : Inside ⊎ ((g.A ≤ g.T) ⊎ ((g.d < g.f) × (g.start (suc g.d) ≤ g.T)))
    inside_or = elim (lt_or g.T g.A) [ inr h ↦ inr (inl h) | inl h ↦ elim (lt_or g.d g.f) [ inr q ↦ inl (record { some = h; within = λ l. absurd (omega arith) }) | inl q ↦ elim (lt_or g.T (g.start (suc g.d))) [ inl r ↦ inl (record { some = h; within = λ _. r }) | inr r ↦ inr (inr (q, r)) ] ] ]

    -- one item that waits keeps all behind it waiting
    pub waits_on : (i : ℕ) → g.T ≤ i → i < g.A → In (g.w i) (mine Feeder (I.view m (g.at i))) → I.view m (g.at i) ≡ coming Feeder (g.w i)
    waits_on i p q x = go (c.items.filled i p q)
      where
        go : Filled Feeder (g.w i) (I.view m (g.at i)) → I.view m (g.at i) ≡ coming Feeder (g.w i)
        go (comes e) = e
        go (rests e) = absurd (rw e at x)

    pub first_waits : g.T < g.A → I.view m (g.at g.T) ≡ coming Feeder (g.w g.T) → NoneArrived
    first_waits l e i p q = elim (eq_or i g.T) [ inl x ↦ rw x e | inr x ↦ waits_on i p q (I.holds_waits Feeder m (g.at g.T) (g.w g.T) (g.at i) (g.w i) (c.items.ordered g.T i (omega arith) (omega arith) q) (rw e (inl refl))) ]

    -- T1, T3, T8: what the drawer's own cell shows
    pub data Shows : Type 0 where
      oldest : Inside → I.view m (g.at g.T) ≡ rest (g.w g.T) → seen Drawer (I.view m down) ≡ g.w g.T → Shows
      waiting : Inside → I.view m (g.at g.T) ≡ coming Feeder (g.w g.T) → seen Drawer (I.view m down) ≡ 0 → Shows
      over : ((g.A ≤ g.T) ⊎ ((g.d < g.f) × (g.start (suc g.d) ≤ g.T))) → seen Drawer (I.view m down) ≡ 0 → Shows

    pub shows : Shows
    shows = elim inside_or [ inl h ↦ fill h (c.items.filled g.T (omega arith) h.some) | inr h ↦ over h (vac (c.items.vacant down (cell< R R2 N g.d ((g.base g.d + g.T) % N) (place< (g.base g.d + g.T))) (λ i p q e. none h i p q e (visit_of R N g c.numbers i p)))) ]
      where
        fill : Inside → Filled Feeder (g.w g.T) (I.view m (g.at g.T)) → Shows
        fill h (rests e) = oldest h e (rw (← inside_at h) (ap (seen Drawer) e))
        fill h (comes e) = waiting h e (rw (← inside_at h) (ap (seen Drawer) e))

        vac : Vacant Drawer (I.view m down) → seen Drawer (I.view m down) ≡ 0
        vac (vrests e) = ap (seen Drawer) e
        vac (goes u ne e) = ap (seen Drawer) e

        none : ((g.A ≤ g.T) ⊎ ((g.d < g.f) × (g.start (suc g.d) ≤ g.T))) → (i : ℕ) → g.T ≤ i → i < g.A → g.at i ≡ down → (k : ℕ) × (g.d ≤ k) × (k ≤ g.f) × (g.start k ≤ i) × (k < g.f → i < g.start (suc k)) → ⊥
        none (inl h) i p q e v = omega arith
        none (inr h) i p q e (k, a, b, s, t) = elim (eq_or k g.d) [ inl x ↦ omega (arith, t (omega (arith, h.0)), ap (λ (z : ℕ). g.start (suc z)) x, h.1) | inr x ↦ cells_apart R R2 N g.d k ((g.base g.d + g.T) % N) ((g.base k + i) % N) (omega arith) (omega (arith, c.numbers)) (place< (g.base g.d + g.T)) (place< (g.base k + i)) (sym e ∙ c.visits.placed k i a b s t p q) ]
