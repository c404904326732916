-- How many items have arrived.
use Rattle.std.proofs.Common.{◌≡◌, ℕ, suc, ◌+◌, ◌*◌, ◌<◌, ◌≤◌, sym, refl, ap, ◌∙◌, inl, inr, arith}
use Rattle.memory.specs.declared.Side.TheVariants.{Feeder, Drawer}
use Rattle.queue.proofs.Rounds.{lt_or, eq_or, changed_there, changed_elsewhere}
use Rattle.queue.proofs.Steps.{changed}
use Rattle.queue.proofs.Views.{mine, push, Landed, rest_lands, one_lands, Filled, Vacant, Filled.rests, Filled.comes, Vacant.rests as vrests, Vacant.goes, rest, coming}
use Rattle.queue.specs.Waiting.{View}
use Rattle.queue.proofs.Interface.{Interface}
use Rattle.queue.proofs.Core.{Ghost, Core}
use Rattle.queue.proofs.OwnLooks.{find_item}
use Rattle.queue.proofs.Lines.{cons_no_nil}

module _ (I : Interface) (R N : ℕ) where
  -- L items have arrived in all, the oldest first
  pub record Arrival (L : ℕ) (T A : ℕ) (at w : ℕ → ℕ) (m : I.M) : Type 0 where
    pub low : T ≤ L
    pub high : L ≤ A
    pub here : (i : ℕ) → T ≤ i → i < L → I.view m (at i) ≡ rest (w i)
    pub yet : (i : ℕ) → L ≤ i → i < A → I.view m (at i) ≡ coming Feeder (w i)
    pub counts : I.count (R * N) m + L ≡ A

  pub not_coming : (x : View) (u v : ℕ) → x ≡ rest u → x ≡ coming Feeder v → ⊥
  not_coming x u v p q = cons_no_nil (ap (mine Feeder) (sym q ∙ p))

  module _ (L T A : ℕ) (at w : ℕ → ℕ) (m n : I.M) (c : Arrival L T A at w m) where
    -- nothing changes in the cells
    pub arrival_same : ((a : ℕ) → a < R * N → I.view n a ≡ I.view m a) → ((i : ℕ) → T ≤ i → i < A → at i < R * N) → I.count (R * N) n ≡ I.count (R * N) m → Arrival L T A at w n
    arrival_same s b e = record { low = c.low; high = c.high; here = λ i p q. s (at i) (b i p (omega (arith, c.high))) ∙ c.here i p q; yet = λ i p q. s (at i) (b i (omega (arith, c.low)) q) ∙ c.yet i p q; counts = omega (arith, c.counts) }

    pub arrival_put : (o x : ℕ) → o < R * N → I.Store Feeder o x m n → I.view m o ≡ rest 0 → ((i : ℕ) → T ≤ i → i < A → at i ≡ o → ⊥) → Arrival L T (suc A) (changed at A o) (changed w A x) n
    arrival_put o x l st bare fresh = record {
      low = c.low;
      high = omega (arith, c.high);
      here = λ i p q. rw (changed_elsewhere at A o i (omega (arith, c.high)), changed_elsewhere w A x i (omega (arith, c.high))) (I.store_there Feeder o x m n st (at i) (fresh i p (omega (arith, c.high))) ∙ c.here i p q);
      yet = λ i p q. elim (eq_or i A) [ inl e ↦ rw (e, changed_there at A o, changed_there w A x) (I.store_here Feeder o x m n st ∙ ap (push Feeder x) bare) | inr e ↦ rw (changed_elsewhere at A o i e, changed_elsewhere w A x i e) (I.store_there Feeder o x m n st (at i) (fresh i (omega (arith, c.low)) (omega arith)) ∙ c.yet i p (omega arith)) ];
      counts = omega (arith, c.counts, I.count_store o x m n st (R * N) l);
    }

    pub arrival_take : I.Store Drawer (at T) 0 m n → T < A → I.view m (at T) ≡ rest (w T) → ((i : ℕ) → T < i → i < A → at i ≡ at T → ⊥) → Arrival L (suc T) A at w n
    arrival_take st lt shown apart = record {
      low = elim (lt_or T L) [ inl h ↦ h | inr h ↦ absurd (not_coming (I.view m (at T)) (w T) (w T) shown (c.yet T h lt)) ];
      high = c.high;
      here = λ i p q. I.store_there Drawer (at T) 0 m n st (at i) (apart i p (omega (arith, c.high))) ∙ c.here i (omega arith) q;
      yet = λ i p q. elim (eq_or i T) [ inl e ↦ absurd (not_coming (I.view m (at T)) (w T) (w T) shown (rw e at (c.yet i p q))) | inr e ↦ I.store_there Drawer (at T) 0 m n st (at i) (apart i (omega (arith, c.low)) q) ∙ c.yet i p q ];
      counts = omega (arith, c.counts, I.count_drawer (at T) 0 m n st (R * N));
    }

  -- a landing: at most one item more
  module _ (g : Ghost) (m n : I.M) (c : Core I R N g m) (L : ℕ) (r : Arrival L g.T g.A g.at g.w m) where
    -- at an item's cell only its own store can land
    drawer_no : (a x i : ℕ) → I.Land Drawer a x m n → g.T ≤ i → i < g.A → g.at i ≡ a → Filled Feeder (g.w i) (I.view m (g.at i)) → ⊥
    drawer_no a x i l p q e (rests z) = rest_lands Drawer x (g.w i) (I.view m a) (I.view n a) (I.land_here Drawer a x m n l) (rw e at z)
    drawer_no a x i l p q e (comes z) = let h = I.land_here Drawer a x m n l in cons_no_nil (sym (ap (mine Drawer) h.was) ∙ ap (mine Drawer) (rw e at z))

    pub arrival_drawer : (a x : ℕ) → I.Land Drawer a x m n → Arrival L g.T g.A g.at g.w n
    arrival_drawer a x l = record {
      low = r.low;
      high = r.high;
      here = λ i p q. I.land_there Drawer a x m n l (g.at i) (ap' i p (omega (arith, r.high))) ∙ r.here i p q;
      yet = λ i p q. I.land_there Drawer a x m n l (g.at i) (ap' i (omega (arith, r.low)) q) ∙ r.yet i p q;
      counts = omega (arith, r.counts, I.count_land_drawer a x m n l (R * N));
    }
      where
        ap' : (i : ℕ) → g.T ≤ i → i < g.A → g.at i ≡ a → ⊥
        ap' i p q e = drawer_no a x i l p q e (c.items.filled i p q)

    pub arrival_above : (a x : ℕ) → I.Land Feeder a x m n → R * N ≤ a → Arrival L g.T g.A g.at g.w n
    arrival_above a x l b = arrival_same L g.T g.A g.at g.w m n r (λ y k. I.land_there Feeder a x m n l y (omega arith)) c.items.below (I.count_land_above a x m n l (R * N) b)

    pub arrival_cell : (a x : ℕ) → I.Land Feeder a x m n → a < R * N → (L < g.A) × Arrival (suc L) g.T g.A g.at g.w n
    arrival_cell a x l b = elim (find_item g.at a g.T g.A c.numbers.TA) [ inl y ↦ item y.0 y.1 y.2 y.3 | inr h ↦ absurd (vac (c.items.vacant a b h)) ]
      where
        lh : Landed Feeder x (I.view m a) (I.view n a)
        lh = I.land_here Feeder a x m n l

        vac : Vacant Drawer (I.view m a) → ⊥
        vac (vrests z) = rest_lands Feeder x 0 (I.view m a) (I.view n a) lh z
        vac (goes u ne z) = cons_no_nil (sym (ap (mine Feeder) lh.was) ∙ ap (mine Feeder) z)

        item : (i : ℕ) → g.T ≤ i → i < g.A → g.at i ≡ a → (L < g.A) × Arrival (suc L) g.T g.A g.at g.w n
        item i p q e = (omega (arith, is), record { low = omega (arith, r.low); high = omega (arith, is); here = here; yet = yet; counts = omega (arith, r.counts, I.count_land a x m n l (R * N) b) })
          where
            after : L ≤ i → I.view n (g.at i) ≡ rest (g.w i)
            after k = rw e (one_lands Feeder Feeder x 0 (g.w i) (I.view m a) (I.view n a) lh (rw e at (r.yet i k q)))

            late : L ≤ i
            late = elim (lt_or i L) [ inr k ↦ k | inl k ↦ absurd (rest_lands Feeder x (g.w i) (I.view m a) (I.view n a) lh (rw e at (r.here i p k))) ]

            is : i ≡ L
            is = elim (eq_or i L) [ inl k ↦ k | inr k ↦ absurd (rw (after late) at (I.holds_waits Feeder n (g.at L) (g.w L) (g.at i) (g.w i) (I.land_holds Feeder a x m n l Feeder (g.at L) (g.w L) (g.at i) (g.w i) (c.items.ordered L i r.low (omega (arith, late)) q)) (rw (I.land_there Feeder a x m n l (g.at L) (λ z. c.items.apart L i r.low (omega (arith, late)) q (z ∙ sym e)) ∙ r.yet L (omega arith) (omega (arith, late))) (inl refl)))) ]

            other : (j : ℕ) → g.T ≤ j → j < g.A → (j ≡ i → ⊥) → g.at j ≡ a → ⊥
            other j s t ne z = elim (lt_or j i) [ inl k ↦ c.items.apart j i s k q (z ∙ sym e) | inr k ↦ c.items.apart i j p (omega arith) t (e ∙ sym z) ]

            here : (j : ℕ) → g.T ≤ j → j < suc L → I.view n (g.at j) ≡ rest (g.w j)
            here j s t = elim (eq_or j i) [ inl k ↦ rw k (after late) | inr k ↦ I.land_there Feeder a x m n l (g.at j) (other j s (omega (arith, r.high, is)) k) ∙ r.here j s (omega (arith, is)) ]

            yet : (j : ℕ) → suc L ≤ j → j < g.A → I.view n (g.at j) ≡ coming Feeder (g.w j)
            yet j s t = I.land_there Feeder a x m n l (g.at j) (other j (omega (arith, r.low)) t (λ k. omega (arith, is))) ∙ r.yet j (omega arith) t
