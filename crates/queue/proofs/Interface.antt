-- What the queue's proof uses of a memory.
use Rattle.std.proofs.Common.{◌≡◌, ℕ, suc, ◌<◌, ◌≤◌, ◌⊎◌, [], inl, inr}
use Rattle.memory.specs.declared.Side.{Side}
use Rattle.memory.specs.declared.Side.TheVariants.{Feeder, Drawer}
use Rattle.queue.proofs.Views.{mine, push, Landed, Keeps, keeps_same, keeps_lands}
use Rattle.queue.specs.Waiting.{In, View, other}
use Rattle.queue.proofs.Rounds.{eq_or}

pub record Interface : Type 1 where
  pub M : Type 0
  pub view : M → ℕ → View
  pub Holds : Side → M → ℕ → ℕ → ℕ → ℕ → Type 0
  pub Sealed : Side → M → Type 0
  pub SealedBut : Side → M → ℕ → ℕ → Type 0
  pub Land : Side → ℕ → ℕ → M → M → Type 0
  pub Store : Side → ℕ → ℕ → M → M → Type 0
  pub Bar : Side → M → M → Type 0
  pub holds_waits : (s : Side) (m : M) (a v b u : ℕ) → Holds s m a v b u → In v (mine s (view m a)) → In u (mine s (view m b))
  pub holds_none : (s : Side) (m : M) (a v b u : ℕ) → mine s (view m a) ≡ [] → Holds s m a v b u
  pub waits : M → ℕ
  pub waits_none : (m : M) → waits m ≡ 0 → (a : ℕ) (s : Side) → mine s (view m a) ≡ []
  pub land_here : (s : Side) (a w : ℕ) (m n : M) → Land s a w m n → Landed s w (view m a) (view n a)
  pub land_there : (s : Side) (a w : ℕ) (m n : M) → Land s a w m n → (b : ℕ) → (b ≡ a → ⊥) → view n b ≡ view m b
  pub land_holds : (s : Side) (a w : ℕ) (m n : M) → Land s a w m n → (t : Side) (b v c u : ℕ) → Holds t m b v c u → Holds t n b v c u
  pub land_sealed : (s : Side) (a w : ℕ) (m n : M) → Land s a w m n → (t : Side) → Sealed t m → Sealed t n
  pub land_but : (s : Side) (a w : ℕ) (m n : M) → Land s a w m n → (t : Side) (b v : ℕ) → SealedBut t m b v → SealedBut t n b v
  pub store_here : (s : Side) (a w : ℕ) (m n : M) → Store s a w m n → view n a ≡ push s w (view m a)
  pub store_there : (s : Side) (a w : ℕ) (m n : M) → Store s a w m n → (b : ℕ) → (b ≡ a → ⊥) → view n b ≡ view m b
  pub store_holds : (s : Side) (a w : ℕ) (m n : M) → Store s a w m n → (t : Side) (b v c u : ℕ) → (b ≡ a → v ≡ w → ⊥) → Holds t m b v c u → Holds t n b v c u
  pub store_new : (s : Side) (a w : ℕ) (m n : M) → Store s a w m n → Sealed s m → (b v : ℕ) → (b ≡ a → v ≡ w → ⊥) → Holds s n b v a w
  pub store_new_but : (s : Side) (a w : ℕ) (m n : M) → Store s a w m n → (c u : ℕ) → SealedBut s m c u → (b v : ℕ) → (b ≡ a → v ≡ w → ⊥) → (b ≡ c → v ≡ u → ⊥) → Holds s n b v a w
  pub store_but : (s : Side) (a w : ℕ) (m n : M) → Store s a w m n → Sealed s m → SealedBut s n a w
  pub store_sealed : (s : Side) (a w : ℕ) (m n : M) → Store s a w m n → Sealed (other s) m → Sealed (other s) n
  pub store_other_but : (s : Side) (a w : ℕ) (m n : M) → Store s a w m n → (b v : ℕ) → SealedBut (other s) m b v → SealedBut (other s) n b v
  pub bar_view : (s : Side) (m n : M) → Bar s m n → (b : ℕ) → view n b ≡ view m b
  pub bar_holds : (s : Side) (m n : M) → Bar s m n → (t : Side) (b v c u : ℕ) → Holds t m b v c u → Holds t n b v c u
  pub bar_sealed : (s : Side) (m n : M) → Bar s m n → Sealed s n
  pub bar_keeps : (s : Side) (m n : M) → Bar s m n → (t : Side) → Sealed t m → Sealed t n
  pub bar_but : (s : Side) (m n : M) → Bar s m n → (t : Side) (b v : ℕ) → SealedBut t m b v → SealedBut t n b v
  -- the feeder's waiting stores at addresses below b
  pub count : ℕ → M → ℕ
  pub count_store : (a w : ℕ) (m n : M) → Store Feeder a w m n → (b : ℕ) → a < b → count b n ≡ suc (count b m)
  pub count_above : (a w : ℕ) (m n : M) → Store Feeder a w m n → (b : ℕ) → b ≤ a → count b n ≡ count b m
  pub count_drawer : (a w : ℕ) (m n : M) → Store Drawer a w m n → (b : ℕ) → count b n ≡ count b m
  pub count_bar : (s : Side) (m n : M) → Bar s m n → (b : ℕ) → count b n ≡ count b m
  pub count_land : (a w : ℕ) (m n : M) → Land Feeder a w m n → (b : ℕ) → a < b → count b m ≡ suc (count b n)
  pub count_land_above : (a w : ℕ) (m n : M) → Land Feeder a w m n → (b : ℕ) → b ≤ a → count b n ≡ count b m
  pub count_land_drawer : (a w : ℕ) (m n : M) → Land Drawer a w m n → (b : ℕ) → count b n ≡ count b m

-- from m to n the addresses of Q keep what a landing keeps
pub record Frame (I : Interface) (R : ℕ) (Q : ℕ → Type 0) (m n : I.M) : Type 0 where
  pub keeps : (a : ℕ) → Q a → Keeps R (I.view m a) (I.view n a)
  pub holds : (t : Side) (b v c u : ℕ) → Q b → I.Holds t m b v c u → I.Holds t n b v c u

module _ (I : Interface) (R : ℕ) where
  pub frame_lands : (s : Side) (a w : ℕ) (m n : I.M) → I.Land s a w m n → Frame I R (λ _. Unit {0}) m n
  frame_lands s a w m n l = record { keeps = λ b _. go b (eq_or b a); holds = λ t b v c u _. I.land_holds s a w m n l t b v c u }
    where
      go : (b : ℕ) → (b ≡ a) ⊎ (b ≡ a → ⊥) → Keeps R (I.view m b) (I.view n b)
      go b (inl e) = rw e (keeps_lands R s w (I.view m a) (I.view n a) (I.land_here s a w m n l))
      go b (inr h) = keeps_same R (I.view m b) (I.view n b) (I.land_there s a w m n l b h)

  pub frame_bar : (s : Side) (m n : I.M) → I.Bar s m n → Frame I R (λ _. Unit {0}) m n
  frame_bar s m n l = record { keeps = λ b _. keeps_same R (I.view m b) (I.view n b) (I.bar_view s m n l b); holds = λ t b v c u _. I.bar_holds s m n l t b v c u }

  pub frame_store : (s : Side) (a w : ℕ) (m n : I.M) → I.Store s a w m n → Frame I R (λ b. b ≡ a → ⊥) m n
  frame_store s a w m n l = record { keeps = λ b h. keeps_same R (I.view m b) (I.view n b) (I.store_there s a w m n l b h); holds = λ t b v c u h. I.store_holds s a w m n l t b v c u (λ e _. h e) }
