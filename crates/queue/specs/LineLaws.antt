-- How a landing, a store, a bar and a drain change what waits: the laws that the queue is proved by.
use Rattle.std.specs.Prelude.{◌≡◌, ℕ, ◌+◌, ◌<◌, cond, [], ◌∷◌, ◌++◌, ◌≢◌, nat_lt}
use Rattle.memory.specs.declared.Side.{Side}
use Rattle.memory.specs.Meaning.{Meaning, store, bar, last_or, look, joined, Lands}
use Rattle.queue.specs.Waiting.{other, words, landed_word, size, view, Waits, HoldsBack, AllSealed, SealedBut, waiting_below, NothingWaits}

-- from m to n a store of w to a, of side s, has landed
pub record Landed (s : Side) (a w : ℕ) (m n : Meaning) : Type 0 where
  pub same_size : size n ≡ size m
  -- it was the oldest of its side there, and its word is the landed one now
  pub front : words s a m ≡ w ∷ words s a n
  pub word : a < size m → landed_word a n ≡ w
  -- nothing else has changed
  pub opposite_words : (c : ℕ) → words (other s) c n ≡ words (other s) c m
  pub elsewhere : (c : ℕ) → (a ≢ c) → view n c ≡ view m c
  -- what is held back stays so, what is sealed stays so
  pub holds : (t : Side) (c v b u : ℕ) → HoldsBack t c v b u m → HoldsBack t c v b u n
  pub sealed : (t : Side) → AllSealed t m → AllSealed t n
  pub sealed_but : (t : Side) (b u : ℕ) → SealedBut t b u m → SealedBut t b u n
  -- below an address one store fewer waits, if it was one of them
  pub below : (k : ℕ) → waiting_below k s m ≡ cond (nat_lt a k) (1 + waiting_below k s n) (waiting_below k s n)
  pub opposite_below : (k : ℕ) → waiting_below k (other s) n ≡ waiting_below k (other s) m

-- from m to n a store of w to a, of side s, has joined its line
pub record Stored (s : Side) (a w : ℕ) (m n : Meaning) : Type 0 where
  pub landed : n.landed ≡ m.landed
  -- it is the youngest of its side there
  pub back : words s a n ≡ words s a m ++ (w ∷ [])
  pub opposite_words : (c : ℕ) → words (other s) c n ≡ words (other s) c m
  pub elsewhere : (c : ℕ) → (a ≢ c) → view n c ≡ view m c
  -- other stores hold back what they held back
  pub holds : (t : Side) (c v b u : ℕ) → ((c ≡ a) × (v ≡ w) → ⊥) → HoldsBack t c v b u m → HoldsBack t c v b u n
  -- every sealed store holds back the new one
  pub behind_all : AllSealed s m → (c v : ℕ) → ((c ≡ a) × (v ≡ w) → ⊥) → HoldsBack s c v a w n
  pub behind_but : (b u : ℕ) → SealedBut s b u m → (c v : ℕ) → ((c ≡ a) × (v ≡ w) → ⊥) → ((c ≡ b) × (v ≡ u) → ⊥) → HoldsBack s c v a w n
  pub sealed_but : AllSealed s m → SealedBut s a w n
  pub opposite_sealed : AllSealed (other s) m → AllSealed (other s) n
  pub opposite_sealed_but : (b u : ℕ) → SealedBut (other s) b u m → SealedBut (other s) b u n
  pub below : (k : ℕ) → waiting_below k s n ≡ cond (nat_lt a k) (1 + waiting_below k s m) (waiting_below k s m)
  pub opposite_below : (k : ℕ) → waiting_below k (other s) n ≡ waiting_below k (other s) m

-- from m to n a bar of side s has joined its line
pub record Barred (s : Side) (m n : Meaning) : Type 0 where
  pub landed : n.landed ≡ m.landed
  pub views : (c : ℕ) → view n c ≡ view m c
  pub same_words : (t : Side) (c : ℕ) → words t c n ≡ words t c m
  pub holds : (t : Side) (c v b u : ℕ) → HoldsBack t c v b u m → HoldsBack t c v b u n
  -- every store of the side is sealed now
  pub all_sealed : AllSealed s n
  pub sealed : (t : Side) → AllSealed t m → AllSealed t n
  pub sealed_but : (t : Side) (b u : ℕ) → SealedBut t b u m → SealedBut t b u n
  pub below : (k : ℕ) (t : Side) → waiting_below k t n ≡ waiting_below k t m

pub record LineLaws : Type 0 where
  pub landing : (s : Side) (a w : ℕ) (m n : Meaning) → Lands s a w m n → Landed s a w m n
  pub store_joins : (s : Side) (a w : ℕ) (m : Meaning) → Stored s a w m (joined s (store a w) m)
  pub bar_joins : (s : Side) (m : Meaning) → Barred s m (joined s bar m)
  -- while the first waits, the second waits too
  pub held_back : (s : Side) (a v b u : ℕ) (m : Meaning) → HoldsBack s a v b u m → Waits s a v m → Waits s b u m
  -- what does not wait holds back whatever is named
  pub gone_holds : (s : Side) (a v b u : ℕ) (m : Meaning) → (Waits s a v m → ⊥) → HoldsBack s a v b u m
  pub looks : (s : Side) (a : ℕ) (m : Meaning) → look s a m ≡ last_or (words s a m) (landed_word a m)
  -- after a drain an address shows its landed word alone
  pub drained : (m : Meaning) (a : ℕ) → NothingWaits m → view m a ≡ record { word = landed_word a m; feeder = []; drawer = [] }
