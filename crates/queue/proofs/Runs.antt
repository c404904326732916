-- Runs of an opened lane over meanings, with the line of untaken words: what each answer tells.
use Rattle.std.proofs.Common.{◌≡◌, ℕ, suc, ◌+◌, ◌-◌, ◌*◌, ◌<◌, ◌≤◌, ◌⊎◌, List, [], ◌∷◌, ◌++◌, length}
use Rattle.memory.specs.declared.Side.{Side}
use Rattle.memory.specs.declared.Side.TheVariants.{Feeder, Drawer}
use Rattle.memory.specs.Meaning.{Meaning, store, bar, joined, look, Lands, Landings}
use Rattle.queue.specs.Waiting.{landed_word, size, words, waiting_below, NothingWaits}
use Rattle.lane.specs.Openings.{first_word}
use Rattle.queue.specs.Waiting.{waiting}
use Rattle.queue.proofs.Steps.{own_cell, next_cell, free_cell, Places, Putting, Taking, Out, FeedsOver, DrawsOver, Putting.idle as pidle, Taking.idle as tidle, Out.on, Out.accepted, Out.no_ring, Out.taken, Out.empty, Out.damaged}

-- the line of items behind an answer
abbrev pub after : Out → List ℕ → List ℕ
after on u = u
after (accepted x) u = u ++ (x ∷ [])
after (no_ring x) u = u
after (taken x) [] = []
after (taken x) (y ∷ u) = u
after empty u = u
after damaged u = u

abbrev pub at_p1 : Putting → ℕ → ℕ → ℕ
at_p1 (Putting.p1 x) a b = a
at_p1 Putting.idle a b = b
at_p1 (Putting.p2 x) a b = b
at_p1 (Putting.p7 x) a b = b
at_p1 (Putting.p8 x) a b = b
at_p1 (Putting.p3 x k) a b = b
at_p1 (Putting.p4 x k) a b = b
at_p1 (Putting.p5 x k) a b = b
at_p1 (Putting.p6 x k) a b = b

abbrev pub at_t1 : Taking → ℕ → ℕ → ℕ
at_t1 Taking.t1 a b = a
at_t1 Taking.idle a b = b
at_t1 Taking.t2 a b = b
at_t1 Taking.t3 a b = b
at_t1 Taking.t4 a b = b
at_t1 Taking.t8 a b = b
at_t1 (Taking.t5 x) a b = b
at_t1 (Taking.t6 x) a b = b
at_t1 (Taking.t7 x) a b = b
at_t1 (Taking.t9 x) a b = b

abbrev pub feeder_opened : Places
feeder_opened = record { own = 0; at = λ _. 0; next = 0; free = 0 }

abbrev pub drawer_opened : ℕ → Places
drawer_opened R = record { own = 0; at = λ _. 0; next = 0; free = R - 1 }

-- the words of an opened lane, with nothing waiting
pub record OpenedLane (R N : ℕ) (m : Meaning) : Type 0 where
  pub fits : R * N + R + R < size m
  pub quiet : NothingWaits m
  pub cells : (a : ℕ) → a < R * N → landed_word a m ≡ 0
  pub nexts : (i : ℕ) → i < R → landed_word (R * N + i) m ≡ 0
  pub frees : (i : ℕ) → suc i < R → landed_word (R * N + R + i) m ≡ suc (suc i)
  pub last : landed_word (R * N + R + (R - 1)) m ≡ 0
  pub mark : landed_word (R * N + R + R) m ≡ 1

abbrev pub Puts : (ℕ → Type 0) → ℕ → ℕ → Places → Putting → Meaning → Places → Putting → Meaning → Out → Type 0
Puts Item R N = FeedsOver Meaning look (λ s a w m n. n ≡ joined s (store a w) m) (λ s m n. n ≡ joined s bar m) Item R N

abbrev pub Takes : (ℕ → Type 0) → ℕ → ℕ → Places → Taking → Meaning → Places → Taking → Meaning → Out → Type 0
Takes Item R N = DrawsOver Meaning look (λ s a w m n. n ≡ joined s (store a w) m) (λ s m n. n ≡ joined s bar m) Item R N

-- how many items of the line u have arrived: those whose store no longer waits
abbrev pub arrivals : ℕ → ℕ → List ℕ → Meaning → ℕ
arrivals R N u m = length u - waiting_below (R * N) Feeder m

-- a run: the line of untaken items, how many had arrived at the first step of the take under way,
-- how many stores waited and how many items were untaken at the first step of the put under way, and the lane
pub data Run (Item : ℕ → Type 0) (R N : ℕ) (m0 : Meaning) : List ℕ → ℕ → ℕ → ℕ → Places → Putting → Places → Taking → Meaning → Type 0 where
  opened : Run Item R N m0 [] 0 0 0 feeder_opened pidle (drawer_opened R) tidle m0
  fed : {u : List ℕ} {a1 w1 n1 : ℕ} {p : Places} {s : Putting} {q : Places} {t : Taking} {m : Meaning} {p' : Places} {s' : Putting} {n : Meaning} {o : Out} → Run Item R N m0 u a1 w1 n1 p s q t m → Puts Item R N p s m p' s' n o → Run Item R N m0 (after o u) a1 (at_p1 s (waiting m) w1) (at_p1 s (length u) n1) p' s' q t n
  drawn : {u : List ℕ} {a1 w1 n1 : ℕ} {p : Places} {s : Putting} {q : Places} {t : Taking} {m : Meaning} {q' : Places} {t' : Taking} {n : Meaning} {o : Out} → Run Item R N m0 u a1 w1 n1 p s q t m → Takes Item R N q t m q' t' n o → Run Item R N m0 (after o u) (at_t1 t (arrivals R N u m) a1) w1 n1 p s q' t' n
  lands : {u : List ℕ} {a1 w1 n1 : ℕ} {p : Places} {s : Putting} {q : Places} {t : Taking} {m n : Meaning} (x : Side) (a w : ℕ) → Run Item R N m0 u a1 w1 n1 p s q t m → Lands x a w m n → Run Item R N m0 u a1 w1 n1 p s q t n

-- an answered put: an item is accepted, or, had nothing waited at its first step, (R - 1) × N items were untaken there
abbrev pub PutTells : (ℕ → Type 0) → ℕ → ℕ → ℕ → ℕ → Out → Type 0
PutTells Item R N w1 n1 on = Unit {0}
PutTells Item R N w1 n1 (accepted x) = Item x
PutTells Item R N w1 n1 (no_ring x) = w1 ≡ 0 → (R - 1) * N ≤ n1
PutTells Item R N w1 n1 (taken x) = ⊥
PutTells Item R N w1 n1 empty = ⊥
PutTells Item R N w1 n1 damaged = ⊥

-- an answered take: the first of the line, which has arrived; or empty, where none had arrived at one of its steps, and none at its first
abbrev pub TakeTells : ℕ → ℕ → ℕ → List ℕ → Meaning → Out → Type 0
TakeTells R N a1 u m on = Unit {0}
TakeTells R N a1 u m (accepted x) = ⊥
TakeTells R N a1 u m (no_ring x) = ⊥
TakeTells R N a1 u m (taken x) = (u ≡ x ∷ after (taken x) u) × (0 < arrivals R N u m)
TakeTells R N a1 u m empty = ((a1 ≡ 0) ⊎ (arrivals R N u m ≡ 0)) × (0 < a1 → ⊥)
TakeTells R N a1 u m damaged = ⊥

-- an address shows bare to both sides, and nothing waits for it
pub record AllBare (a : ℕ) (m : Meaning) : Type 0 where
  pub landed : landed_word a m ≡ 0
  pub feeder : words Feeder a m ≡ []
  pub drawer : words Drawer a m ≡ []

abbrev pub PutTarget : ℕ → ℕ → Places → Putting → Meaning → Type 0
PutTarget R N p Putting.idle m = Unit {0}
PutTarget R N p (Putting.p1 x) m = Unit {0}
PutTarget R N p (Putting.p2 x) m = Unit {0}
PutTarget R N p (Putting.p3 x k) m = Unit {0}
PutTarget R N p (Putting.p4 x k) m = Unit {0}
PutTarget R N p (Putting.p5 x k) m = AllBare (next_cell R N p) m
PutTarget R N p (Putting.p6 x k) m = Unit {0}
PutTarget R N p (Putting.p7 x) m = Unit {0}
PutTarget R N p (Putting.p8 x) m = AllBare (own_cell R N p) m

abbrev pub TakeTarget : ℕ → ℕ → Places → Taking → Meaning → Type 0
TakeTarget R N q Taking.idle m = Unit {0}
TakeTarget R N q Taking.t1 m = Unit {0}
TakeTarget R N q Taking.t2 m = Unit {0}
TakeTarget R N q Taking.t3 m = Unit {0}
TakeTarget R N q Taking.t4 m = Unit {0}
TakeTarget R N q (Taking.t5 x) m = Unit {0}
TakeTarget R N q (Taking.t6 x) m = Unit {0}
TakeTarget R N q (Taking.t7 x) m = AllBare (free_cell R N q) m
TakeTarget R N q Taking.t8 m = Unit {0}
TakeTarget R N q (Taking.t9 x) m = Unit {0}

-- the first k words of f are stored upwards by the feeder, from a memory in which nothing waits
pub data Filling (f : ℕ → ℕ) (m : Meaning) : ℕ → Meaning → Type 0 where
  unfilled : Filling f m 0 m
  one_more : {k : ℕ} {n o : Meaning} → Filling f m k n → Landings (joined Feeder (store k (f k)) n) o → Filling f m (suc k) o

abbrev pub OpeningLaw : Type 0
OpeningLaw = (R N : ℕ) → 2 ≤ R → (m n o : Meaning) → NothingWaits m → R * N + R + R < size m → Filling (first_word R N) m (suc (R * N + R + R)) n → Landings n o → NothingWaits o → OpenedLane R N o
