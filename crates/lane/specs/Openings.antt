-- Opening a lane.
use Rattle.std.specs.Prelude.{◌≡◌, ℕ, ◌+◌, ◌-◌, ◌*◌, ◌<◌, ◌≤◌, cond, ◌==◌, nat_lt}
use Rattle.memory.specs.declared.Memory as memory
use Rattle.words.specs.declared.kinds.Kind as kind
use Rattle.memory.specs.declared.Side.TheVariants as side
use Rattle.memory.specs.Meaning.{Size, Store, Drain}
use Rattle.lane.specs.declared.sides.Put.TheVariants as put
use Rattle.lane.specs.declared.sides.Take.TheVariants as take
use Rattle.lane.specs.declared.refusals.OpenRefusal.{OpenRefusal}
use Rattle.lane.specs.declared.refusals.OpenRefusal.TheVariants.{OutOfRange, TooSmall}
use Rattle.lane.specs.declared.openings.Opened.{Opened}
use Rattle.lane.specs.Hands.{first_hand}
use Rattle.lane.specs.Layout.{Shaped, words_of, ring_word}
use Rattle.lane.specs.Calls.{Makes}
use Rattle.lane.specs.Moments.{Moment, moment}

-- the word that address a has at first: ring i + 1 in cell i of the free list but its last, ring 0 in the mark, else bare
abbrev pub first_word : ℕ → ℕ → ℕ → ℕ
first_word R N a = cond (nat_lt a (R * N + R)) 0 (cond (nat_lt a (R * N + (2 * R - 1))) (ring_word (a - (R * N + R) + 1)) (cond (a == R * N + 2 * R) (ring_word 0) 0))

-- a lane just opened
abbrev pub opened : {K X : Type 0} → ℕ → ℕ → ℕ → X → Moment K X
opened number R N x = record {
  number = number;
  rings = R;
  cells = N;
  memory = x;
  feeder = first_hand put.Idle 0;
  drawer = first_hand take.Idle (R - 1);
}

module _ {X : Type 0} (G : memory.Ghosts X) (R N : ℕ) where
  -- the feeder stores the first word of each address below a, upwards
  pub data Filled (x : X) : ℕ → X → Type 0 where
    bare_start : Filled x 0 x
    one_more : {a : ℕ} {y z : X} → Filled x a y → Makes G (Store side.Feeder a (first_word R N a)) y z → Filled x (a + 1) z

  -- the numbers are in range, and the memory was asked for its size, which is enough
  pub record Openable (x y : X) : Type 0 where
    pub shaped : Shaped R N
    pub size : ℕ
    pub asked : Makes G (Size size) x y
    pub enough : words_of R N ≤ size

  -- the memory calls of opening: ask the size, drain, store upwards, drain
  pub record Opens (x y : X) : Type 0 where
    pub sized : X
    pub drained : X
    pub filled : X
    pub size : ℕ
    pub asked : Makes G (Size size) x sized
    pub enough : words_of R N ≤ size
    pub first_drain : Makes G Drain sized drained
    pub stores : Filled drained (words_of R N) filled
    pub second_drain : Makes G Drain filled y

  -- why opening is refused, and what the memory is then
  abbrev pub Unopened : OpenRefusal → X → X → Type 0
  Unopened OutOfRange x y = (Shaped R N → ⊥) × (y ≡ x)
  Unopened TooSmall x y = Shaped R N × ((n : ℕ) × Makes G (Size n) x y × (n < words_of R N))

  -- a lane is opened over x, with this number, and both ends have it
  pub record OpenedOver {K : Type 0} {κ : kind.Ghosts K} (number : ℕ) (x : X) (o : Opened K X κ G) : Type 0 where
    pub feeder : o.feeder.lane ≡ number
    pub drawer : o.drawer.lane ≡ number
    pub shaped : Shaped R N
    pub opens : Opens x o.lane.memory
    pub is : moment o.lane ≡ opened number R N o.lane.memory
