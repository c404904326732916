-- What the store buffer does above a memory that it knows by its calls alone.
use Rattle.std.specs.Prelude.{◌≡◌, ℕ, suc, ◌+◌, ◌-◌, ◌^◌, ◌<◌, ◌≤◌, min, List, [], ◌∷◌, ◌++◌, length, Some, None}
use Rattle.memory.specs.declared.Side.{Side}
use Rattle.memory.specs.declared.Side.TheVariants.{Feeder, Drawer}
use Rattle.memory.specs.declared.entry.Entry.{Entry as Kept}
use Rattle.memory.specs.declared.buffer.Buffer.{Buffer}
use Rattle.memory.specs.declared.Memory.{Ghosts}
use Rattle.memory.specs.Meaning.{Meaning, stores, tidy, Made, Call, Size, Look, Count, Store, Bar, Land, Drain}
use Rattle.memory.specs.Sides.{by_side}
use Rattle.memory.specs.Entries.{own, newest, through}

-- the memory below, how many entries of a side are kept, and those of each side, oldest first
pub record Parts (X : Type 0) : Type 0 where
  pub below : X
  pub depth : ℕ
  pub feeder : List Kept
  pub drawer : List Kept

abbrev pub parts : {X : Type 0} → Buffer X → Parts X
parts x = record { below = x.below; depth = x.depth; feeder = x.kept.feeder.items; drawer = x.kept.drawer.items }

abbrev pub mine : {X : Type 0} → Side → Parts X → List Kept
mine s b = by_side s b.feeder b.drawer

abbrev pub with_mine : {X : Type 0} → Side → List Kept → Parts X → Parts X
with_mine Feeder l b = record { below = b.below; depth = b.depth; feeder = l; drawer = b.drawer }
with_mine Drawer l b = record { below = b.below; depth = b.depth; feeder = b.feeder; drawer = l }

abbrev pub with_below : {X : Type 0} → X → Parts X → Parts X
with_below y b = record { below = y; depth = b.depth; feeder = b.feeder; drawer = b.drawer }

-- each line is the line below followed by the buffer's own
abbrev pub over : List Kept → List Kept → Meaning → Meaning
over f d m = record { landed = m.landed; feeder = tidy (m.feeder ++ own (length m.landed) f); drawer = tidy (m.drawer ++ own (length m.landed) d) }

-- exactly this call is made of the memory below
abbrev pub Does : {X : Type 0} → Ghosts X → Call → X → X → Type 0
Does G k x y = Made G.meaning G.calls k x y

module _ {X : Type 0} (G : Ghosts X) where
  -- a store goes below, or is refused there for want of its address
  pub data SentStore (s : Side) (a w : ℕ) (x y : X) : Type 0 where
    stored : Does G (Store s a w) x y → SentStore s a w x y
    refused : length (G.meaning x).landed ≤ a → G.meaning y ≡ G.meaning x → SentStore s a w x y

  -- an entry goes below: exactly its call is made there
  abbrev pub Sent : Side → Kept → X → X → Type 0
  Sent s Kept.Bar x y = Does G (Bar s) x y
  Sent s (Kept.Store a w) x y = SentStore s a w x y

  -- the oldest entry of side s goes below
  pub record SendsOne (s : Side) (b c : Parts X) : Type 0 where
    pub oldest : Kept
    pub was : mine s b ≡ oldest ∷ mine s c
    pub sent : Sent s oldest b.below c.below
    pub rest : c ≡ with_mine s (mine s c) (with_below c.below b)

  -- the n oldest entries of side s go below, one after the other
  pub data Sends (s : Side) (b : Parts X) : ℕ → Parts X → Type 0 where
    none : Sends s b 0 b
    more : {n : ℕ} {c d : Parts X} → Sends s b n c → SendsOne s c d → Sends s b (suc n) d

  -- there is a place for an entry of side s, or it is made: the oldest goes below
  pub data Room (s : Side) (b c : Parts X) : Type 0 where
    found : length (mine s b) < b.depth → c ≡ b → Room s b c
    made : b.depth ≤ length (mine s b) → SendsOne s b c → Room s b c

  -- an entry joins the end of its side's, once there is room
  pub record Joins (s : Side) (q : Kept) (b c : Parts X) : Type 0 where
    pub roomy : Parts X
    pub room : Room s b roomy
    pub after : c ≡ with_mine s (mine s roomy ++ (q ∷ [])) roomy

  -- the own youngest store, otherwise what is seen below
  pub data Looks (s : Side) (a w : ℕ) (b c : Parts X) : Type 0 where
    own_store : {n : ℕ} → a < n → newest a (mine s b) ≡ Some w → Does G (Size n) b.below c.below → c ≡ with_below c.below b → Looks s a w b c
    looks_below : {n : ℕ} {z : X} → newest a (mine s b) ≡ None → Does G (Size n) b.below z → Does G (Look s a w) z c.below → c ≡ with_below c.below b → Looks s a w b c

  -- the stores that wait below and the buffer's own
  pub record Counts (s : Side) (n : ℕ) (b c : Parts X) : Type 0 where
    pub size : ℕ
    pub waiting : ℕ
    pub between : X
    pub sized : Does G (Size size) b.below between
    pub counted : Does G (Count s waiting) between c.below
    pub total : n ≡ min (waiting + stores (own size (mine s b))) (2 ^ 64 - 1)
    pub same : c ≡ with_below c.below b

  -- the t oldest entries of side s, through its first store, go below; t is 0 where there is no store
  pub record Through (s : Side) (t : ℕ) (b c : Parts X) : Type 0 where
    pub size : ℕ
    pub between : X
    pub sized : Does G (Size size) b.below between
    pub first : t ≡ through size (mine s b)
    pub sent : Sends s (with_below between b) t c

  -- a store that waits below lands there; otherwise the oldest entries go below through the first store, and it lands there;
  -- without a store nothing happens
  pub data LandsBelow (s : Side) (k : ℕ) (b c : Parts X) : Type 0 where
    waits_below : {n : ℕ} {z : X} → Does G (Count s n) b.below z → 0 < n → Does G (Land s k) z c.below → c ≡ with_below c.below b → LandsBelow s k b c
    no_store : {n t : ℕ} {z : X} → Does G (Count s n) b.below z → n ≤ 0 → Through s t (with_below z b) c → t ≤ 0 → LandsBelow s k b c
    sends : {n t : ℕ} {z : X} {m : Parts X} → Does G (Count s n) b.below z → n ≤ 0 → Through s t (with_below z b) m → 0 < t → Does G (Land s k) m.below c.below → c ≡ with_below c.below m → LandsBelow s k b c

  -- the feeder's entries go below, then the drawer's, and all drains there
  pub record DrainsBelow (b c : Parts X) : Type 0 where
    pub fed : Parts X
    pub drawn : Parts X
    pub feeder_sent : Sends Feeder b (length b.feeder) fed
    pub drawer_sent : Sends Drawer fed (length fed.drawer) drawn
    pub drained : Does G Drain drawn.below c.below
    pub same : c ≡ with_below c.below drawn

  -- the store's address is looked up below before its entry joins
  pub record Stores (s : Side) (a w : ℕ) (b c : Parts X) : Type 0 where
    pub size : ℕ
    pub between : X
    pub sized : Does G (Size size) b.below between
    pub within : a < size
    pub joins : Joins s (Kept.Store a w) (with_below between b) c

  -- exactly this call
  abbrev pub BufferCall : Call → Parts X → Parts X → Type 0
  BufferCall (Size n) b c = Does G (Size n) b.below c.below × (c ≡ with_below c.below b)
  BufferCall (Look s a w) b c = Looks s a w b c
  BufferCall (Count s n) b c = Counts s n b c
  BufferCall (Store s a w) b c = Stores s a w b c
  BufferCall (Bar s) b c = Joins s Kept.Bar b c
  BufferCall (Land s k) b c = LandsBelow s k b c
  BufferCall Drain b c = DrainsBelow b c

  abbrev pub above : Parts X → Meaning
  above b = over b.feeder b.drawer (G.meaning b.below)

-- a new buffer keeps nothing and has the depth asked for
pub record Opened {X : Type 0} (below : X) (depth : ℕ) (b : Buffer X) : Type 0 where
  pub fits : (1 ≤ depth) × (depth ≤ 16)
  pub empty : parts b ≡ record { below = below; depth = depth; feeder = []; drawer = [] }

-- refused for its depth, and the memory is handed back
pub record Refused {X : Type 0} (below : X) (depth named : ℕ) (back : X) : Type 0 where
  pub outside : 1 ≤ depth → depth ≤ 16 → ⊥
  pub names : named ≡ depth
  pub same : back ≡ below
