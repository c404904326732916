-- What waits in a memory, by side and address, and what holds what back.
use Rattle.std.specs.Prelude.{◌≡◌, ℕ, ◌+◌, Bool, cond, ◌⊎◌, List, [], ◌∷◌, length, nat_lt, slice_index}
use Rattle.memory.specs.declared.Side.{Side}
use Rattle.memory.specs.declared.Side.TheVariants.{Feeder, Drawer}
use Rattle.memory.specs.Meaning.{Entry, store, bar, Meaning, line, words_to, stores}

abbrev pub other : Side → Side
other Feeder = Drawer
other Drawer = Feeder

-- v is one of the list
abbrev pub In : ℕ → List ℕ → Type 0
In v [] = ⊥
In v (x ∷ xs) = (x ≡ v) ⊎ In v xs

-- a bar stands in the line
abbrev pub HasBar : List Entry → Type 0
HasBar [] = ⊥
HasBar (bar ∷ l) = Unit {0}
HasBar (store a w ∷ l) = HasBar l

-- a store of u to b stands in the line
abbrev pub Has : ℕ → ℕ → List Entry → Type 0
Has b u [] = ⊥
Has b u (bar ∷ l) = Has b u l
Has b u (store a w ∷ l) = ((a ≡ b) × (w ≡ u)) ⊎ Has b u l

-- a bar stands in the line, and behind it a store of u to b
abbrev pub BehindBar : ℕ → ℕ → List Entry → Type 0
BehindBar b u [] = ⊥
BehindBar b u (bar ∷ l) = Has b u l
BehindBar b u (store a w ∷ l) = BehindBar b u l

-- behind each store for which P holds stands a line for which B holds
abbrev pub Each : (ℕ → ℕ → Type 0) → (List Entry → Type 0) → List Entry → Type 0
Each P B [] = Unit {0}
Each P B (bar ∷ l) = Each P B l
Each P B (store a w ∷ l) = (P a w → B l) × Each P B l

-- the stores of v to a, all the others, and all of them
abbrev pub Is : ℕ → ℕ → ℕ → ℕ → Type 0
Is a v c x = (c ≡ a) × (x ≡ v)

abbrev pub IsNot : ℕ → ℕ → ℕ → ℕ → Type 0
IsNot a v c x = Is a v c x → ⊥

abbrev pub Any : ℕ → ℕ → Type 0
Any c x = Unit {0}

-- how many stores of the line go to addresses that pass the test
abbrev pub tally : (ℕ → Bool) → List Entry → ℕ
tally p [] = 0
tally p (bar ∷ l) = tally p l
tally p (store a w ∷ l) = cond (p a) (1 + tally p l) (tally p l)

-- the words of side s's waiting stores to a, oldest first
unfoldable pub words : Side → ℕ → Meaning → List ℕ
words s a m = words_to a (line s m)

unfoldable pub landed_word : ℕ → Meaning → ℕ
landed_word a m = slice_index m.landed a

unfoldable pub size : Meaning → ℕ
size m = length m.landed

-- what stands at an address: the landed word, and each side's waiting words, oldest first
pub record View : Type 0 where
  pub word : ℕ
  pub feeder : List ℕ
  pub drawer : List ℕ

unfoldable pub view : Meaning → ℕ → View
view m a = record { word = landed_word a m; feeder = words Feeder a m; drawer = words Drawer a m }

-- a store of v to a, of side s, waits
unfoldable pub Waits : Side → ℕ → ℕ → Meaning → Type 0
Waits s a v m = In v (words s a m)

-- each waiting store of v to a has behind it a bar, and behind that a store of u to b
unfoldable pub HoldsBack : Side → ℕ → ℕ → ℕ → ℕ → Meaning → Type 0
HoldsBack s a v b u m = Each (Is a v) (BehindBar b u) (line s m)

-- each waiting store of the side has a bar behind it
unfoldable pub AllSealed : Side → Meaning → Type 0
AllSealed s m = Each Any HasBar (line s m)

-- each waiting store of the side but those of u to b has a bar behind it
unfoldable pub SealedBut : Side → ℕ → ℕ → Meaning → Type 0
SealedBut s b u m = Each (IsNot b u) HasBar (line s m)

-- how many stores of the side wait at addresses below n
unfoldable pub waiting_below : ℕ → Side → Meaning → ℕ
waiting_below n s m = tally (λ a. nat_lt a n) (line s m)

unfoldable pub NothingWaits : Meaning → Type 0
NothingWaits m = (m.feeder ≡ []) × (m.drawer ≡ [])

-- all the stores that wait, of both sides
abbrev pub waiting : Meaning → ℕ
waiting m = stores m.feeder + stores m.drawer
