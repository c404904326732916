-- What a memory means, and what may become of it.
use Rattle.std.specs.Prelude.{◌≡◌, ℕ, ◌+◌, ◌-◌, ◌^◌, ◌<◌, ◌≤◌, min, Bool, true, false, cond, List, [], ◌∷◌, ◌++◌, length, ◌==◌, ◌≢◌, slice_index, slice_set}
use Rattle.memory.specs.declared.Side.{Side}
use Rattle.memory.specs.declared.Side.TheVariants.{Feeder, Drawer}

-- what a side asked for that has not taken effect yet
pub data Entry : Type 0 where
  store : ℕ → ℕ → Entry
  bar : Entry

-- the landed words by address, and each side's line, oldest first
pub record Meaning : Type 0 where
  pub landed : List ℕ
  pub feeder : List Entry
  pub drawer : List Entry

abbrev pub line : Side → Meaning → List Entry
line Feeder m = m.feeder
line Drawer m = m.drawer

abbrev pub with_line : Side → List Entry → Meaning → Meaning
with_line Feeder l m = record { landed = m.landed; feeder = l; drawer = m.drawer }
with_line Drawer l m = record { landed = m.landed; feeder = m.feeder; drawer = l }

abbrev pub with_word : ℕ → ℕ → Meaning → Meaning
with_word a w m = record { landed = slice_set m.landed a w; feeder = m.feeder; drawer = m.drawer }

-- a line without the bars that hold nothing back: at its head, or behind another bar
abbrev pub tidy_from : Bool → List Entry → List Entry
tidy_from b [] = []
tidy_from true (bar ∷ l) = tidy_from true l
tidy_from false (bar ∷ l) = bar ∷ tidy_from true l
tidy_from true (store a w ∷ l) = store a w ∷ tidy_from false l
tidy_from false (store a w ∷ l) = store a w ∷ tidy_from false l

abbrev pub tidy : List Entry → List Entry
tidy l = tidy_from true l

-- the words of a line's stores to a, oldest first
abbrev pub words_to : ℕ → List Entry → List ℕ
words_to a [] = []
words_to a (bar ∷ l) = words_to a l
words_to a (store b v ∷ l) = cond (b == a) (v ∷ words_to a l) (words_to a l)

-- the last of a list, or d where it is empty
abbrev pub last_or : List ℕ → ℕ → ℕ
last_or [] d = d
last_or (x ∷ xs) d = last_or xs x

-- the word of the side's youngest waiting store to a, or the landed word
abbrev pub look : Side → ℕ → Meaning → ℕ
look s a m = last_or (words_to a (line s m)) (slice_index m.landed a)

-- how many stores wait in a line
abbrev pub stores : List Entry → ℕ
stores [] = 0
stores (bar ∷ l) = stores l
stores (store a w ∷ l) = 1 + stores l

-- what joins the end of a side's line
abbrev pub joined : Side → Entry → Meaning → Meaning
joined s e m = with_line s (tidy (line s m ++ (e ∷ []))) m

-- a store of w to a can land, and leaves this line: no bar and no store to a stands before it
pub data Out (a w : ℕ) : List Entry → List Entry → Type 0 where
  here : {l : List Entry} → Out a w (store a w ∷ l) l
  past : {b v : ℕ} {l k : List Entry} → (b ≢ a) → Out a w l k → Out a w (store b v ∷ l) (store b v ∷ k)

-- a store of w to a, of side s, lands
pub record Lands (s : Side) (a w : ℕ) (m n : Meaning) : Type 0 where
  pub rest : List Entry
  pub out : Out a w (line s m) rest
  pub after : n ≡ with_line s (tidy rest) (with_word a w m)

-- any number of stores, of either side, land
pub data Landings : Meaning → Meaning → Type 0 where
  none : {m : Meaning} → Landings m m
  next : {m n o : Meaning} (s : Side) (a w : ℕ) → Lands s a w m n → Landings n o → Landings m o

-- one call of a memory with its answer
pub data Call : Type 0 where
  Size : ℕ → Call
  Look : Side → ℕ → ℕ → Call
  Count : Side → ℕ → Call
  Store : Side → ℕ → ℕ → Call
  Bar : Side → Call
  Land : Side → ℕ → Call
  Drain : Call

-- what a call and its answer say of the meaning before and after it
abbrev pub Rule : Call → Meaning → Meaning → Type 0
Rule (Size n) m o = (n ≡ length m.landed) × (o ≡ m)
Rule (Look s a w) m o = (a < length m.landed) × (w ≡ look s a m) × (o ≡ m)
Rule (Count s n) m o = (n ≡ min (stores (line s m)) (2 ^ 64 - 1)) × (o ≡ m)
Rule (Store s a w) m o = (a < length m.landed) × Landings (joined s (store a w) m) o
Rule (Bar s) m o = Landings (joined s bar m) o
Rule (Land s k) m o = Landings m o × (0 < stores (line s m) → stores (line s o) < stores (line s m))
Rule Drain m o = Landings m o × (line Feeder o ≡ []) × (line Drawer o ≡ [])

-- exactly the call k was made, and it kept the rules
pub record Made {X : Type 0} (meaning : X → Meaning) (calls : Call → X → X → Type 0) (k : Call) (x y : X) : Type 0 where
  pub call : calls k x y
  pub rule : Rule k (meaning x) (meaning y)

-- refused for want of the address a, with nothing changed
pub record NoPlace {X : Type 0} (meaning : X → Meaning) (a b : ℕ) (x y : X) : Type 0 where
  pub beyond : length (meaning x).landed ≤ a
  pub names : b ≡ a
  pub same : meaning y ≡ meaning x
