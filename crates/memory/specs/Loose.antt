-- What the loose memory means and does.
use Rattle.std.specs.Prelude.{◌≡◌, ℕ, ◌%◌, ◌<◌, ◌≤◌, List, [], ◌∷◌, length, slice_set}
use Rattle.memory.specs.declared.Side.{Side}
use Rattle.memory.specs.declared.Side.TheVariants.{Feeder, Drawer}
use Rattle.memory.specs.declared.loose.Loose.{Loose}
use Rattle.memory.specs.Meaning.{Entry, store, bar, Meaning, line, with_line, with_word, look, stores, joined, tidy, Call, Size, Look, Count, Store, Bar, Land, Drain}
use Rattle.memory.specs.Owner.{SameWords}
use Rattle.memory.specs.Line.{line_in, ready, TakenOut}

abbrev pub loose_meaning : Loose → Meaning
loose_meaning x = record { landed = x.words.now; feeder = line_in x.lines.feeder; drawer = line_in x.lines.drawer }

-- R says what became of the meaning, and the words are still those of one owner
pub record Becomes (R : Meaning → Meaning → Type 0) (x y : Loose) : Type 0 where
  pub means : R (loose_meaning x) (loose_meaning y)
  pub owner : SameWords x.words y.words

-- of the stores of side s that can land, counted from 0 with the oldest first, number k lands
pub record Picked (s : Side) (k : ℕ) (m n : Meaning) : Type 0 where
  pub address : ℕ
  pub word : ℕ
  pub left : List Entry
  pub out : TakenOut k (line s m) address word left
  pub after : n ≡ with_line s left (with_word address word m)

-- the oldest store of side s lands
pub record Oldest (s : Side) (m n : Meaning) : Type 0 where
  pub address : ℕ
  pub word : ℕ
  pub younger : List Entry
  pub waits : line s m ≡ store address word ∷ younger
  pub after : n ≡ with_line s (tidy younger) (with_word address word m)

-- no store of side s can land, and nothing changes
pub record Idle (s : Side) (m o : Meaning) : Type 0 where
  pub none_ready : ready [] (line s m) ≡ 0
  pub same : o ≡ m

-- number k, modulo their count, of the stores of side s that can land, a store of w to a, goes out of its line
pub record Taken (s : Side) (k a w : ℕ) (m o : Meaning) : Type 0 where
  pub some_ready : 0 < ready [] (line s m)
  pub out : TakenOut (k % ready [] (line s m)) (line s m) a w (line s o)
  pub after : o ≡ with_line s (line s o) m

-- number k, modulo their count, of the stores of side s that can land lands
pub data Landed (s : Side) (k : ℕ) (m o : Meaning) : Type 0 where
  nothing : Idle s m o → Landed s k m o
  one : 0 < ready [] (line s m) → Picked s (k % ready [] (line s m)) m o → Landed s k m o

-- there is a place for a store of side s, or it is made: where sixteen stores wait, the oldest lands
pub data Room (s : Side) (m n : Meaning) : Type 0 where
  found : stores (line s m) < 16 → n ≡ m → Room s m n
  made : stores (line s m) ≡ 16 → Oldest s m n → Room s m n

-- a store of w to a joins the line of side s, once there is room
pub record Stored (s : Side) (a w : ℕ) (m o : Meaning) : Type 0 where
  pub roomy : Meaning
  pub room : Room s m roomy
  pub after : o ≡ joined s (store a w) roomy

-- the words after each store of a line, oldest first
abbrev pub after_all : List Entry → List ℕ → List ℕ
after_all [] v = v
after_all (bar ∷ l) v = after_all l v
after_all (store a w ∷ l) v = after_all l (slice_set v a w)

-- all stores of side s have landed, oldest first
abbrev pub all_landed : Side → Meaning → Meaning
all_landed s m = with_line s [] (record { landed = after_all (line s m) m.landed; feeder = m.feeder; drawer = m.drawer })

abbrev pub drained : Meaning → Meaning
drained m = all_landed Drawer (all_landed Feeder m)

-- exactly this call, from the meaning m to the meaning o
abbrev pub LooseCall : Call → Meaning → Meaning → Type 0
LooseCall (Size n) m o = (n ≡ length m.landed) × (o ≡ m)
LooseCall (Look s a w) m o = (a < length m.landed) × (w ≡ look s a m) × (o ≡ m)
LooseCall (Count s n) m o = (n ≡ stores (line s m)) × (n ≤ 16) × (o ≡ m)
LooseCall (Store s a w) m o = (a < length m.landed) × Stored s a w m o
LooseCall (Bar s) m o = o ≡ joined s bar m
LooseCall (Land s k) m o = Landed s k m o
LooseCall Drain m o = o ≡ drained m
