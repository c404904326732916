-- The line that a list of waiting stores stands for, and which of its stores can land.
use Rattle.std.specs.Prelude.{◌≡◌, ℕ, ◌+◌, ◌<◌, Bool, true, false, cond, List, [], ◌∷◌, ◌++◌, length, take, ◌==◌, slice_index_or}
use Rattle.memory.specs.declared.line.Waiting.{Waiting}
use Rattle.memory.specs.declared.line.Line.{Line}
use Rattle.memory.specs.Meaning.{Entry, store, bar, tidy}

abbrev pub fence : Bool → List Entry
fence b = cond b (bar ∷ []) []

-- each store with the bar before it, and the bar at the end
abbrev pub entries_of : List Waiting → Bool → List Entry
entries_of [] f = fence f
entries_of (w ∷ l) f = fence w.barred ++ (store w.address w.word ∷ entries_of l f)

abbrev pub line_of : List Waiting → Bool → List Entry
line_of l f = tidy (entries_of l f)

abbrev pub line_in : Line → List Entry
line_in l = line_of l.waiting.items l.fenced

-- what stands where nothing waits
abbrev pub blank : Waiting
blank = record { address = 0; word = 0; barred = false }

-- what of the line stands before store number i
abbrev pub older_than : List Waiting → ℕ → List Entry
older_than l i = line_of (take i l) (slice_index_or l i blank).barred

-- an older store holds a later one to a back if it is to a itself, or a bar follows it
abbrev pub holds_back : Waiting → Waiting → ℕ → Bool
holds_back older follower a = cond (older.address == a) true follower.barred

-- nothing in this part of a line holds back a store to a behind it: no bar, and no store to a
abbrev pub free : ℕ → List Entry → Bool
free a [] = true
free a (bar ∷ l) = false
free a (store b v ∷ l) = cond (b == a) false (free a l)

-- how many stores of the second part can land, where the first part stands before it
abbrev pub ready : List Entry → List Entry → ℕ
ready p [] = 0
ready p (bar ∷ l) = ready (p ++ (bar ∷ [])) l
ready p (store a w ∷ l) = cond (free a p) 1 0 + ready (p ++ (store a w ∷ [])) l

-- store number i can land, and k of those before it can
pub record Numbered (k : ℕ) (l : List Waiting) (i : ℕ) : Type 0 where
  pub within : i < length l
  pub can : free (slice_index_or l i blank).address (older_than l i) ≡ true
  pub number : ready [] (older_than l i) ≡ k

-- of the stores of the line l that can land, counted from 0 with the oldest first, number k goes out of it, a store of w to a
pub record TakenOut (k : ℕ) (l : List Entry) (a w : ℕ) (left : List Entry) : Type 0 where
  pub older : List Entry
  pub younger : List Entry
  pub waits : l ≡ older ++ (store a w ∷ younger)
  pub can : free a older ≡ true
  pub number : ready [] older ≡ k
  pub after : left ≡ tidy (older ++ younger)
