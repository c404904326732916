-- Whose words a memory works on.
use Rattle.std.specs.Prelude.{◌≡◌, ℕ, List}
use Rattle.std.specs.Borrow.{MutBor}

-- both stand for the same words of one owner, who finds in them, once the memory is gone, what it left there
abbrev pub SameWords : MutBor (List ℕ) → MutBor (List ℕ) → Type 0
SameWords x y = y.ghost_name ≡ x.ghost_name
