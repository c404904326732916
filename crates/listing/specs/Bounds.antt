-- The place that always suffices for the listing of a book's run.
use Rattle.std.specs.Prelude.{ℕ, ◌+◌, ◌*◌, ◌<◌, List, [], ◌∷◌, length}
use Rattle.run.specs.declared.records.Record.{Record}

-- each record is of one of the first 65,536 moves
abbrev pub Early : List Record → Type 0
Early [] = Unit {0}
Early (r ∷ rs) = (r.index < 65536) × Early rs

-- 37 bytes for each of these and 50 for the end: so 37,938 for a log of 1,024 records
abbrev pub room_for : List Record → ℕ
room_for rs = 37 * length rs + 50
