-- How a run book is laid out, and what is checked of its header.
use Rattle.std.specs.Prelude.{◌≡◌, ℕ, ◌+◌, ◌*◌, ◌%◌, ◌≤◌, List, [], ◌∷◌, ◌++◌, length, ◌==◌, nat_le, slice_index}
use Rattle.listing.specs.declared.lines.Refusal.{Refusal}
use Rattle.book.specs.Checks.{Check, check, refuse}
use Rattle.book.specs.declared.header.Part.{Part}
use Rattle.book.specs.declared.header.Header.{Header}
use Rattle.book.specs.declared.header.Layout.{Layout}
use Rattle.book.specs.declared.header.BadLayout.{BadLayout}

-- the byte at a place
abbrev pub byte : List ℕ → ℕ → ℕ
byte book k = slice_index book k

-- the number in the four bytes from a place on, the low byte first
abbrev pub field : List ℕ → ℕ → ℕ
field book k = byte book k + byte book (k + 1) * 256 + byte book (k + 2) * 65536 + byte book (k + 3) * 16777216

-- the part whose pair stands at a place: offset, then length
abbrev pub part_at : List ℕ → ℕ → Part
part_at book k = record { offset = field book k; size = field book (k + 4) }

abbrev pub layout_of : List ℕ → Layout
layout_of book = record { settings = part_at book 1; words = part_at book 9; moves = part_at book 17 }

abbrev pub header_of : List ℕ → Header
header_of book = record { first = byte book 0; layout = layout_of book }

-- where a part ends
abbrev pub stop : Part → ℕ
stop p = p.offset + p.size

-- a part starts where the former one has ended, or later, and ends within the book
abbrev pub part_checks : ℕ → ℕ → ℕ → Part → List Check
part_checks size from at p = check (nat_le from p.offset) 10 at ∷ check (nat_le (stop p) size) 10 (at + 4) ∷ []

-- the checks of the first byte and of the pairs, in byte order, in a book of this size
abbrev pub pair_checks : ℕ → Header → List Check
pair_checks size h =
    check (h.first == 3) 10 0
    ∷ (part_checks size 25 1 h.layout.settings
    ++ (check (h.layout.settings.size == 5) 10 5
    ∷ (part_checks size (stop h.layout.settings) 9 h.layout.words
    ++ (check (h.layout.words.size % 8 == 0) 10 13
    ∷ part_checks size (stop h.layout.words) 17 h.layout.moves))))

-- the checks of the header: the book's length first, then in byte order
abbrev pub header_checks : List ℕ → List Check
header_checks book =
    check (nat_le (length book) 65536) 10 65536
    ∷ check (nat_le 25 (length book)) 10 (length book)
    ∷ pair_checks (length book) (header_of book)

-- a bad layout is refused by 10 at its byte
abbrev pub layout_refusal : BadLayout → Refusal
layout_refusal b = refuse 10 b.byte

-- the parts of a book of this size lie one behind the other
pub record WellLaidOut (size : ℕ) (l : Layout) : Type 0 where
  pub few : size ≤ 65536
  pub settings_start : 25 ≤ l.settings.offset
  pub settings_size : l.settings.size ≡ 5
  pub words_start : stop l.settings ≤ l.words.offset
  pub words_whole : l.words.size % 8 ≡ 0
  pub moves_start : stop l.words ≤ l.moves.offset
  pub moves_end : stop l.moves ≤ size
