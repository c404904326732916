-- The settings of a run book, and what is checked of them.
use Rattle.std.specs.Prelude.{◌≡◌, ℕ, ◌+◌, ◌≤◌, Bool, ◌&&◌, List, [], ◌∷◌, Some, None, Option, nat_le, slice_index}
use Rattle.book.specs.Checks.{Check, check, refuse}
use Rattle.listing.specs.declared.lines.Refusal.{Refusal}
use Rattle.book.specs.Codes.{kind_code, memory_code, one_or_two}
use Rattle.book.specs.declared.depths.Depth.{Depth}
use Rattle.book.specs.declared.settings.Settings.{Settings}
use Rattle.book.specs.declared.settings.BadSetting.{BadSetting}
use Rattle.book.specs.declared.settings.BadSetting.TheVariants.{Unknown, OutOfRange}

abbrev pub from_to : ℕ → ℕ → ℕ → Bool
from_to low high n = nat_le low n && nat_le n high

-- the checks of the five bytes, of which the first stands at this byte of the book:
-- kind of item, rings, cells, kind of memory, depth of the buffer
abbrev pub settings_checks : List ℕ → ℕ → List Check
settings_checks b at =
    check (one_or_two (slice_index b 0)) 10 at
    ∷ check (from_to 2 8 (slice_index b 1)) 3 (at + 1)
    ∷ check (from_to 1 64 (slice_index b 2)) 3 (at + 2)
    ∷ check (one_or_two (slice_index b 3)) 10 (at + 3)
    ∷ check (from_to 0 16 (slice_index b 4)) 3 (at + 4)
    ∷ []

-- a kind that is unknown is refused by 10, a number out of its range by 3
abbrev pub setting_refusal : BadSetting → Refusal
setting_refusal (Unknown byte) = refuse 10 byte
setting_refusal (OutOfRange byte) = refuse 3 byte

-- the entries that a buffer keeps of each side: none without one
abbrev pub entries_of : Option Depth → ℕ
entries_of None = 0
entries_of (Some d) = d.entries

-- the settings that the bytes give
pub record Settled (b : List ℕ) (s : Settings) : Type 0 where
  pub kind : kind_code s.kind ≡ slice_index b 0
  pub rings : s.rings ≡ slice_index b 1
  pub cells : s.cells ≡ slice_index b 2
  pub memory : memory_code s.memory ≡ slice_index b 3
  pub depth : entries_of s.depth ≡ slice_index b 4

-- a lane and a buffer can be made by these numbers
pub record SettingsInRange (s : Settings) : Type 0 where
  pub rings : (2 ≤ s.rings) × (s.rings ≤ 8)
  pub cells : (1 ≤ s.cells) × (s.cells ≤ 64)
  pub depth : entries_of s.depth ≤ 16
