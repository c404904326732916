-- What is checked of a book before its words, and what a book that passes says of its run.
use Rattle.std.specs.Prelude.{◌≡◌, ℕ, List, ◌++◌, length, drop}
use Rattle.book.specs.Checks.{Check}
use Rattle.book.specs.Layout.{layout_of, header_checks, WellLaidOut}
use Rattle.book.specs.Settings.{settings_checks, Settled, SettingsInRange}
use Rattle.book.specs.declared.plans.Plan.{Plan}

-- the bytes of the settings
abbrev pub settings_bytes : List ℕ → List ℕ
settings_bytes book = drop (layout_of book).settings.offset book

-- header, then settings
abbrev pub plan_checks : List ℕ → List Check
plan_checks book = header_checks book ++ settings_checks (settings_bytes book) (layout_of book).settings.offset

-- what a plan says of its book
pub record Planned (book : List ℕ) (p : Plan) : Type 0 where
  pub layout : p.layout ≡ layout_of book
  pub laid_out : WellLaidOut (length book) (layout_of book)
  pub settled : Settled (settings_bytes book) p.settings
  pub in_range : SettingsInRange p.settings
