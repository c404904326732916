-- What the run of a book leaves in its log, and its listing.
use Rattle.std.specs.Prelude.{◌≡◌, ℕ, ◌≤◌, List, [], length, take as first, drop, Some, None, Ok, Err, Option, Result}
use Rattle.run.specs.declared.faults.RunFault.{RunFault}
use Rattle.run.specs.declared.faults.Stop.{Stop}
use Rattle.run.specs.declared.records.Record.{Record}
use Rattle.run.specs.declared.tallies.Tally.{Tally}
use Rattle.listing.specs.Listing.{listing}
use Rattle.listing.specs.Places.{Placed}
use Rattle.listing.specs.declared.lines.End.{End}
use Rattle.listing.specs.declared.lines.Refusal.{Refusal}
use Rattle.book.specs.Checks.{first_refusal}
use Rattle.book.specs.Layout.{layout_of}
use Rattle.book.specs.Settings.{Settled}
use Rattle.book.specs.Faults.{run_byte, run_refusal, stop_refusal}
use Rattle.book.specs.ItemWords.{words_in}
use Rattle.book.specs.Plans.{plan_checks, settings_bytes}
use Rattle.book.specs.Choices.{RunBy, records_in}
use Rattle.book.specs.declared.header.Layout.{Layout}
use Rattle.book.specs.declared.header.Part.{Part}
use Rattle.book.specs.declared.settings.Settings.{Settings}
use Rattle.book.specs.declared.plans.Plan.{Plan}
use Rattle.book.specs.declared.faults.BadRun.{BadRun}

-- the bytes of a part
abbrev pub bytes_of : Part → List ℕ → List ℕ
bytes_of p book = first p.size (drop p.offset book)

abbrev pub book_words : List ℕ → List ℕ
book_words book = words_in (bytes_of (layout_of book).words book)

abbrev pub book_moves : List ℕ → List ℕ
book_moves book = bytes_of (layout_of book).moves book

-- the end of a book that is refused before the first move
abbrev pub refused_end : Refusal → End
refused_end q = record { moves = 0; refusal = Some q }

-- the end of a run: how many moves it made, and what stopped it
abbrev pub stopped_end : Layout → ℕ → Option Stop → End
stopped_end l made None = record { moves = made; refusal = None }
stopped_end l made (Some s) = record { moves = made; refusal = Some (stop_refusal l s) }

abbrev pub end_of : Layout → Result Tally RunFault → End
end_of l (Ok t) = stopped_end l t.moves t.stop
end_of l (Err f) = refused_end (run_refusal l f)

-- the run of a book whose header and settings are good
pub record BookRun (book : List ℕ) (records : List Record) (end : End) : Type 0 where
  pub settings : Settings
  pub settled : Settled (settings_bytes book) settings
  pub result : Result Tally RunFault
  pub run : RunBy settings (book_words book) (book_moves book) result records
  pub ends : end ≡ end_of (layout_of book) result

-- the first refusal of the header or the settings, or the run
abbrev pub OutcomeBy : Option Refusal → List ℕ → List Record → End → Type 0
OutcomeBy (Some q) book records end = (records ≡ []) × (end ≡ refused_end q)
OutcomeBy None book records end = BookRun book records end

abbrev pub Outcome : List ℕ → List Record → End → Type 0
Outcome book records end = OutcomeBy (first_refusal (plan_checks book)) book records end

-- the place has the listing of the book's run, for which 37,938 bytes always suffice
pub record Listed (book before after : List ℕ) (count : ℕ) : Type 0 where
  pub records : List Record
  pub end : End
  pub outcome : Outcome book records end
  pub placed : Placed (listing records end) before after count
  pub room : 37938 ≤ length before → length (listing records end) ≤ length before

-- the run by a plan
abbrev pub PlanRun : List ℕ → Settings → Result Tally RunFault → List Record → Type 0
PlanRun book s r log = RunBy s (book_words book) (book_moves book) r (records_in r log)

-- the run by a plan that does not begin, with the byte that it is refused for
abbrev pub PlanUnrun : List ℕ → Plan → BadRun → List Record → Type 0
PlanUnrun book p b log = PlanRun book p.settings (Err b.fault) log × (b.byte ≡ run_byte p.layout b.fault)
