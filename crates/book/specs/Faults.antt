-- The number of each fault of a book, and the byte of the book that it names.
use Rattle.std.specs.Prelude.{ℕ, ◌+◌, ◌*◌, ◌≤◌, Some, None, Option}
use Rattle.run.specs.Refusals.{run_number, stop_number, stop_index}
use Rattle.run.specs.declared.faults.RunFault.{RunFault}
use Rattle.run.specs.declared.faults.RunFault.TheVariants.{Opening, Word}
use Rattle.run.specs.declared.faults.Stop.{Stop}
use Rattle.listing.specs.declared.lines.Refusal.{Refusal}
use Rattle.book.specs.Checks.{refuse}
use Rattle.book.specs.Layout.{layout_refusal}
use Rattle.book.specs.Settings.{setting_refusal}
use Rattle.book.specs.declared.header.Layout.{Layout}
use Rattle.book.specs.declared.faults.BookFault.{BookFault}
use Rattle.book.specs.declared.faults.BookFault.TheVariants as fault

abbrev pub book_number : BookFault → ℕ
book_number (fault.Layout b) = (layout_refusal b).number
book_number (fault.Setting b) = (setting_refusal b).number
book_number (fault.Run b) = run_number b.fault

abbrev pub fault_byte : BookFault → ℕ
fault_byte (fault.Layout b) = (layout_refusal b).byte
fault_byte (fault.Setting b) = (setting_refusal b).byte
fault_byte (fault.Run b) = b.byte

-- the refusal of a book's fault
abbrev pub book_refusal : BookFault → Refusal
book_refusal f = refuse (book_number f) (fault_byte f)

-- a word's first byte; an opening is refused for its settings
abbrev pub run_byte : Layout → RunFault → ℕ
run_byte l (Opening e) = l.settings.offset
run_byte l (Word f) = l.words.offset + 8 * f.index

-- the refusal of a run's fault, in a book of this layout
abbrev pub run_refusal : Layout → RunFault → Refusal
run_refusal l f = refuse (run_number f) (run_byte l f)

-- the move that a run stops at
abbrev pub stop_byte : Layout → Stop → ℕ
stop_byte l s = l.moves.offset + stop_index s

abbrev pub stop_refusal : Layout → Stop → Refusal
stop_refusal l s = refuse (stop_number s) (stop_byte l s)

-- the word that a fault names can be one of a book
abbrev pub WithinBook : RunFault → Type 0
WithinBook (Opening e) = Unit {0}
WithinBook (Word f) = f.index ≤ 8188

-- the fault is in what is read before the run
abbrev pub BeforeRun : BookFault → Type 0
BeforeRun (fault.Layout b) = Unit {0}
BeforeRun (fault.Setting b) = Unit {0}
BeforeRun (fault.Run b) = ⊥

-- the move that a run stops at can be one of a book
abbrev pub StopsWithinBook : Option Stop → Type 0
StopsWithinBook None = Unit {0}
StopsWithinBook (Some s) = stop_index s ≤ 65536
