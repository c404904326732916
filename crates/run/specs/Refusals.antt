-- The numbers of refusals, as a baker sees them, and the move that a stop names.
use Rattle.std.specs.Prelude.{ℕ}
use Rattle.lane.specs.Refusals.{open_number}
use Rattle.words.specs.Refusals.{refusal}
use Rattle.run.specs.declared.faults.WordFault.{WordFault}
use Rattle.run.specs.declared.faults.RunFault.{RunFault}
use Rattle.run.specs.declared.faults.RunFault.TheVariants.{Opening, Word}
use Rattle.run.specs.declared.faults.Stop.{Stop}
use Rattle.run.specs.declared.faults.Stop.TheVariants.{Damaged, UnknownMove, LogFull}

abbrev pub word_number : WordFault → ℕ
word_number f = refusal f.fault

abbrev pub run_number : RunFault → ℕ
run_number (Opening e) = open_number e
run_number (Word f) = word_number f

abbrev pub stop_number : Stop → ℕ
stop_number (Damaged i) = 9
stop_number (UnknownMove i) = 11
stop_number (LogFull i) = 12

abbrev pub stop_index : Stop → ℕ
stop_index (Damaged i) = i
stop_index (UnknownMove i) = i
stop_index (LogFull i) = i
