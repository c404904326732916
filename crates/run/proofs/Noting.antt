-- A call noted in the log.
use Rattle.std.proofs.Common.{ℕ, ◌+◌, ◌<◌, List, [], ◌∷◌, length, set, sym, refl, add-zero, add-one}
use Rattle.std.proofs.lemmas.List.{take-append-drop, set_split}
use Rattle.run.specs.declared.records.Record.{Record}
use Rattle.run.specs.Logs.{Call, at_move}
use Rattle.run.specs.Running.{Noted}

pub noted_none : (n calls : ℕ) (log : List Record) → Noted n [] calls log log calls
noted_none n calls log = record { counted = sym (add-zero calls); logged = rw (add-zero calls) (sym (take-append-drop calls log)) }

pub noted_one : (n : ℕ) (c : Call) (calls : ℕ) (log : List Record) → calls < length log → Noted n (c ∷ []) calls log (set log calls (at_move n c)) (calls + 1)
noted_one n c calls log h = record { counted = refl; logged = rw (add-one calls) (set_split log calls (at_move n c) h) }
