-- How a run starts.
use Rattle.std.proofs.Common.{◌≡◌, ℕ, zero, suc, List, Ok, Err, Result, refl}
use Rattle.words.specs.declared.kinds.Kind as kind
use Rattle.memory.specs.declared.Memory as memory
use Rattle.run.specs.declared.faults.RunFault.{RunFault}
use Rattle.run.specs.declared.records.Record.{Record}
use Rattle.run.specs.declared.tallies.Tally.{Tally}
use Rattle.book.specs.Choices.{BareBuffer, buffered, ComesTo, WithDepth}

module _ {K X : Type 0} (G : memory.Ghosts X) (κ : kind.Ghosts K) where
  -- a run that starts so starts as whatever this says of the start
  pub started : (S T : X → Type 0) (R N : ℕ) (words moves : List ℕ) (r : Result Tally RunFault) (records : List Record) → ((x : X) → S x → T x) → ComesTo G κ S R N words moves r records → ComesTo G κ T R N words moves r records
  started S T R N words moves (Ok t) records f h = record { start = h.start; end = h.end; before = h.before; after = h.after; starts = f h.start h.starts; places = h.places; ran = h.ran; recorded = h.recorded }
  started S T R N words moves (Err why) records f h = record { start = h.start; end = h.end; starts = f h.start h.starts; unbegun = h.unbegun; recorded = h.recorded }

  pub with_buffer : (d R N : ℕ) (words moves : List ℕ) (r : Result Tally RunFault) (records : List Record) → (d ≡ 0 → ⊥) → ComesTo (buffered G) κ (BareBuffer G d) R N words moves r records → WithDepth G κ d R N words moves r records
  with_buffer zero R N words moves r records n h = absurd (n refl)
  with_buffer (suc d) R N words moves r records n h = h
