-- A run keeps the promise.
use Rattle.std.proofs.Common.{◌≡◌, ℕ, List, ◌++◌, ap, subst}
use Rattle.memory.specs.declared.Memory as memory
use Rattle.words.specs.declared.kinds.Kind as kind
use Rattle.lane.specs.Moments.{Moment}
use Rattle.lane.specs.Openings.{Openable}
use Rattle.lane.specs.Stages.{putting, taking}
use Rattle.queue.specs.Turns.{JustOpenedOver}
use Rattle.queue.proofs.Keeping.{promise_kept}
use Rattle.run.specs.declared.records.Record.{Record}
use Rattle.run.specs.declared.tallies.Tally.{Tally}
use Rattle.run.specs.Spelling.{Spelled}
use Rattle.run.specs.Promised.{MadeMoves, RanAsPromised}
use Rattle.run.specs.Running.{Ready}
use Rattle.run.proofs.Telling.{log_tells, out_first}

module _ {K X : Type 0} (G : memory.Ghosts X) (κ : kind.Ghosts K) where
  -- a lane just opened is ready
  pub opened_ready : {number R N : ℕ} {x : X} {m : Moment K X} → JustOpenedOver G number R N x m → Ready m
  opened_ready o = record { no_put = ap (λ (m : Moment K X). putting m.feeder.stage) o.is; no_take = ap (λ (m : Moment K X). taking m.drawer.stage) o.is }

  module _ (marked : (x : K) → κ.word x ≡ 0 → ⊥) (single : (x y : K) → κ.word x ≡ κ.word y → x ≡ y) where
    pub run_as_promised : {R N : ℕ} {x asked : X} {m : Moment K X} {words moves : List ℕ} {before after : List Record} {t : Tally} {y : X} → Openable G R N x asked → Spelled κ words → JustOpenedOver G 0 R N asked m → MadeMoves G κ m words moves before after t y → RanAsPromised G κ R N words moves x before after t y
    run_as_promised {R} {N} {x} {asked} {m} {words} {moves} {before} {after} {t} {y} w s o p =
        let made = subst (λ (z : Moment K X). MadeMoves G κ z words moves before after t y) o.is p in
        let tells = log_tells κ made.runs made.stopped in
        let promise = promise_kept G κ marked single R N o.shaped 0 asked m.memory (made.events ++ made.unfinished) made.end o.opens made.leads in
        record { asked = asked; openable = w; spelled = s; memory = m.memory; opens = o.opens; made = made; tells_of_calls = tells.calls; promise = promise; out_as_in = out_first κ made.records (made.events ++ made.unfinished) tells.went_in tells.came_out promise.taken_in_order; in_as_offered = tells.offered }
