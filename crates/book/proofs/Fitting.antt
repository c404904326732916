-- What a run leaves is within its book and its log.
use Rattle.std.proofs.Common.{◌≡◌, ℕ, zero, suc, ◌+◌, ◌-◌, ◌<◌, ◌≤◌, List, [], ◌∷◌, ◌++◌, map, length, take as first, Some, None, Ok, Err, Option, Result, sym, ap, ◌∙◌, subst, arith}
use Rattle.std.proofs.lemmas.List.{length-append, length-drop, length-take, take_at}
use Rattle.words.specs.declared.kinds.Kind as kind
use Rattle.memory.specs.declared.Memory as memory
use Rattle.queue.specs.History.{Event}
use Rattle.run.specs.Logs.{Call, at_move}
use Rattle.run.specs.Refusals.{stop_index}
use Rattle.run.specs.Runs.{Standing, Makes, puts, rests, takes, drains, lands, Runs, not_yet, one_more, Stopped, all_made, unknown, log_full, damaged}
use Rattle.run.specs.declared.faults.RunFault.{RunFault}
use Rattle.run.specs.declared.faults.RunFault.TheVariants.{Opening, Word}
use Rattle.run.specs.declared.faults.Stop.{Stop}
use Rattle.run.specs.declared.orders.Order.{Order}
use Rattle.run.specs.declared.records.Record.{Record}
use Rattle.run.specs.declared.tallies.Tally.{Tally}
use Rattle.listing.specs.Bounds.{Early}
use Rattle.book.specs.Choices.{Begun, ComesTo, Bare, BareBuffer, buffered, WithDepth, WithMemory, WithKind, RunBy, prompt, loose, edits, readings}
use Rattle.book.specs.declared.codes.ItemKind.{ItemKind}
use Rattle.book.specs.declared.codes.ItemKind.TheVariants as item
use Rattle.book.specs.declared.codes.MemoryKind.{MemoryKind}
use Rattle.book.specs.declared.codes.MemoryKind.TheVariants as memory_kind
use Rattle.book.specs.Settings.{entries_of}
use Rattle.book.specs.declared.settings.Settings.{Settings}

early_both : (rs qs : List Record) → Early rs → Early qs → Early (rs ++ qs)
early_both [] qs h k = k
early_both (r ∷ rs) qs h k = (h.0, early_both rs qs h.1 k)

early_calls : (n : ℕ) (cs : List Call) → n < 65536 → Early (map (at_move n) cs)
early_calls n [] h = tt
early_calls n (c ∷ cs) h = (h, early_calls n cs h)

module _ {K : Type 0} (κ : kind.Ghosts K) where
  early_move : {n : ℕ} {s t : Standing} {o : Order} {e : List (Event K)} {r : List Record} → Makes κ n s o e r t → n < 65536 → Early r
  early_move {n} (puts x y a d) h = early_calls n _ h
  early_move rests h = tt
  early_move {n} (takes x y a d) h = early_calls n _ h
  early_move drains h = tt
  early_move lands h = tt

  early_run : {places : ℕ} {words bytes : List ℕ} {h : List (Event K)} {rs : List Record} {s : Standing} → Runs κ places words bytes h rs s → length bytes ≤ 65536 → Early rs
  early_run not_yet l = tt
  early_run (one_more {bytes} {h} {e} {rs} {r} byte before asks room makes) l =
      let k : length (bytes ++ (byte ∷ [])) ≡ length bytes + 1 = length-append bytes (byte ∷ []) in
      early_both rs r (early_run before (omega arith)) (early_move makes (omega arith))

-- a stop names one of these moves
abbrev pub StopsBelow : ℕ → Option Stop → Type 0
StopsBelow n None = Unit {0}
StopsBelow n (Some s) = stop_index s < n

module _ {K : Type 0} (κ : kind.Ghosts K) where
  stops_below : {places : ℕ} {moves : List ℕ} {made : ℕ} {rs : List Record} {s : Standing} {o : Option Stop} {e : List (Event K)} → Stopped κ places moves made rs s o e → StopsBelow (length moves) o
  stops_below (all_made h) = tt
  stops_below (unknown h u) = h
  stops_below (log_full h a s f) = h
  stops_below (damaged h a f m) = h

abbrev pub Fitting : List ℕ → List ℕ → Result Tally RunFault → List Record → Type 0
Fitting words moves (Ok t) records = (t.calls ≤ 1024) × StopsBelow (length moves) t.stop × (length moves ≤ 65536 → Early records)
Fitting words moves (Err (Opening e)) records = Unit {0}
Fitting words moves (Err (Word f)) records = f.index < length words

module _ {K X : Type 0} (G : memory.Ghosts X) (κ : kind.Ghosts K) (Start : X → Type 0) (R N : ℕ) (words moves : List ℕ) where
  begun_fits : (t : Tally) (records : List Record) → Begun G κ Start R N words moves t records → Fitting words moves (Ok t) records
  begun_fits t records b =
      let m = b.ran.made in
      let l : length b.after ≡ length m.records + (length b.before - length m.records) = ap length m.logged ∙ length-append m.records _ ∙ ap (λ n. length m.records + n) (length-drop (length m.records) b.before) in
      let e : records ≡ m.records = b.recorded ∙ ap (first t.calls) m.logged ∙ take_at m.records _ t.calls (sym m.counted) in
      let c = m.counted in
      let p = b.places in
      (omega arith, stops_below κ m.stopped, λ few. subst Early (sym e) (early_run κ m.runs (omega (arith, length-take t.moves moves))))

  comes_fit : (r : Result Tally RunFault) (records : List Record) → ComesTo G κ Start R N words moves r records → Fitting words moves r records
  comes_fit (Ok t) records h = begun_fits t records h
  comes_fit (Err (Opening e)) records h = tt
  comes_fit (Err (Word f)) records h = h.unbegun.1.within

depth_fits : {K X : Type 0} (G : memory.Ghosts X) (κ : kind.Ghosts K) (d R N : ℕ) (words moves : List ℕ) (r : Result Tally RunFault) (records : List Record) → WithDepth G κ d R N words moves r records → Fitting words moves r records
depth_fits G κ zero R N words moves r records h = comes_fit G κ (Bare G) R N words moves r records h
depth_fits G κ (suc d) R N words moves r records h = comes_fit (buffered G) κ (BareBuffer G (suc d)) R N words moves r records h

memory_fits : {K : Type 0} (κ : kind.Ghosts K) (m : MemoryKind) (d R N : ℕ) (words moves : List ℕ) (r : Result Tally RunFault) (records : List Record) → WithMemory κ m d R N words moves r records → Fitting words moves r records
memory_fits κ memory_kind.Prompt = depth_fits prompt κ
memory_fits κ memory_kind.Loose = depth_fits loose κ

kind_fits : (k : ItemKind) (m : MemoryKind) (d R N : ℕ) (words moves : List ℕ) (r : Result Tally RunFault) (records : List Record) → WithKind k m d R N words moves r records → Fitting words moves r records
kind_fits item.Edit = memory_fits edits
kind_fits item.Reading = memory_fits readings

pub run_fits : (s : Settings) (words moves : List ℕ) (r : Result Tally RunFault) (records : List Record) → RunBy s words moves r records → Fitting words moves r records
run_fits s words moves r records h = kind_fits s.kind s.memory (entries_of s.depth) s.rings s.cells words moves r records h
