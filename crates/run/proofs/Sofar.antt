-- A run, move by move, until it stops.
use Rattle.std.proofs.Common.{◌≡◌, ℕ, ◌+◌, ◌<◌, ◌≤◌, Bool, false, List, [], ◌∷◌, ◌++◌, map, length, get_or, take, drop, Some, None, sym, refl, ap, ◌∙◌, subst, append_assoc, arith}
use Rattle.std.proofs.lemmas.List.{take_at, drop_at, drop-drop, append-nil, length-append, length-take, length-drop}
use Rattle.memory.specs.declared.Memory as memory
use Rattle.words.specs.declared.kinds.Kind as kind
use Rattle.lane.specs.Moments.{Moment}
use Rattle.queue.specs.History.{Event, Leads}
use Rattle.queue.specs.History as history
use Rattle.queue.proofs.Histories.{leads_join}
use Rattle.run.specs.declared.faults.Stop.{Stop}
use Rattle.run.specs.declared.faults.Stop.TheVariants.{UnknownMove}
use Rattle.run.specs.declared.orders.Order.{Order}
use Rattle.run.specs.declared.records.Record.{Record}
use Rattle.run.specs.declared.tallies.Counts.{Counts}
use Rattle.run.specs.Logs.{at_move}
use Rattle.run.specs.Orders.{Asks, Unknown}
use Rattle.run.specs.Promised.{MadeMoves}
use Rattle.run.specs.Runs.{Standing, standing, Steps, Makes, Runs, Stopped}
use Rattle.run.specs.Runs as runs
use Rattle.run.specs.Running.{stands_at, Noted, Moved, Halted, RunSoFar, Ready}
use Rattle.run.specs.Running as running

module _ {A : Type 0} where
  -- more records behind those that a log has
  log_more : (rs xs log before : List A) (n k : ℕ) → log ≡ rs ++ drop n before → n ≡ length rs → take n log ++ (xs ++ drop (n + k) log) ≡ (rs ++ xs) ++ drop (n + k) before
  log_more rs xs log before n k e h =
      let f : take n log ≡ rs = ap (λ (l : List A). take n l) e ∙ take_at rs (drop n before) n (sym h) in
      let d : drop n log ≡ drop n before = ap (λ (l : List A). drop n l) e ∙ drop_at rs (drop n before) n (sym h) in
      let g : drop (n + k) log ≡ drop (n + k) before = sym (drop-drop k n log) ∙ (ap (λ (l : List A). drop k l) d ∙ drop-drop k n before) in
      rw (f, g) (sym (append_assoc rs xs (drop (n + k) before)))

  -- a log that keeps its length has place for them
  place_kept : (xs log after : List A) (n k : ℕ) → n ≤ length log → k ≡ length xs → after ≡ take n log ++ (xs ++ drop (n + k) log) → length after ≡ length log → n + k ≤ length log
  place_kept xs log after n k h e l s =
      let p = ap length l in
      let a = length-append (take n log) (xs ++ drop (n + k) log) in
      let b = length-append xs (drop (n + k) log) in
      let t = length-take n log in
      let d = length-drop (n + k) log in
      omega arith

module _ {K X : Type 0} (G : memory.Ghosts X) (κ : kind.Ghosts K) where
  pub run_none : (m : Moment K X) (words : List ℕ) (log : List Record) → Ready m → RunSoFar G κ m words [] log log (record { accepted = 0; calls = 0 }) m
  run_none m words log r = record { events = []; records = []; runs = subst (λ (s : Standing). Runs κ (length log) words [] [] [] s) (same r.no_put r.no_take) runs.Runs.not_yet; leads = history.at_rest; counted = refl; few = omega arith; logged = refl }
    where
      same : {p t : Bool} → p ≡ false → t ≡ false → standing words false false ≡ standing words p t
      same a b = cc

  module _ {start : Moment K X} {words : List ℕ} {before : List Record} where
    pub run_more : {bytes : List ℕ} {log : List Record} {c : Counts} {m : Moment K X} {o : Order} (n byte : ℕ) {d : Counts} {m' : Moment K X} {log' : List Record} → RunSoFar G κ start words bytes before log c m → n ≡ length bytes → Asks byte o → length log ≡ length before → length log' ≡ length before → Moved G κ n words o c m log d m' log' → RunSoFar G κ start words (bytes ++ (byte ∷ [])) before log' d m'
    run_more {bytes} {log} {c} {m} {o} n byte {d} {m'} {log'} p e a l k q = record {
      events = p.events ++ q.events;
      records = p.records ++ rs;
      runs = runs.Runs.one_more byte p.runs a (λ s. (let h = q.place s in omega (arith, p.counted))) (subst (λ (i : ℕ). Makes κ i (stands_at words c.accepted m) o q.events rs (stands_at words d.accepted m')) e q.makes);
      leads = leads_join G κ p.leads q.leads;
      counted = counted;
      few = rw q.noted.counted (omega (arith, place_kept rs log log' c.calls (length rs) (omega (arith, p.few)) refl q.noted.logged (k ∙ sym l)));
      logged = q.noted.logged ∙ (log_more p.records rs log before c.calls (length rs) p.logged p.counted ∙ ap (λ (i : ℕ). (p.records ++ rs) ++ drop i before) (sym q.noted.counted));
    }
      where
        rs : List Record
        rs = map (at_move n) q.cs

        counted : d.calls ≡ length (p.records ++ rs)
        counted = q.noted.counted ∙ (ap (λ (i : ℕ). i + length rs) p.counted ∙ sym (length-append p.records rs))

    module _ {log : List Record} {c : Counts} {m : Moment K X} (moves : List ℕ) (i : ℕ) (p : RunSoFar G κ start words (take i moves) before log c m) where
      kept_log : log ≡ p.records ++ drop (length p.records) before
      kept_log = p.logged ∙ ap (λ (k : ℕ). p.records ++ drop k before) p.counted

      same_events : Leads G κ start (p.events ++ []) m
      same_events = rw (append-nil p.events) p.leads

      pub made_all : {y : X} → length moves ≤ i → i ≤ length moves → y ≡ m.memory → MadeMoves G κ start words moves before log (record { calls = c.calls; moves = length moves; stop = None }) y
      made_all h k y = record { events = p.events; records = p.records; stands = stands_at words c.accepted m; runs = subst (λ (j : ℕ). Runs κ (length before) words (take j moves) p.events p.records (stands_at words c.accepted m)) (omega arith) p.runs; unfinished = []; stopped = runs.Stopped.all_made refl; end = m; leads = same_events; left = y; counted = p.counted; logged = kept_log }

      pub made_to_unknown : {y : X} → i < length moves → Unknown (get_or moves i 0) → y ≡ m.memory → MadeMoves G κ start words moves before log (record { calls = c.calls; moves = i; stop = Some (UnknownMove i) }) y
      made_to_unknown h u y = record { events = p.events; records = p.records; stands = stands_at words c.accepted m; runs = p.runs; unfinished = []; stopped = runs.Stopped.unknown h u; end = m; leads = same_events; left = y; counted = p.counted; logged = kept_log }

      made_to_halt : {y : X} {o : Order} {m' : Moment K X} {s : Stop} → i < length moves → Asks (get_or moves i 0) o → length log ≡ length before → Halted G κ i words o c m log m' s → y ≡ m'.memory → MadeMoves G κ start words moves before log (record { calls = c.calls; moves = i; stop = Some s }) y
      made_to_halt h a l (running.Halted.full s f) y = record { events = p.events; records = p.records; stands = stands_at words c.accepted m; runs = p.runs; unfinished = []; stopped = runs.Stopped.log_full h a s (omega (arith, p.counted, p.few)); end = m; leads = same_events; left = y; counted = p.counted; logged = kept_log }
      made_to_halt h a l (running.Halted.broken {m' = m'} {e = e} f d t) y = record { events = p.events; records = p.records; stands = stands_at words c.accepted m; runs = p.runs; unfinished = e; stopped = runs.Stopped.damaged h a (omega (arith, p.counted)) d; end = m'; leads = leads_join G κ p.leads t; left = y; counted = p.counted; logged = kept_log }

      pub made_to_stop : {y : X} {o : Order} {m' : Moment K X} {s : Stop} {log' : List Record} → i < length moves → Asks (get_or moves i 0) o → length log ≡ length before → Halted G κ i words o c m log m' s × (log' ≡ log) → y ≡ m'.memory → MadeMoves G κ start words moves before log' (record { calls = c.calls; moves = i; stop = Some s }) y
      made_to_stop {y} {o} {m'} {s} h a l t e = subst (λ (r : List Record). MadeMoves G κ start words moves before r (record { calls = c.calls; moves = i; stop = Some s }) y) (sym t.1) (made_to_halt h a l t.0 e)
