-- The prompt memory keeps the rules.
use Rattle.std.proofs.Common.{◌≡◌, ℕ, List, [], set, sym, refl, ap, subst, arith}
use Rattle.memory.specs.declared.Side.{Side}
use Rattle.memory.specs.declared.Side.TheVariants.{Feeder, Drawer}
use Rattle.memory.specs.Meaning.{Call, Size, Look, Count, Store, Bar, Land, Drain, Rule, Landings, none, next, here, joined, store, bar, line, stores}
use Rattle.memory.specs.Prompt.{quiet, PromptCall}

bar_drops : (s : Side) (v : List ℕ) → Landings (joined s bar (quiet v)) (quiet v)
bar_drops Feeder v = none
bar_drops Drawer v = none

store_lands : (s : Side) (a x : ℕ) (v : List ℕ) → Landings (joined s (store a x) (quiet v)) (quiet (set v a x))
store_lands Feeder a x v = next Feeder a x (record { rest = []; out = here; after = refl }) none
store_lands Drawer a x v = next Drawer a x (record { rest = []; out = here; after = refl }) none

nothing_waits : (s : Side) (v : List ℕ) → stores (line s (quiet v)) ≡ 0
nothing_waits Feeder v = refl
nothing_waits Drawer v = refl

pub prompt_rules : (k : Call) (v w : List ℕ) → PromptCall k v w → Rule k (quiet v) (quiet w)
prompt_rules (Size n) v w e = (e.0, ap quiet e.1)
prompt_rules (Look Feeder a x) v w e = (e.0, e.1, ap quiet e.2)
prompt_rules (Look Drawer a x) v w e = (e.0, e.1, ap quiet e.2)
prompt_rules (Count Feeder n) v w e = (e.0, ap quiet e.1)
prompt_rules (Count Drawer n) v w e = (e.0, ap quiet e.1)
prompt_rules (Store s a x) v w e = (e.0, subst (λ (u : List ℕ). Landings (joined s (store a x) (quiet v)) (quiet u)) (sym e.1) (store_lands s a x v))
prompt_rules (Bar s) v w e = subst (λ (u : List ℕ). Landings (joined s bar (quiet v)) (quiet u)) (sym e) (bar_drops s v)
prompt_rules (Land s k) v w e = subst (λ (u : List ℕ). Rule (Land s k) (quiet v) (quiet u)) (sym e) (none, λ h. omega (arith, nothing_waits s v))
prompt_rules Drain v w e = subst (λ (u : List ℕ). Rule Drain (quiet v) (quiet u)) (sym e) (none, refl, refl)
