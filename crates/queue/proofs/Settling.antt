-- Runs go on through landings; places kept in a list.
use Rattle.std.proofs.Common.{◌≡◌, ℕ, ◌<◌, List, length, get_or, set, sym, ◌∙◌, inl, inr, get_or-set_other, get_or-set_same}
use Rattle.memory.specs.Meaning.{Meaning, Landings, Landings.none, Landings.next}
use Rattle.queue.proofs.Rounds.{eq_or, changed_there, changed_elsewhere}
use Rattle.queue.proofs.Steps.{changed, Places, Putting, Taking}
use Rattle.queue.proofs.Runs.{Run, lands}

pub run_landings : (Item : ℕ → Type 0) (R N : ℕ) (m0 : Meaning) (u : List ℕ) (a1 w1 n1 : ℕ) (p : Places) (s : Putting) (q : Places) (t : Taking) {m n : Meaning} → Landings m n → Run Item R N m0 u a1 w1 n1 p s q t m → Run Item R N m0 u a1 w1 n1 p s q t n
run_landings Item R N m0 u a1 w1 n1 p s q t none r = r
run_landings Item R N m0 u a1 w1 n1 p s q t (next x a w l k) r = run_landings Item R N m0 u a1 w1 n1 p s q t k (lands x a w r l)

-- places in a list: one set is the function changed there
pub at_set : (l : List ℕ) (k x : ℕ) → k < length l → (λ r. get_or (set l k x) r 0) ≡ changed (λ r. get_or l r 0) k x
at_set l k x h = λ i r. same r i
  where
    same : (r : ℕ) → get_or (set l k x) r 0 ≡ changed (λ r. get_or l r 0) k x r
    same r = elim (eq_or r k) [ inl e ↦ rw e (get_or-set_same l k x 0 h ∙ sym (changed_there (λ r. get_or l r 0) k x)) | inr e ↦ get_or-set_other l k r x 0 e ∙ sym (changed_elsewhere (λ r. get_or l r 0) k x r e) ]
