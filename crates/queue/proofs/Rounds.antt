-- Numbers that go round: rings by visit, cells by place.
use Rattle.std.proofs.Common.{◌≡◌, ℕ, suc, ◌+◌, ◌*◌, ◌/◌, ◌%◌, ◌<◌, ◌≤◌, ◌⊎◌, sym, refl, ap, ◌∙◌, inl, inr, mul-le-mul_right, mod-lt, mod-eq_of_lt, mul-le-mul_left, arith}
use native.Mathlib.Nat.{div-add-mod, add-mod_right, mul-add-mod_self_left, mul-mod_right}
use native.Mathlib.Decide.{dec_lt, ℕ_discrete}
use Rattle.queue.proofs.Steps.{moved_on, changed}
use Rattle.std.proofs.lemmas.Bool.{eq-eqb, ne_eqb}

pub lt_or : (j k : ℕ) → (j < k) ⊎ (k ≤ j)
lt_or j k = elim (dec_lt j k) [ yes h ↦ inl h | no h ↦ inr (omega arith) ]

pub eq_or : (j k : ℕ) → (j ≡ k) ⊎ (j ≡ k → ⊥)
eq_or j k = elim (ℕ_discrete j k) [ yes h ↦ inl h | no h ↦ inr h ]

-- two numbers within one period have different remainders
pub mod_window : (n j k : ℕ) → j < k → k < j + n → j % n ≡ k % n → ⊥
mod_window n j k l h e = elim (lt_or (j / n) (k / n)) [ inl q ↦ omega (arith, div-add-mod j n, div-add-mod k n, mul-le-mul_left n q) | inr q ↦ omega (arith, div-add-mod j n, div-add-mod k n, mul-le-mul_left n q) ]

pub mod_wrap : (n j : ℕ) → (j + n) % n ≡ j % n
mod_wrap n j = add-mod_right j n

pub cell_below : (n r R p : ℕ) → p < n → r < R → r * n + p < R * n
cell_below n r R p l h = omega (arith, mul-le-mul_right n h)

pub cell_apart : (n r s p q : ℕ) → p < n → q < n → r * n + p ≡ s * n + q → r < s → ⊥
cell_apart n r s p q l k e h = omega (arith, mul-le-mul_right n h)

pub moved_on_mod : (n j : ℕ) → 1 ≤ n → moved_on n (j % n) ≡ suc j % n
moved_on_mod n j l = elim (eq_or (suc (j % n)) n) [ inl h ↦ rw (eq-eqb (suc (j % n)) n h) (sym (ap (λ (x : ℕ). x % n) (whole h) ∙ mul-mod_right n (suc (j / n)))) | inr h ↦ rw (ne_eqb (suc (j % n)) n h) (sym (ap (λ (x : ℕ). x % n) split ∙ (mul-add-mod_self_left n (j / n) (suc (j % n)) ∙ mod-eq_of_lt (omega arith)))) ]
  where
    lt : j % n < n
    lt = mod-lt j l

    split : suc j ≡ n * (j / n) + suc (j % n)
    split = omega (arith, div-add-mod j n)

    whole : suc (j % n) ≡ n → suc j ≡ n * suc (j / n)
    whole h = omega (arith, split, h)

pub changed_there : (g : ℕ → ℕ) (k x : ℕ) → changed g k x k ≡ x
changed_there g k x = rw (eq-eqb k k refl) refl

pub changed_elsewhere : (g : ℕ → ℕ) (k x i : ℕ) → (i ≡ k → ⊥) → changed g k x i ≡ g i
changed_elsewhere g k x i ne = rw (ne_eqb i k ne) refl
