-- The addresses of a lane.
use Rattle.std.proofs.Common.{◌≡◌, ℕ, suc, ◌+◌, ◌*◌, ◌<◌, ◌≤◌, sym, refl, ap, inl, inr, mod-lt, arith}
use Rattle.queue.proofs.Rounds.{moved_on_mod, mod_window, mod_wrap, cell_below, cell_apart, lt_or, eq_or}
use Rattle.queue.proofs.Steps.{moved_on}
use Rattle.queue.proofs.Views.{ring, visit_word}

pub cell : ℕ → ℕ → ℕ → ℕ → ℕ
cell R N k p = ring R k * N + p

pub next_slot : ℕ → ℕ → ℕ → ℕ
next_slot R N k = R * N + ring R k

pub free_slot : ℕ → ℕ → ℕ → ℕ
free_slot R N k = R * N + R + ring R k

pub mark : ℕ → ℕ → ℕ
mark R N = R * N + R + R

module _ (R : ℕ) (R2 : 2 ≤ R) where
  pub ring< : (k : ℕ) → ring R k < R
  unfolding ring
  ring< k = mod-lt k (omega arith)

  pub ring_apart : (j k : ℕ) → j < k → k < j + R → ring R j ≡ ring R k → ⊥
  unfolding ring
  ring_apart j k = mod_window R j k

  pub ring_wraps : (k : ℕ) → ring R (k + R) ≡ ring R k
  unfolding ring
  ring_wraps k = mod_wrap R k

  pub visit_words_apart : (j k : ℕ) → j < k → k < j + R → visit_word R j ≡ visit_word R k → ⊥
  unfolding visit_word
  visit_words_apart j k l h e = ring_apart j k l h (omega arith)

  pub visit_word_wraps : (k : ℕ) → visit_word R (k + R) ≡ visit_word R k
  unfolding visit_word
  visit_word_wraps k = ap suc (ring_wraps k)

  pub visit_word_filled : (k : ℕ) → visit_word R k ≡ 0 → ⊥
  unfolding visit_word
  visit_word_filled k e = omega arith

  module _ (N : ℕ) where
    pub cell< : (k p : ℕ) → p < N → cell R N k p < R * N
    unfolding cell
    cell< k p l = cell_below N (ring R k) R p l (ring< k)

    -- the cells of two visits within one round are different
    pub cells_apart : (j k p q : ℕ) → j < k → k < j + R → p < N → q < N → cell R N j p ≡ cell R N k q → ⊥
    unfolding cell
    cells_apart j k p q l h lp lq e = elim (lt_or (ring R j) (ring R k)) [ inl c ↦ cell_apart N (ring R j) (ring R k) p q lp lq e c | inr c ↦ elim (eq_or (ring R j) (ring R k)) [ inl x ↦ ring_apart j k l h x | inr x ↦ cell_apart N (ring R k) (ring R j) q p lq lp (sym e) (omega arith) ] ]

    pub cell_place : (k p q : ℕ) → cell R N k p ≡ cell R N k q → p ≡ q
    unfolding cell
    cell_place k p q e = omega arith

    pub next_slot≥ : (k : ℕ) → R * N ≤ next_slot R N k
    unfolding next_slot
    next_slot≥ k = omega arith

    pub next_slot< : (k : ℕ) → next_slot R N k < R * N + R
    unfolding next_slot
    next_slot< k = omega (arith, ring< k)

    pub free_slot≥ : (k : ℕ) → R * N + R ≤ free_slot R N k
    unfolding free_slot
    free_slot≥ k = omega arith

    pub free_slot< : (k : ℕ) → free_slot R N k < R * N + R + R
    unfolding free_slot
    free_slot< k = omega (arith, ring< k)

    pub mark≡ : mark R N ≡ R * N + R + R
    unfolding mark
    mark≡ = refl

    pub next_slots_apart : (j k : ℕ) → j < k → k < j + R → next_slot R N j ≡ next_slot R N k → ⊥
    unfolding next_slot
    next_slots_apart j k l h e = ring_apart j k l h (omega arith)

    pub free_slots_apart : (j k : ℕ) → j < k → k < j + R → free_slot R N j ≡ free_slot R N k → ⊥
    unfolding free_slot
    free_slots_apart j k l h e = ring_apart j k l h (omega arith)

    pub next_slot_wraps : (k : ℕ) → next_slot R N (k + R) ≡ next_slot R N k
    unfolding next_slot
    next_slot_wraps k = ap (λ (x : ℕ). R * N + x) (ring_wraps k)

    pub free_slot_wraps : (k : ℕ) → free_slot R N (k + R) ≡ free_slot R N k
    unfolding free_slot
    free_slot_wraps k = ap (λ (x : ℕ). R * N + R + x) (ring_wraps k)

pub cell_is : (R N k p : ℕ) → cell R N k p ≡ ring R k * N + p
unfolding cell
cell_is R N k p = refl

pub next_slot_is : (R N k : ℕ) → next_slot R N k ≡ R * N + ring R k
unfolding next_slot
next_slot_is R N k = refl

pub free_slot_is : (R N k : ℕ) → free_slot R N k ≡ R * N + R + ring R k
unfolding free_slot
free_slot_is R N k = refl

pub mark_is : (R N : ℕ) → mark R N ≡ R * N + R + R
unfolding mark
mark_is R N = refl

pub visit_word_is : (R k : ℕ) → visit_word R k ≡ suc (ring R k)
unfolding visit_word
visit_word_is R k = refl

pub moved_on_ring : (R k : ℕ) → 2 ≤ R → moved_on R (ring R k) ≡ ring R (suc k)
unfolding ring
moved_on_ring R k l = moved_on_mod R k (omega arith)
