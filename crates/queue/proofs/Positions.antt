-- The sides' places in the rings.
use Rattle.std.proofs.Common.{◌≡◌, ℕ, suc, ◌+◌, ◌-◌, ◌*◌, ◌%◌, ◌<◌, ◌≤◌, sym, ap, ◌∙◌, inl, inr, mod-lt, mod-eq_of_lt, arith}
use native.Mathlib.Nat.{add-mul-mod_self_left}
use Rattle.queue.proofs.Rounds.{eq_or, changed_there, changed_elsewhere, moved_on_mod}
use Rattle.queue.proofs.Steps.{changed, moved_on}
use Rattle.queue.proofs.Views.{ring}
use Rattle.queue.proofs.Addresses.{ring_apart, ring_wraps}
use Rattle.queue.proofs.Core.{Ghost, Numbers}

pub record Pos (R N : ℕ) (g : Ghost) (fp dp : ℕ → ℕ) : Type 0 where
  pub f_own : fp (ring R g.f) ≡ (g.base g.f + g.A) % N
  pub f_left : (k : ℕ) → g.d ≤ k → k < g.f → fp (ring R k) ≡ (g.base k + g.start (suc k)) % N
  pub d_own : dp (ring R g.d) ≡ (g.base g.d + g.T) % N
  pub d_ahead : (k : ℕ) → g.d < k → k ≤ g.f → dp (ring R k) ≡ (g.base k + g.start k) % N
  pub level : (k : ℕ) → g.f < k → k < g.d + R → fp (ring R k) ≡ dp (ring R k)
  pub small : (k : ℕ) → dp (ring R k) < N

module _ (R N : ℕ) (R2 : 2 ≤ R) (N1 : 1 ≤ N) where
  -- a base by which place p is that of item i
  pub base_for : (p i : ℕ) → p < N → (p + (N - 1) * i + i) % N ≡ p
  base_for p i l = ap (λ (x : ℕ). x % N) split ∙ (add-mul-mod_self_left p N i ∙ mod-eq_of_lt l)
    where
      whole : (x : ℕ) → p + x * i + i ≡ p + suc x * i
      whole x = omega arith

      split : p + (N - 1) * i + i ≡ p + N * i
      split = whole (N - 1) ∙ ap (λ (x : ℕ). p + x * i) (omega arith)

  module _ (g : Ghost) (h : Numbers R N g) (fp dp : ℕ → ℕ) (c : Pos R N g fp dp) where
    apart : (j k : ℕ) → j < k → k < j + R → ring R j ≡ ring R k → ⊥
    apart = ring_apart R R2

    -- P8, whatever the item
    pub pos_put : (w at : ℕ → ℕ) → Pos R N (record { f = g.f; d = g.d; A = suc g.A; T = g.T; nh = g.nh; nt = g.nt; fh = g.fh; w = w; at = at; start = g.start; base = g.base }) (changed fp (ring R g.f) (moved_on N (fp (ring R g.f)))) dp
    pos_put w at = record {
      f_own = changed_there fp (ring R g.f) (moved_on N (fp (ring R g.f))) ∙ (ap (moved_on N) c.f_own ∙ (moved_on_mod N (g.base g.f + g.A) N1 ∙ ap (λ (x : ℕ). x % N) (omega arith)));
      f_left = λ k p q. changed_elsewhere fp (ring R g.f) (moved_on N (fp (ring R g.f))) (ring R k) (apart k g.f q (omega (arith, h))) ∙ c.f_left k p q;
      d_own = c.d_own;
      d_ahead = c.d_ahead;
      level = λ k p q. changed_elsewhere fp (ring R g.f) (moved_on N (fp (ring R g.f))) (ring R k) (λ e. apart g.f k p (omega (arith, h)) (sym e)) ∙ c.level k p q;
      small = c.small;
    }

    -- T9
    pub pos_take : Pos R N (record { f = g.f; d = g.d; A = g.A; T = suc g.T; nh = g.nh; nt = g.nt; fh = g.fh; w = g.w; at = g.at; start = g.start; base = g.base }) fp (changed dp (ring R g.d) (moved_on N (dp (ring R g.d))))
    pos_take = record {
      f_own = c.f_own;
      f_left = c.f_left;
      d_own = own;
      d_ahead = λ k p q. else k p (omega (arith, h)) ∙ c.d_ahead k p q;
      level = λ k p q. c.level k p q ∙ sym (else k (omega (arith, h)) q);
      small = λ k. elim (eq_or (ring R k) (ring R g.d)) [ inl e ↦ rw (e, own) (mod-lt (g.base g.d + suc g.T) (omega arith)) | inr e ↦ rw (changed_elsewhere dp (ring R g.d) (moved_on N (dp (ring R g.d))) (ring R k) e) (c.small k) ];
    }
      where
        own : changed dp (ring R g.d) (moved_on N (dp (ring R g.d))) (ring R g.d) ≡ (g.base g.d + suc g.T) % N
        own = changed_there dp (ring R g.d) (moved_on N (dp (ring R g.d))) ∙ (ap (moved_on N) c.d_own ∙ (moved_on_mod N (g.base g.d + g.T) N1 ∙ ap (λ (x : ℕ). x % N) (omega arith)))

        else : (k : ℕ) → g.d < k → k < g.d + R → changed dp (ring R g.d) (moved_on N (dp (ring R g.d))) (ring R k) ≡ dp (ring R k)
        else k p q = changed_elsewhere dp (ring R g.d) (moved_on N (dp (ring R g.d))) (ring R k) (λ e. apart g.d k p q (sym e))

    -- P6
    abbrev pub new_base : ℕ
    new_base = dp (ring R (suc g.f)) + (N - 1) * g.A

    pub pos_enter : suc g.f < g.d + R → Pos R N (record { f = suc g.f; d = g.d; A = g.A; T = g.T; nh = g.nh; nt = g.nt; fh = g.fh; w = g.w; at = g.at; start = changed g.start (suc g.f) g.A; base = changed g.base (suc g.f) new_base }) fp dp
    pos_enter room = record {
      f_own = c.level (suc g.f) (omega arith) room ∙ ahead;
      f_left = λ k p q. elim (eq_or k g.f) [ inl e ↦ rw (e, base g.f (omega arith), changed_there g.start (suc g.f) g.A) c.f_own | inr e ↦ rw (base k (omega arith), start (suc k) (omega arith)) (c.f_left k p (omega arith)) ];
      d_own = rw (base g.d h.df) c.d_own;
      d_ahead = λ k p q. elim (eq_or k (suc g.f)) [ inl e ↦ rw (e, changed_there g.start (suc g.f) g.A) ahead | inr e ↦ rw (base k (omega arith), start k (omega arith)) (c.d_ahead k p (omega arith)) ];
      level = λ k p q. c.level k (omega arith) q;
      small = c.small;
    }
      where
        base : (k : ℕ) → k ≤ g.f → changed g.base (suc g.f) new_base k ≡ g.base k
        base k l = changed_elsewhere g.base (suc g.f) new_base k (omega arith)

        start : (k : ℕ) → k ≤ g.f → changed g.start (suc g.f) g.A k ≡ g.start k
        start k l = changed_elsewhere g.start (suc g.f) g.A k (omega arith)

        ahead : dp (ring R (suc g.f)) ≡ (changed g.base (suc g.f) new_base (suc g.f) + g.A) % N
        ahead = sym (ap (λ (x : ℕ). (x + g.A) % N) (changed_there g.base (suc g.f) new_base) ∙ base_for (dp (ring R (suc g.f))) g.A (c.small (suc g.f)))

    -- T7
    pub pos_leave : g.d < g.f → g.T ≡ g.start (suc g.d) → Pos R N (record { f = g.f; d = suc g.d; A = g.A; T = g.T; nh = g.nh; nt = g.nt; fh = g.fh; w = g.w; at = g.at; start = g.start; base = g.base }) fp dp
    pos_leave l done = record {
      f_own = c.f_own;
      f_left = λ k p q. c.f_left k (omega arith) q;
      d_own = c.d_ahead (suc g.d) (omega arith) l ∙ ap (λ (x : ℕ). (g.base (suc g.d) + x) % N) (sym done);
      d_ahead = λ k p q. c.d_ahead k (omega arith) q;
      level = λ k p q. elim (eq_or k (g.d + R)) [ inl e ↦ rw (e, ring_wraps R R2 g.d) (c.f_left g.d (omega arith) l ∙ (ap (λ (x : ℕ). (g.base g.d + x) % N) (sym done) ∙ sym c.d_own)) | inr e ↦ c.level k p (omega arith) ];
      small = c.small;
    }
