-- Opening leaves an opened lane.
use Rattle.std.proofs.Common.{◌≡◌, ℕ, suc, ◌+◌, ◌-◌, ◌*◌, ◌<◌, ◌≤◌, [], ◌∷◌, sym, refl, ap, ◌∙◌, inl, inr, arith}
use Rattle.std.proofs.lemmas.Bool.{lt-ltb, le-ltb, eq-eqb, ne_eqb}
use Rattle.memory.specs.declared.Side.{Side}
use Rattle.memory.specs.declared.Side.TheVariants.{Feeder}
use Rattle.memory.specs.Meaning.{Meaning, store, joined, Lands, Landings, Landings.none, Landings.next}
use Rattle.queue.specs.Waiting.{landed_word, size, View, view}
use Rattle.queue.proofs.Landing.{landing_law}
use Rattle.queue.proofs.Quiet.{nothing_view, nothing_words}
use Rattle.queue.proofs.Views.{rest, push, Landed, rest_lands, one_lands}
use Rattle.queue.proofs.Rounds.{eq_or}
use Rattle.queue.proofs.MemoryInterface.{landed_here, stored, stored_here}
use Rattle.queue.proofs.RunLaws.{Fits, fits_store, fits_land, land_inside}
use Rattle.lane.specs.Openings.{first_word}
use Rattle.queue.proofs.Runs.{Filling, Filling.unfilled, Filling.one_more, OpeningLaw}

-- v is landed here, or it will be
data Due (v : ℕ) (x : View) : Type 0 where
  there : x ≡ rest v → Due v x
  coming : (u : ℕ) → x ≡ record { word = u; feeder = v ∷ []; drawer = [] } → Due v x

due_lands : (s : Side) (w v : ℕ) (x y : View) → Landed s w x y → Due v x → Due v y
due_lands s w v x y l (there e) = absurd (rest_lands s w v x y l e)
due_lands s w v x y l (coming u e) = there (one_lands s s w u v x y l e)

-- the words below k are due, and nothing waits for the others
record FilledTo (f : ℕ → ℕ) (z k : ℕ) (m : Meaning) : Type 0 where
  fits : Fits z m
  due : (a : ℕ) → a < k → Due (f a) (view m a)
  still : (a : ℕ) → k ≤ a → view m a ≡ rest (landed_word a m)

module _ (f : ℕ → ℕ) (z : ℕ) where
  filled_lands : (k : ℕ) (s : Side) (a w : ℕ) (m n : Meaning) → Lands s a w m n → FilledTo f z k m → FilledTo f z k n
  unfolding view
  filled_lands k s a w m n l c = record { fits = fits_land z s a w m n l c.fits; due = λ b h. elim (eq_or b a) [ inl e ↦ rw e (due_lands s w (f a) (view m a) (view n a) here (rw e at (c.due b h))) | inr e ↦ rw ((landing_law s a w m n l).elsewhere b (λ y. e (sym y))) (c.due b h) ]; still = λ b h. elim (eq_or b a) [ inl e ↦ absurd (rest_lands s w (landed_word a m) (view m a) (view n a) here (rw e at (c.still b h))) | inr e ↦ same b ((landing_law s a w m n l).elsewhere b (λ y. e (sym y))) (c.still b h) ] }
    where
      here : Landed s w (view m a) (view n a)
      here = landed_here s a w m n (l, land_inside z s a w m n l c.fits)

      same : (b : ℕ) → view n b ≡ view m b → view m b ≡ rest (landed_word b m) → view n b ≡ rest (landed_word b n)
      same b e h = e ∙ (h ∙ ap rest (sym (ap (λ (x : View). x.word) e)))

  filled_landings : (k : ℕ) {m n : Meaning} → Landings m n → FilledTo f z k m → FilledTo f z k n
  filled_landings k none c = c
  filled_landings k (next {m = m} {n = n} s a w l r) c = filled_landings k r (filled_lands k s a w m n l c)

  filled_store : (k : ℕ) (m n : Meaning) → k < z → n ≡ joined Feeder (store k (f k)) m → FilledTo f z k m → FilledTo f z (suc k) n
  unfolding view
  filled_store k m n l e c = record { fits = fits_store z Feeder k (f k) m n l e c.fits; due = λ b h. elim (eq_or b k) [ inl y ↦ rw y (coming (landed_word k m) (stored_here Feeder k (f k) m n e ∙ ap (push Feeder (f k)) (c.still k (omega arith)))) | inr y ↦ rw ((stored Feeder k (f k) m n e).elsewhere b (λ x. y (sym x))) (c.due b (omega arith)) ]; still = λ b h. same b ((stored Feeder k (f k) m n e).elsewhere b (λ x. omega arith)) (c.still b (omega arith)) }
    where
      same : (b : ℕ) → view n b ≡ view m b → view m b ≡ rest (landed_word b m) → view n b ≡ rest (landed_word b n)
      same b y h = y ∙ (h ∙ ap rest (sym (ap (λ (x : View). x.word) y)))

  filled : (m : Meaning) {k : ℕ} {n : Meaning} → Filling f m k n → k ≤ z → FilledTo f z 0 m → FilledTo f z k n
  filled m unfilled l c = c
  filled m (one_more {k = k} {n = n} r s) l c = filled_landings (suc k) s (filled_store k n (joined Feeder (store k (f k)) n) l refl (filled m r (omega arith) c))

pub opening_law : OpeningLaw
unfolding view
opening_law R N R2 m n o nw big fl ls nw' = record {
  fits = rw c.fits.sized big;
  quiet = nw';
  cells = λ a l. word a (omega arith) ∙ low a (omega arith);
  nexts = λ i l. word (R * N + i) (omega arith) ∙ low (R * N + i) (omega arith);
  frees = λ i l. word (R * N + R + i) (omega arith) ∙ (rw (le-ltb (R * N + R + i) (R * N + R) (omega arith), lt-ltb (R * N + R + i) (R * N + (2 * R - 1)) (omega arith)) (omega arith));
  last = word (R * N + R + (R - 1)) (omega arith) ∙ (rw (le-ltb (R * N + R + (R - 1)) (R * N + R) (omega arith), le-ltb (R * N + R + (R - 1)) (R * N + (2 * R - 1)) (omega arith), ne_eqb (R * N + R + (R - 1)) (R * N + 2 * R) (λ e. omega arith)) refl);
  mark = word (R * N + R + R) (omega arith) ∙ (rw (le-ltb (R * N + R + R) (R * N + R) (omega arith), le-ltb (R * N + R + R) (R * N + (2 * R - 1)) (omega arith), eq-eqb (R * N + R + R) (R * N + 2 * R) (omega arith)) refl);
}
  where
    f : ℕ → ℕ
    f = first_word R N

    c0 : FilledTo f (size m) 0 m
    c0 = record { fits = record { sized = refl; inside = λ s a v x. absurd (rw (nothing_words s a m nw) at x) }; due = λ a h. absurd (omega arith); still = λ a h. nothing_view m a nw }

    c : FilledTo f (size m) (suc (R * N + R + R)) o
    c = filled_landings f (size m) (suc (R * N + R + R)) ls (filled f (size m) m fl big c0)

    settle : (a : ℕ) → Due (f a) (view o a) → landed_word a o ≡ f a
    settle a (there e) = ap (λ (x : View). x.word) e
    settle a (coming u e) = let y : [] ≡ f a ∷ [] = sym (nothing_words Feeder a o nw') ∙ ap (λ (x : View). x.feeder) e in let k : ◌≡◌ {A = ℕ} 0 1 = cc in absurd (omega arith)

    word : (a : ℕ) → a < suc (R * N + R + R) → landed_word a o ≡ first_word R N a
    word a l = settle a (c.due a l)

    low : (a : ℕ) → a < R * N + R → first_word R N a ≡ 0
    low a l = rw (lt-ltb a (R * N + R) l) refl
