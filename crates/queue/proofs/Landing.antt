-- What becomes of a meaning when a store lands.
use Rattle.std.proofs.Common.{◌≡◌, ℕ, ◌+◌, true, false, cond, ltb, List, [], ◌∷◌, length, get_or, set, sym, refl, ap, ◌∙◌, inl, inr, length-set, get_or-set_other, get_or-set_same}
use Rattle.memory.specs.declared.Side.{Side}
use Rattle.memory.specs.declared.Side.TheVariants.{Feeder, Drawer}
use Rattle.memory.specs.Meaning.{Entry, store, bar, Meaning, line, with_line, with_word, tidy_from, tidy, words_to, last_or, look, Out, Lands}
use Rattle.queue.specs.Waiting.{other, HasBar, Has, BehindBar, Each, Is, IsNot, Any, tally, words, landed_word, size, view, Waits, HoldsBack, AllSealed, SealedBut, waiting_below}
use Rattle.queue.specs.LineLaws.{Landed}
use Rattle.queue.proofs.Lines.{words_tidy, words_out, words_out_other, each_out, each_tidy, behind_out, behind_tidy, hasbar_out, hasbar_tidy, tally_tidy, tally_out, held, in_from_has, has_from_in, has_from_behind}

module _ {s : Side} {a w : ℕ} {m n : Meaning} (r : Lands s a w m n) where
  pub lands_line : line s n ≡ tidy r.rest
  lands_line = ap (line s) r.after ∙ go s
    where
      go : (t : Side) → line t (with_line t (tidy r.rest) (with_word a w m)) ≡ tidy r.rest
      go Feeder = refl
      go Drawer = refl

  pub lands_other_line : line (other s) n ≡ line (other s) m
  lands_other_line = ap (line (other s)) r.after ∙ go s
    where
      go : (t : Side) → line (other t) (with_line t (tidy r.rest) (with_word a w m)) ≡ line (other t) m
      go Feeder = refl
      go Drawer = refl

  pub lands_landed : n.landed ≡ set m.landed a w
  lands_landed = ap (λ (x : Meaning). x.landed) r.after ∙ go s
    where
      go : (t : Side) → (with_line t (tidy r.rest) (with_word a w m)).landed ≡ set m.landed a w
      go Feeder = refl
      go Drawer = refl

pub on_sides : (P : Side → Type 0) (s t : Side) → P s → P (other s) → P t
on_sides P Feeder Feeder p q = p
on_sides P Feeder Drawer p q = q
on_sides P Drawer Feeder p q = q
on_sides P Drawer Drawer p q = p

pub same_view : (m n : Meaning) (c : ℕ) → landed_word c n ≡ landed_word c m → ((t : Side) → words t c n ≡ words t c m) → view n c ≡ view m c
unfolding view
same_view m n c e f = λ i. record { word = e i; feeder = f Feeder i; drawer = f Drawer i }

module _ {s : Side} {a w : ℕ} {m n : Meaning} (r : Lands s a w m n) where
  each_lands : (P : ℕ → ℕ → Type 0) (B : List Entry → Type 0) → ((x y : List Entry) → Out a w x y → B x → B y) → ((x : List Entry) → B x → B (tidy_from false x)) → (t : Side) → Each P B (line t m) → Each P B (line t n)
  each_lands P B step thin t =
      on_sides (λ t. Each P B (line t m) → Each P B (line t n)) s t
      (λ h. rw (lands_line r) (each_tidy P B thin true r.rest (each_out P B step r.out h)))
      (λ h. rw (lands_other_line r) h)

  words_lands : (t : Side) (c : ℕ) → (a ≡ c → ⊥) → words t c n ≡ words t c m
  unfolding words
  words_lands t c ne =
      on_sides (λ t. words_to c (line t n) ≡ words_to c (line t m)) s t
      (ap (words_to c) (lands_line r) ∙ words_tidy c true r.rest ∙ sym (words_out_other c ne r.out))
      (ap (words_to c) (lands_other_line r))

pub landing_law : (s : Side) (a w : ℕ) (m n : Meaning) → Lands s a w m n → Landed s a w m n
unfolding words landed_word size HoldsBack AllSealed SealedBut waiting_below
landing_law s a w m n r = record {
  same_size = ap length (lands_landed r) ∙ length-set m.landed a w;
  front = words_out r.out ∙ ap {B = List ℕ} (λ x. w ∷ x) (sym (ap (words_to a) (lands_line r) ∙ words_tidy a true r.rest));
  word = λ h. ap (λ (x : List ℕ). get_or x a 0) (lands_landed r) ∙ get_or-set_same m.landed a w 0 h;
  opposite_words = λ c. ap (words_to c) (lands_other_line r);
  elsewhere = λ c ne. same_view m n c (ap (λ (x : List ℕ). get_or x c 0) (lands_landed r) ∙ get_or-set_other m.landed a c w 0 (λ e. ne (sym e))) (λ t. words_lands r t c ne);
  holds = λ t c v b u. each_lands r (Is c v) (BehindBar b u) (λ x y. behind_out b u) (behind_tidy b u) t;
  sealed = λ t. each_lands r Any HasBar (λ x y. hasbar_out) hasbar_tidy t;
  sealed_but = λ t b u. each_lands r (IsNot b u) HasBar (λ x y. hasbar_out) hasbar_tidy t;
  below = λ k. tally_out (λ x. ltb x k) r.out ∙ ap (λ (x : ℕ). cond (ltb a k) (1 + x) x) (sym (ap (tally (λ x. ltb x k)) (lands_line r) ∙ tally_tidy (λ x. ltb x k) true r.rest));
  opposite_below = λ k. ap (tally (λ x. ltb x k)) (lands_other_line r);
}

pub held_law : (s : Side) (a v b u : ℕ) (m : Meaning) → HoldsBack s a v b u m → Waits s a v m → Waits s b u m
unfolding HoldsBack Waits words
held_law s a v b u m h x = in_from_has b u (line s m) (has_from_behind b u (line s m) (held a v b u (line s m) h (has_from_in a v (line s m) x)))

pub look_law : (s : Side) (a : ℕ) (m : Meaning) → look s a m ≡ last_or (words s a m) (landed_word a m)
unfolding words landed_word
look_law s a m = refl

-- what does not wait holds anything back
pub holds_none : (s : Side) (a v b u : ℕ) (m : Meaning) → (Waits s a v m → ⊥) → HoldsBack s a v b u m
unfolding HoldsBack Waits words
holds_none s a v b u m f = go (line s m) (λ h. f (in_from_has a v (line s m) h))
  where
    go : (l : List Entry) → (Has a v l → ⊥) → Each (Is a v) (BehindBar b u) l
    go [] f = tt
    go (bar ∷ l) f = go l f
    go (store c w ∷ l) f = (λ p. absurd (f (inl p)), go l (λ h. f (inr h)))
