-- What becomes of a meaning when a store or a bar joins a line.
use Rattle.std.proofs.Common.{◌≡◌, ℕ, Bool, true, false, ltb, List, [], ◌∷◌, ◌++◌, get_or, sym, refl, ap, ◌∙◌}
use Rattle.memory.specs.declared.Side.{Side}
use Rattle.memory.specs.declared.Side.TheVariants.{Feeder, Drawer}
use Rattle.memory.specs.Meaning.{Entry, store, bar, Meaning, line, with_line, tidy_from, tidy, words_to, joined}
use Rattle.queue.specs.Waiting.{other, HasBar, BehindBar, Each, Is, IsNot, Any, tally, words, landed_word, size, HoldsBack, AllSealed, SealedBut, waiting_below}
use Rattle.queue.specs.LineLaws.{Stored, Barred}
use Rattle.queue.proofs.Lines.{words_pushed, words_pushed_other, words_barred, each_append, each_any, each_tidy, behind_append, behind_pushed, behind_tidy, hasbar_append, hasbar_pushed, hasbar_tidy, tally_pushed, tally_barred}
use Rattle.queue.proofs.Landing.{on_sides, same_view}

module _ (s : Side) (e : Entry) (m : Meaning) where
  pub joined_line : line s (joined s e m) ≡ tidy (line s m ++ (e ∷ []))
  joined_line = go s (tidy (line s m ++ (e ∷ [])))
    where
      go : (t : Side) (l : List Entry) → line t (with_line t l m) ≡ l
      go Feeder l = refl
      go Drawer l = refl

  pub joined_other_line : line (other s) (joined s e m) ≡ line (other s) m
  joined_other_line = go s (tidy (line s m ++ (e ∷ [])))
    where
      go : (t : Side) (l : List Entry) → line (other t) (with_line t l m) ≡ line (other t) m
      go Feeder l = refl
      go Drawer l = refl

  pub joined_landed : (joined s e m).landed ≡ m.landed
  joined_landed = go s (tidy (line s m ++ (e ∷ [])))
    where
      go : (t : Side) (l : List Entry) → (with_line t l m).landed ≡ m.landed
      go Feeder l = refl
      go Drawer l = refl

  each_joined : (P Q : ℕ → ℕ → Type 0) (B C : List Entry → Type 0) → ((c x : ℕ) → Q c x → P c x) → ((x : List Entry) → B x → C (x ++ (e ∷ []))) → ((x : List Entry) → C x → C (tidy_from false x)) → Each Q C (e ∷ []) → Each P B (line s m) → Each Q C (line s (joined s e m))
  each_joined P Q B C sub step thin last h = rw joined_line (each_tidy Q C thin true (line s m ++ (e ∷ [])) (each_append P Q B C (e ∷ []) sub step last (line s m) h))

  each_joined_other : (P : ℕ → ℕ → Type 0) (B : List Entry → Type 0) → Each P B (line (other s) m) → Each P B (line (other s) (joined s e m))
  each_joined_other P B h = rw joined_other_line h

module _ (s : Side) (a w : ℕ) (m : Meaning) where
  words_stored : (t : Side) (c : ℕ) → (a ≡ c → ⊥) → words t c (joined s (store a w) m) ≡ words t c m
  unfolding words
  words_stored t c ne =
      on_sides (λ t. words_to c (line t (joined s (store a w) m)) ≡ words_to c (line t m)) s t
      (ap (words_to c) (joined_line s (store a w) m) ∙ words_pushed_other c a w (line s m) ne)
      (ap (words_to c) (joined_other_line s (store a w) m))

  holds_stored : (c v b u : ℕ) → ((c ≡ a) × (v ≡ w) → ⊥) → (t : Side) → Each (Is c v) (BehindBar b u) (line t m) → Each (Is c v) (BehindBar b u) (line t (joined s (store a w) m))
  holds_stored c v b u ne t =
      on_sides (λ t. Each (Is c v) (BehindBar b u) (line t m) → Each (Is c v) (BehindBar b u) (line t (joined s (store a w) m))) s t
      (each_joined s (store a w) m (Is c v) (Is c v) (BehindBar b u) (BehindBar b u) (λ _ _ q. q) (λ x. behind_append b u x (store a w ∷ [])) (behind_tidy b u) (λ p. absurd (ne (sym p.0, sym p.1)), tt))
      (each_joined_other s (store a w) m (Is c v) (BehindBar b u))

  behind_stored : (P : ℕ → ℕ → Type 0) (c v : ℕ) → P c v → ((c ≡ a) × (v ≡ w) → ⊥) → Each P HasBar (line s m) → Each (Is c v) (BehindBar a w) (line s (joined s (store a w) m))
  behind_stored P c v p ne =
      each_joined s (store a w) m P (Is c v) HasBar (BehindBar a w) (λ x y q. rw (q.0, q.1) p) (behind_pushed a w) (behind_tidy a w) (λ p. absurd (ne (sym p.0, sym p.1)), tt)

pub store_law : (s : Side) (a w : ℕ) (m : Meaning) → Stored s a w m (joined s (store a w) m)
unfolding words landed_word size HoldsBack AllSealed SealedBut waiting_below
store_law s a w m = record {
  landed = joined_landed s (store a w) m;
  back = ap (words_to a) (joined_line s (store a w) m) ∙ words_pushed a w (line s m);
  opposite_words = λ c. ap (words_to c) (joined_other_line s (store a w) m);
  elsewhere = λ c ne. same_view m (joined s (store a w) m) c (ap (λ (x : List ℕ). get_or x c 0) (joined_landed s (store a w) m)) (λ t. words_stored s a w m t c ne);
  holds = λ t c v b u ne. holds_stored s a w m c v b u ne t;
  behind_all = λ h c v ne. behind_stored s a w m Any c v tt ne h;
  behind_but = λ b u h c v ne nb. behind_stored s a w m (IsNot b u) c v nb ne h;
  sealed_but = each_joined s (store a w) m Any (IsNot a w) HasBar HasBar (λ _ _ _. tt) (λ x. hasbar_append x (store a w ∷ [])) hasbar_tidy (λ p. absurd (p (refl, refl)), tt);
  opposite_sealed = each_joined_other s (store a w) m Any HasBar;
  opposite_sealed_but = λ b u. each_joined_other s (store a w) m (IsNot b u) HasBar;
  below = λ k. ap (tally (λ x. ltb x k)) (joined_line s (store a w) m) ∙ tally_pushed (λ x. ltb x k) a w (line s m);
  opposite_below = λ k. ap (tally (λ x. ltb x k)) (joined_other_line s (store a w) m);
}

module _ (s : Side) (m : Meaning) where
  words_bar : (t : Side) (c : ℕ) → words t c (joined s bar m) ≡ words t c m
  unfolding words
  words_bar t c =
      on_sides (λ t. words_to c (line t (joined s bar m)) ≡ words_to c (line t m)) s t
      (ap (words_to c) (joined_line s bar m) ∙ words_barred c (line s m))
      (ap (words_to c) (joined_other_line s bar m))

  each_bar : (P : ℕ → ℕ → Type 0) (B : List Entry → Type 0) → ((x : List Entry) → B x → B (x ++ (bar ∷ []))) → ((x : List Entry) → B x → B (tidy_from false x)) → (t : Side) → Each P B (line t m) → Each P B (line t (joined s bar m))
  each_bar P B step thin t = on_sides (λ t. Each P B (line t m) → Each P B (line t (joined s bar m))) s t (each_joined s bar m P P B B (λ _ _ q. q) step thin tt) (each_joined_other s bar m P B)

  -- behind every store of the side stands a bar now
  seals : (P : ℕ → ℕ → Type 0) → Each P HasBar (line s (joined s bar m))
  seals P = each_joined s bar m P P (λ _. Unit {0}) HasBar (λ _ _ q. q) (λ x _. hasbar_pushed x) hasbar_tidy tt (each_any P (λ _. Unit {0}) (λ _. tt) (line s m))

  tally_bar : (p : ℕ → Bool) (t : Side) → tally p (line t (joined s bar m)) ≡ tally p (line t m)
  tally_bar p t = on_sides (λ t. tally p (line t (joined s bar m)) ≡ tally p (line t m)) s t (ap (tally p) (joined_line s bar m) ∙ tally_barred p (line s m)) (ap (tally p) (joined_other_line s bar m))

pub bar_law : (s : Side) (m : Meaning) → Barred s m (joined s bar m)
unfolding landed_word size HoldsBack AllSealed SealedBut waiting_below
bar_law s m = record {
  landed = joined_landed s bar m;
  views = λ c. same_view m (joined s bar m) c (ap (λ (x : List ℕ). get_or x c 0) (joined_landed s bar m)) (λ t. words_bar s m t c);
  same_words = words_bar s m;
  holds = λ t c v b u. each_bar s m (Is c v) (BehindBar b u) (λ x. behind_append b u x (bar ∷ [])) (behind_tidy b u) t;
  all_sealed = seals s m Any;
  sealed = each_bar s m Any HasBar (λ x. hasbar_append x (bar ∷ [])) hasbar_tidy;
  sealed_but = λ t b u. each_bar s m (IsNot b u) HasBar (λ x. hasbar_append x (bar ∷ [])) hasbar_tidy t;
  below = λ k. tally_bar s m (λ x. ltb x k);
}
