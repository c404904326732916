-- The rules of a memory give what the queue's proof uses.
use Rattle.std.proofs.Common.{◌≡◌, ℕ, ◌+◌, ◌<◌, List, [], ◌∷◌, get_or, sym, refl, ap, ◌∙◌, subst, arith}
use Rattle.std.proofs.lemmas.Bool.{lt-ltb, le-ltb}
use Rattle.memory.specs.declared.Side.{Side}
use Rattle.memory.specs.declared.Side.TheVariants.{Feeder, Drawer}
use Rattle.memory.specs.Meaning.{Entry, store, bar, Meaning, stores, joined, words_to, Lands}
use Rattle.queue.specs.Waiting.{In, words, landed_word, size, view, Waits, HoldsBack, AllSealed, SealedBut, waiting_below}
use Rattle.queue.specs.LineLaws as Laws
use Rattle.queue.proofs.Landing.{landing_law, held_law}
use Rattle.queue.proofs.Joining.{store_law, bar_law}
use Rattle.queue.proofs.Landing.{holds_none}
use Rattle.queue.proofs.Views.{mine, push, before, Landed, view_eq}
use Rattle.queue.proofs.Interface.{Interface}

-- a store at an address of the memory lands
abbrev pub LandsIn : Side → ℕ → ℕ → Meaning → Meaning → Type 0
LandsIn s a w m n = Lands s a w m n × (a < size m)

abbrev pub StoresIn : Side → ℕ → ℕ → Meaning → Meaning → Type 0
StoresIn s a w m n = n ≡ joined s (store a w) m

abbrev pub BarsIn : Side → Meaning → Meaning → Type 0
BarsIn s m n = n ≡ joined s bar m

pub mine_words : (s : Side) (m : Meaning) (a : ℕ) → mine s (view m a) ≡ words s a m
unfolding view
mine_words Feeder m a = refl
mine_words Drawer m a = refl

pub stored : (s : Side) (a w : ℕ) (m n : Meaning) → StoresIn s a w m n → Laws.Stored s a w m n
stored s a w m n e = rw e (store_law s a w m)

pub barred : (s : Side) (m n : Meaning) → BarsIn s m n → Laws.Barred s m n
barred s m n e = rw e (bar_law s m)

pub landed_here : (s : Side) (a w : ℕ) (m n : Meaning) → LandsIn s a w m n → Landed s w (view m a) (view n a)
unfolding view
landed_here Feeder a w m n l = let h = landing_law Feeder a w m n l.0 in record { old = landed_word a m; was = view_eq (view m a) (before Feeder (landed_word a m) w (view n a)) refl h.front (sym (h.opposite_words a)); word = h.word l.1 }
landed_here Drawer a w m n l = let h = landing_law Drawer a w m n l.0 in record { old = landed_word a m; was = view_eq (view m a) (before Drawer (landed_word a m) w (view n a)) refl (sym (h.opposite_words a)) h.front; word = h.word l.1 }

pub stored_here : (s : Side) (a w : ℕ) (m n : Meaning) → StoresIn s a w m n → view n a ≡ push s w (view m a)
unfolding view landed_word
stored_here Feeder a w m n e = let h = stored Feeder a w m n e in view_eq (view n a) (push Feeder w (view m a)) (ap (λ (l : List ℕ). get_or l a 0) h.landed) h.back (h.opposite_words a)
stored_here Drawer a w m n e = let h = stored Drawer a w m n e in view_eq (view n a) (push Drawer w (view m a)) (ap (λ (l : List ℕ). get_or l a 0) h.landed) (h.opposite_words a) h.back

pub no_words : (a : ℕ) (l : List Entry) → stores l ≡ 0 → words_to a l ≡ []
no_words a [] e = refl
no_words a (bar ∷ l) e = no_words a l e
no_words a (store b v ∷ l) e = absurd (omega arith)

pub quiet_words : (m : Meaning) → stores m.feeder + stores m.drawer ≡ 0 → (a : ℕ) (s : Side) → mine s (view m a) ≡ []
unfolding view words
quiet_words m e a Feeder = no_words a m.feeder (omega arith)
quiet_words m e a Drawer = no_words a m.drawer (omega arith)

pub held : (s : Side) (m : Meaning) (a v b u : ℕ) → HoldsBack s a v b u m → In v (mine s (view m a)) → In u (mine s (view m b))
unfolding Waits
held s m a v b u h x = subst (In u) (sym (mine_words s m b)) (held_law s a v b u m h (subst (In v) (mine_words s m a) x))

pub none : (s : Side) (m : Meaning) (a v : ℕ) → mine s (view m a) ≡ [] → Waits s a v m → ⊥
unfolding Waits
none s m a v e x = subst (In v) (sym (mine_words s m a) ∙ e) x

abbrev pub meaning_interface : Interface
meaning_interface = record {
  M = Meaning;
  view = view;
  Holds = λ s m a v b u. HoldsBack s a v b u m;
  Sealed = AllSealed;
  SealedBut = λ s m a v. SealedBut s a v m;
  Land = LandsIn;
  Store = StoresIn;
  Bar = BarsIn;
  holds_waits = λ s m a v b u h x. held s m a v b u h x;
  holds_none = λ s m a v b u e. holds_none s a v b u m (λ x. none s m a v e x);
  waits = λ m. stores m.feeder + stores m.drawer;
  waits_none = quiet_words;
  land_here = landed_here;
  land_there = λ s a w m n l b ne. (landing_law s a w m n l.0).elsewhere b (λ e. ne (sym e));
  land_holds = λ s a w m n l t b v c u. (landing_law s a w m n l.0).holds t b v c u;
  land_sealed = λ s a w m n l. (landing_law s a w m n l.0).sealed;
  land_but = λ s a w m n l. (landing_law s a w m n l.0).sealed_but;
  store_here = stored_here;
  store_there = λ s a w m n l b ne. (stored s a w m n l).elsewhere b (λ e. ne (sym e));
  store_holds = λ s a w m n l t b v c u ne. (stored s a w m n l).holds t b v c u (λ x. ne x.0 x.1);
  store_new = λ s a w m n l h b v ne. (stored s a w m n l).behind_all h b v (λ x. ne x.0 x.1);
  store_new_but = λ s a w m n l c u h b v ne nf. (stored s a w m n l).behind_but c u h b v (λ x. ne x.0 x.1) (λ x. nf x.0 x.1);
  store_but = λ s a w m n l. (stored s a w m n l).sealed_but;
  store_sealed = λ s a w m n l. (stored s a w m n l).opposite_sealed;
  store_other_but = λ s a w m n l. (stored s a w m n l).opposite_sealed_but;
  bar_view = λ s m n l. (barred s m n l).views;
  bar_holds = λ s m n l. (barred s m n l).holds;
  bar_sealed = λ s m n l. (barred s m n l).all_sealed;
  bar_keeps = λ s m n l. (barred s m n l).sealed;
  bar_but = λ s m n l. (barred s m n l).sealed_but;
  count = λ b m. waiting_below b Feeder m;
  count_store = λ a w m n l b h. (stored Feeder a w m n l).below b ∙ (rw (lt-ltb a b h) (omega arith));
  count_above = λ a w m n l b h. (stored Feeder a w m n l).below b ∙ (rw (le-ltb a b h) refl);
  count_drawer = λ a w m n l b. (stored Drawer a w m n l).opposite_below b;
  count_bar = λ s m n l b. (barred s m n l).below b Feeder;
  count_land = λ a w m n l b h. (landing_law Feeder a w m n l.0).below b ∙ (rw (lt-ltb a b h) (omega arith));
  count_land_above = λ a w m n l b h. sym ((landing_law Feeder a w m n l.0).below b ∙ (rw (le-ltb a b h) refl));
  count_land_drawer = λ a w m n l b. (landing_law Drawer a w m n l.0).opposite_below b;
}
