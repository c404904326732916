-- No store is lost: each waiting store has its address and lands there.
use Rattle.std.proofs.Common.{◌≡◌, ℕ, ◌<◌, Bool, true, false, List, [], ◌∷◌, ◌++◌, length, get_or, sym, refl, ap, ◌∙◌, subst, length-set}
use Rattle.std.proofs.lemmas.List.{get_or-set_same}
use Rattle.memory.specs.declared.Side.{Side}
use Rattle.memory.specs.declared.Side.TheVariants.{Feeder, Drawer}
use Rattle.memory.specs.Meaning.{Entry, store, bar, Meaning, line, with_line, with_word, tidy, tidy_from, joined, Out, here, past, Lands, Landings, none, next, Call, Size, Look, Count, Store, Bar, Land, Drain, Rule}
use Rattle.memory.specs.Laws.{StoresBelow, Addressed, NoStoreLost}

below_tidy : (n : ℕ) (b : Bool) (l : List Entry) → StoresBelow n l → StoresBelow n (tidy_from b l)
below_tidy n b [] h = tt
below_tidy n true (bar ∷ l) h = below_tidy n true l h
below_tidy n false (bar ∷ l) h = below_tidy n true l h
below_tidy n true (store a w ∷ l) h = (h.0, below_tidy n false l h.1)
below_tidy n false (store a w ∷ l) h = (h.0, below_tidy n false l h.1)

below_join : (n : ℕ) (l k : List Entry) → StoresBelow n l → StoresBelow n k → StoresBelow n (l ++ k)
below_join n [] k h g = g
below_join n (bar ∷ l) k h g = below_join n l k h g
below_join n (store a w ∷ l) k h g = (h.0, below_join n l k h.1 g)

below_out : (n : ℕ) {a w : ℕ} {l r : List Entry} → Out a w l r → StoresBelow n l → (a < n) × StoresBelow n r
below_out n here h = (h.0, h.1)
below_out n (past ne o) h = let t = below_out n o h.1 in (t.0, (h.0, t.1))

with_addressed : (s : Side) (l : List Entry) (m : Meaning) → StoresBelow (length m.landed) l → Addressed m → Addressed (with_line s l m)
with_addressed Feeder l m h g Feeder = h
with_addressed Feeder l m h g Drawer = g Drawer
with_addressed Drawer l m h g Feeder = g Feeder
with_addressed Drawer l m h g Drawer = h

word_addressed : (a w : ℕ) (m : Meaning) → Addressed m → Addressed (with_word a w m)
word_addressed a w m h Feeder = subst (λ (n : ℕ). StoresBelow n m.feeder) (sym (length-set m.landed a w)) (h Feeder)
word_addressed a w m h Drawer = subst (λ (n : ℕ). StoresBelow n m.drawer) (sym (length-set m.landed a w)) (h Drawer)

joined_addressed : (s : Side) (e : Entry) (m : Meaning) → StoresBelow (length m.landed) (e ∷ []) → Addressed m → Addressed (joined s e m)
joined_addressed s e m h g = with_addressed s (tidy (line s m ++ (e ∷ []))) m (below_tidy (length m.landed) true (line s m ++ (e ∷ [])) (below_join (length m.landed) (line s m) (e ∷ []) (g s) h)) g

lands_addressed : (s : Side) (a w : ℕ) (m n : Meaning) → Lands s a w m n → Addressed m → Addressed n
lands_addressed s a w m n h g =
    let rest : StoresBelow (length m.landed) h.rest = (below_out (length m.landed) h.out (g s)).1 in
    subst Addressed (sym h.after) (with_addressed s (tidy h.rest) (with_word a w m) (subst (λ (k : ℕ). StoresBelow k (tidy h.rest)) (sym (length-set m.landed a w)) (below_tidy (length m.landed) true h.rest rest)) (word_addressed a w m g))

landings_addressed : {m n : Meaning} → Landings m n → Addressed m → Addressed n
landings_addressed none g = g
landings_addressed (next {m = m} {n = n} s a w h r) g = landings_addressed r (lands_addressed s a w m n h g)

kept_addressed : (k : Call) (m o : Meaning) → Rule k m o → Addressed m → Addressed o
kept_addressed (Size n) m o r g = subst Addressed (sym r.1) g
kept_addressed (Look s a w) m o r g = subst Addressed (sym r.2) g
kept_addressed (Count s n) m o r g = subst Addressed (sym r.1) g
kept_addressed (Store s a w) m o r g = landings_addressed r.1 (joined_addressed s (store a w) m (r.0, tt) g)
kept_addressed (Bar s) m o r g = landings_addressed r (joined_addressed s bar m tt g)
kept_addressed (Land s k) m o r g = landings_addressed r.0 g
kept_addressed Drain m o r g = landings_addressed r.0 g

word_landed : (s : Side) (l : List Entry) (m : Meaning) → (with_line s l m).landed ≡ m.landed
word_landed Feeder l m = refl
word_landed Drawer l m = refl

landed_there : (s : Side) (a w : ℕ) (m n : Meaning) → Addressed m → Lands s a w m n → get_or n.landed a 0 ≡ w
landed_there s a w m n g h =
    ap (λ (z : Meaning). get_or z.landed a 0) h.after ∙ (ap (λ (v : List ℕ). get_or v a 0) (word_landed s (tidy h.rest) (with_word a w m)) ∙ get_or-set_same m.landed a w 0 (below_out (length m.landed) h.out (g s)).0)

empty_addressed : (v : List ℕ) → Addressed (record { landed = v; feeder = []; drawer = [] })
empty_addressed v Feeder = tt
empty_addressed v Drawer = tt

pub no_store_lost : NoStoreLost
no_store_lost = record { at_first = empty_addressed; kept = kept_addressed; lands = landed_there }
