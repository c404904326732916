-- The loose memory keeps the rules.
use Rattle.std.proofs.Common.{◌≡◌, ℕ, ◌+◌, ◌<◌, Bool, true, false, List, [], ◌∷◌, ◌++◌, set, sym, refl, ap, ◌∙◌, subst, arith}
use native.Mathlib.Nat.{min-eq_left, zero-mod}
use Rattle.memory.specs.declared.Side.{Side}
use Rattle.memory.specs.declared.Side.TheVariants.{Feeder, Drawer}
use Rattle.memory.specs.declared.loose.Loose.{Loose}
use Rattle.memory.specs.Meaning.{Entry, store, bar, Meaning, line, with_line, with_word, stores, joined, tidy, tidy_from, Call, Size, Look, Count, Store, Bar, Land, Drain, Rule, Made, Lands, Out, Landings, none, next, here}
use Rattle.memory.specs.Owner.{SameWords}
use Rattle.memory.specs.Line.{entries_of, free, ready, TakenOut}
use Rattle.memory.specs.Loose.{loose_meaning, Becomes, Picked, Oldest, Landed, nothing, one, Room, found, made, Stored, after_all, all_landed, drained, LooseCall}
use Rattle.memory.proofs.Tidy.{tidy_again, tidy_more}
use Rattle.memory.proofs.Lines.{out_free}
use Rattle.memory.proofs.Landing.{landings_on, landings_join, lands_fewer}

-- no line has a bar that holds nothing back
abbrev Tidy : Meaning → Type 0
Tidy m = (s : Side) → tidy (line s m) ≡ line s m

picked_lands : (s : Side) (k : ℕ) (m n : Meaning) (p : Picked s k m n) → Lands s p.address p.word m n
picked_lands s k m n p =
    let t = p.out in
    record {
      rest = t.older ++ t.younger;
      out = subst (λ (l : List Entry). Out p.address p.word l (t.older ++ t.younger)) (sym t.waits) (out_free p.address p.word t.older t.younger t.can);
      after = p.after ∙ ap (λ (l : List Entry). with_line s l (with_word p.address p.word m)) t.after;
    }

oldest_lands : (s : Side) (m n : Meaning) (p : Oldest s m n) → Lands s p.address p.word m n
oldest_lands s m n p = record { rest = p.younger; out = subst (λ (l : List Entry). Out p.address p.word l p.younger) (sym p.waits) here; after = p.after }

-- number 0 of those that can land is the oldest
first_is_oldest : (l : List Entry) (a w : ℕ) (left : List Entry) → TakenOut 0 l a w left → (younger : List Entry) × (l ≡ store a w ∷ younger) × (left ≡ tidy younger)
first_is_oldest l a w left t = go t.older t.waits t.can t.number t.after
  where
    go : (older : List Entry) → l ≡ older ++ (store a w ∷ t.younger) → free a older ≡ true → ready [] older ≡ 0 → left ≡ tidy (older ++ t.younger) → (younger : List Entry) × (l ≡ store a w ∷ younger) × (left ≡ tidy younger)
    go [] e c n f = (t.younger, e, f)
    go (bar ∷ o) e c n f = absurd (let z : ◌≡◌ {A = ℕ} 0 1 = cc in omega arith)
    go (store b v ∷ o) e c n f = absurd (omega arith)

picks_oldest : (s : Side) (m n : Meaning) → Picked s 0 m n → Oldest s m n
picks_oldest s m n p =
    let f = first_is_oldest (line s m) p.address p.word p.left p.out in
    record { address = p.address; word = p.word; younger = f.0; waits = f.1; after = p.after ∙ ap (λ (l : List Entry). with_line s l (with_word p.address p.word m)) f.2 }

no_bar_first : (l k : List Entry) → tidy_from true l ≡ bar ∷ k → ⊥
no_bar_first [] k e = let z : ◌≡◌ {A = ℕ} 0 1 = cc in omega arith
no_bar_first (bar ∷ l) k e = no_bar_first l k e
no_bar_first (store a w ∷ l) k e = let z : ◌≡◌ {A = ℕ} 0 1 = cc in omega arith

-- where no store of a tidy line can land, none waits
none_waits : (l : List Entry) → tidy l ≡ l → ready [] l ≡ 0 → l ≡ []
none_waits [] t r = refl
none_waits (bar ∷ l) t r = absurd (no_bar_first l l t)
none_waits (store a w ∷ l) t r = absurd (omega arith)

lands_rule : (s : Side) (k : ℕ) (m o : Meaning) → Tidy m → Landed s k m o → Rule (Land s k) m o
lands_rule s k m o t (nothing i) = (subst (λ (z : Meaning). Landings m z) (sym i.same) none, λ h. absurd (omega (arith, h, ap stores (none_waits (line s m) (t s) i.none_ready))))
lands_rule s k m o t (one r p) = let l = picked_lands s _ m o p in (next s p.address p.word l none, λ h. omega (arith, lands_fewer s l))

room_rule : (s : Side) (m n : Meaning) → Room s m n → Landings m n
room_rule s m n (found h e) = subst (λ (z : Meaning). Landings m z) (sym e) none
room_rule s m n (made h p) = next s p.address p.word (oldest_lands s m n p) none

stores_rule : (s : Side) (a w : ℕ) (m o : Meaning) → Stored s a w m o → Landings (joined s (store a w) m) o
stores_rule s a w m o h = subst (λ (z : Meaning). Landings (joined s (store a w) m) z) (sym h.after) (landings_on s (store a w ∷ []) (room_rule s m h.roomy h.room))

-- a line lands whole, oldest first
line_lands : (s : Side) (l : List Entry) (m : Meaning) → line s m ≡ tidy l → Landings m (with_line s [] (record { landed = after_all l m.landed; feeder = m.feeder; drawer = m.drawer }))
line_lands Feeder [] m e = subst (λ (z : List Entry). Landings m (record { landed = m.landed; feeder = z; drawer = m.drawer })) e none
line_lands Drawer [] m e = subst (λ (z : List Entry). Landings m (record { landed = m.landed; feeder = m.feeder; drawer = z })) e none
line_lands s (bar ∷ l) m e = line_lands s l m e
line_lands Feeder (store a w ∷ l) m e = next Feeder a w (record { rest = tidy_from false l; out = subst (λ (z : List Entry). Out a w z (tidy_from false l)) (sym e) here; after = refl }) (line_lands Feeder l (with_line Feeder (tidy (tidy_from false l)) (with_word a w m)) (tidy_more true l))
line_lands Drawer (store a w ∷ l) m e = next Drawer a w (record { rest = tidy_from false l; out = subst (λ (z : List Entry). Out a w z (tidy_from false l)) (sym e) here; after = refl }) (line_lands Drawer l (with_line Drawer (tidy (tidy_from false l)) (with_word a w m)) (tidy_more true l))

drains_rule : (m : Meaning) → Tidy m → Landings m (drained m)
drains_rule m t = landings_join (line_lands Feeder m.feeder m (sym (t Feeder))) (line_lands Drawer m.drawer (all_landed Feeder m) (sym (t Drawer)))

loose_rules : (k : Call) (m o : Meaning) → Tidy m → LooseCall k m o → Rule k m o
loose_rules (Size n) m o t e = e
loose_rules (Look s a w) m o t e = e
loose_rules (Count s n) m o t e = (e.0 ∙ sym (min-eq_left (omega (arith, e.0, e.1))), e.2)
loose_rules (Store s a w) m o t e = (e.0, stores_rule s a w m o e.1)
loose_rules (Bar s) m o t e = subst (λ (z : Meaning). Landings (joined s bar m) z) (sym e) none
loose_rules (Land s k) m o t e = lands_rule s k m o t e
loose_rules Drain m o t e = subst (λ (z : Meaning). Rule Drain m z) (sym e) (drains_rule m t, refl, refl)

tidied : (x : Loose) → Tidy (loose_meaning x)
tidied x Feeder = tidy_again true (entries_of x.lines.feeder.waiting.items x.lines.feeder.fenced)
tidied x Drawer = tidy_again true (entries_of x.lines.drawer.waiting.items x.lines.drawer.fenced)

-- a call that does exactly this keeps the rules
pub loose_made : (k : Call) (x y : Loose) → Becomes (LooseCall k) x y → Made loose_meaning (λ j u v. LooseCall j (loose_meaning u) (loose_meaning v) × SameWords u.words v.words) k x y
loose_made k x y h = record { call = (h.means, h.owner); rule = loose_rules k (loose_meaning x) (loose_meaning y) (tidied x) h.means }

-- landing the oldest, again and again

after_tidy : (b : Bool) (l : List Entry) (v : List ℕ) → after_all (tidy_from b l) v ≡ after_all l v
after_tidy b [] v = refl
after_tidy true (bar ∷ l) v = after_tidy true l v
after_tidy false (bar ∷ l) v = after_tidy true l v
after_tidy true (store a w ∷ l) v = after_tidy false l (set v a w)
after_tidy false (store a w ∷ l) v = after_tidy false l (set v a w)

pub one_less_left : (s : Side) (m n : Meaning) → Oldest s m n → all_landed s n ≡ all_landed s m
one_less_left Feeder m n p =
    ap (all_landed Feeder) p.after ∙ ap (λ (v : List ℕ). record { landed = v; feeder = []; drawer = m.drawer }) (after_tidy true p.younger (set m.landed p.address p.word) ∙ sym (ap (λ (l : List Entry). after_all l m.landed) p.waits))
one_less_left Drawer m n p =
    ap (all_landed Drawer) p.after ∙ ap (λ (v : List ℕ). record { landed = v; feeder = m.feeder; drawer = [] }) (after_tidy true p.younger (set m.landed p.address p.word) ∙ sym (ap (λ (l : List Entry). after_all l m.landed) p.waits))

no_stores : (l : List Entry) → stores l ≡ 0 → tidy l ≡ []
no_stores [] e = refl
no_stores (bar ∷ l) e = no_stores l e
no_stores (store a w ∷ l) e = absurd (omega arith)

pub nothing_left : (s : Side) (x : Loose) → stores (line s (loose_meaning x)) ≡ 0 → all_landed s (loose_meaning x) ≡ loose_meaning x
nothing_left s x e = empty s (loose_meaning x) (sym (tidied x s) ∙ no_stores (line s (loose_meaning x)) e)
  where
    empty : (t : Side) (m : Meaning) → line t m ≡ [] → all_landed t m ≡ m
    empty Feeder m z = ap (λ (l : List Entry). record { landed = after_all l m.landed; feeder = []; drawer = m.drawer }) z ∙ ap (λ (l : List Entry). record { landed = m.landed; feeder = l; drawer = m.drawer }) (sym z)
    empty Drawer m z = ap (λ (l : List Entry). record { landed = after_all l m.landed; feeder = m.feeder; drawer = [] }) z ∙ ap (λ (l : List Entry). record { landed = m.landed; feeder = m.feeder; drawer = l }) (sym z)

pub lands_oldest : (s : Side) (x : Loose) (o : Meaning) → 0 < stores (line s (loose_meaning x)) → Landed s 0 (loose_meaning x) o → Oldest s (loose_meaning x) o
lands_oldest s x o h (nothing i) = absurd (omega (arith, h, ap stores (none_waits (line s (loose_meaning x)) (tidied x s) i.none_ready)))
lands_oldest s x o h (one r p) = picks_oldest s (loose_meaning x) o (subst (λ (k : ℕ). Picked s k (loose_meaning x) o) (zero-mod (ready [] (line s (loose_meaning x)))) p)

pub oldest_fewer : (s : Side) (m n : Meaning) → Oldest s m n → stores (line s n) + 1 ≡ stores (line s m)
oldest_fewer s m n p = lands_fewer s (oldest_lands s m n p)
