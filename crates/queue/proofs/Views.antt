-- What one address shows: the landed word, and each side's waiting words, oldest first.
use Rattle.std.proofs.Common.{◌≡◌, ℕ, zero, suc, ◌+◌, ◌%◌, ◌<◌, ◌≤◌, List, [], ◌∷◌, ◌++◌, sym, refl, ap, ◌∙◌, subst, inl, inr, arith}
use Rattle.queue.specs.Waiting.{View, In}
use Rattle.memory.specs.Meaning.{last_or}
use Rattle.memory.specs.declared.Side.{Side}
use Rattle.memory.specs.declared.Side.TheVariants.{Feeder, Drawer}

pub view_eq : (x y : View) → x.word ≡ y.word → x.feeder ≡ y.feeder → x.drawer ≡ y.drawer → x ≡ y
view_eq x y p q r = λ i. record { word = p i; feeder = q i; drawer = r i }

abbrev pub mine : Side → View → List ℕ
mine Feeder x = x.feeder
mine Drawer x = x.drawer

abbrev pub seen : Side → View → ℕ
seen s x = last_or (mine s x) x.word

abbrev pub push : Side → ℕ → View → View
push Feeder w x = record { word = x.word; feeder = x.feeder ++ (w ∷ []); drawer = x.drawer }
push Drawer w x = record { word = x.word; feeder = x.feeder; drawer = x.drawer ++ (w ∷ []) }

-- the view before the store of w lands, and o was landed
abbrev pub before : Side → ℕ → ℕ → View → View
before Feeder o w x = record { word = o; feeder = w ∷ x.feeder; drawer = x.drawer }
before Drawer o w x = record { word = o; feeder = x.feeder; drawer = w ∷ x.drawer }

pub record Landed (s : Side) (w : ℕ) (x y : View) : Type 0 where
  pub old : ℕ
  pub was : x ≡ before s old w y
  pub word : y.word ≡ w

abbrev pub rest : ℕ → View
rest v = record { word = v; feeder = []; drawer = [] }

abbrev pub coming : Side → ℕ → View
coming Feeder v = record { word = 0; feeder = v ∷ []; drawer = [] }
coming Drawer v = record { word = 0; feeder = []; drawer = v ∷ [] }

abbrev pub going : Side → ℕ → View
going Feeder u = record { word = u; feeder = 0 ∷ []; drawer = [] }
going Drawer u = record { word = u; feeder = []; drawer = 0 ∷ [] }

pub data Filled (s : Side) (v : ℕ) (x : View) : Type 0 where
  rests : x ≡ rest v → Filled s v x
  comes : x ≡ coming s v → Filled s v x

pub data Vacant (s : Side) (x : View) : Type 0 where
  rests : x ≡ rest 0 → Vacant s x
  goes : (u : ℕ) → (u ≡ 0 → ⊥) → x ≡ going s u → Vacant s x

-- a rest stays at rest: nothing can land there
pub rest_lands : (s : Side) (w v : ℕ) (x y : View) → Landed s w x y → x ≡ rest v → ⊥
rest_lands Feeder w v x y l e = let z : ◌≡◌ {A = List ℕ} [] (w ∷ y.feeder) = sym (ap (λ (q : View). q.feeder) e) ∙ ap (λ (q : View). q.feeder) l.was in let k : ◌≡◌ {A = ℕ} 0 1 = cc in omega arith
rest_lands Drawer w v x y l e = let z : ◌≡◌ {A = List ℕ} [] (w ∷ y.drawer) = sym (ap (λ (q : View). q.drawer) e) ∙ ap (λ (q : View). q.drawer) l.was in let k : ◌≡◌ {A = ℕ} 0 1 = cc in omega arith

pub one_lands : (s t : Side) (w u v : ℕ) (x y : View) → Landed s w x y → x ≡ record { word = u; feeder = v ∷ []; drawer = [] } → y ≡ rest v
one_lands Feeder t w u v x y l e =
    let z : v ∷ [] ≡ w ∷ y.feeder = sym (ap (λ (q : View). q.feeder) e) ∙ ap (λ (q : View). q.feeder) l.was in
    let d : [] ≡ y.drawer = sym (ap (λ (q : View). q.drawer) e) ∙ ap (λ (q : View). q.drawer) l.was in
    view_eq y (rest v) (l.word ∙ (cc)) (cc) (sym d)
one_lands Drawer t w u v x y l e =
    let d : ◌≡◌ {A = List ℕ} [] (w ∷ y.drawer) = sym (ap (λ (q : View). q.drawer) e) ∙ ap (λ (q : View). q.drawer) l.was in
    let k : ◌≡◌ {A = ℕ} 0 1 = cc in absurd (omega arith)

pub other_lands : (s t : Side) (w u v : ℕ) (x y : View) → Landed s w x y → x ≡ record { word = u; feeder = []; drawer = v ∷ [] } → y ≡ rest v
other_lands Drawer t w u v x y l e =
    let z : v ∷ [] ≡ w ∷ y.drawer = sym (ap (λ (q : View). q.drawer) e) ∙ ap (λ (q : View). q.drawer) l.was in
    let d : [] ≡ y.feeder = sym (ap (λ (q : View). q.feeder) e) ∙ ap (λ (q : View). q.feeder) l.was in
    view_eq y (rest v) (l.word ∙ (cc)) (sym d) (cc)
other_lands Feeder t w u v x y l e =
    let d : ◌≡◌ {A = List ℕ} [] (w ∷ y.feeder) = sym (ap (λ (q : View). q.feeder) e) ∙ ap (λ (q : View). q.feeder) l.was in
    let k : ◌≡◌ {A = ℕ} 0 1 = cc in absurd (omega arith)

-- a landing keeps what is filled filled, and what is vacant vacant
pub filled_lands : (s : Side) (w : ℕ) (x y : View) → Landed s w x y → (t : Side) (v : ℕ) → Filled t v x → Filled t v y
filled_lands s w x y l t v (rests e) = absurd (rest_lands s w v x y l e)
filled_lands s w x y l Feeder v (comes e) = rests (one_lands s s w 0 v x y l e)
filled_lands s w x y l Drawer v (comes e) = rests (other_lands s s w 0 v x y l e)

pub vacant_lands : (s : Side) (w : ℕ) (x y : View) → Landed s w x y → (t : Side) → Vacant t x → Vacant t y
vacant_lands s w x y l t (rests e) = absurd (rest_lands s w 0 x y l e)
vacant_lands s w x y l Feeder (goes u ne e) = rests (one_lands s s w u 0 x y l e)
vacant_lands s w x y l Drawer (goes u ne e) = rests (other_lands s s w u 0 x y l e)

pub rest_stays : (s : Side) (w : ℕ) (x y : View) → Landed s w x y → (v : ℕ) → x ≡ rest v → y ≡ rest v
rest_stays s w x y l v e = absurd (rest_lands s w v x y l e)

-- the word of visit k's ring
unfoldable pub ring : ℕ → ℕ → ℕ
ring R k = k % R

unfoldable pub visit_word : ℕ → ℕ → ℕ
visit_word R k = suc (ring R k)

-- the ring words of n visits from k on
abbrev pub run : ℕ → ℕ → ℕ → List ℕ
run R zero k = []
run R (suc n) k = visit_word R k ∷ run R n (suc k)

-- the mark shows visit from, and the visits up to hi wait
pub record Marked (R hi lo : ℕ) (x : View) : Type 0 where
  pub from : ℕ
  pub more : ℕ
  pub is : x ≡ record { word = visit_word R from; feeder = run R more (suc from); drawer = [] }
  pub ends : from + more ≡ hi
  pub low : lo ≤ from

pub marked_lands : (s : Side) (w : ℕ) (x y : View) → Landed s w x y → (R hi lo : ℕ) → Marked R hi lo x → Marked R hi lo y
marked_lands s w x y l R hi lo c = go s l c.from c.more c.is c.ends c.low
  where
    go : (s : Side) → Landed s w x y → (j n : ℕ) → x ≡ record { word = visit_word R j; feeder = run R n (suc j); drawer = [] } → j + n ≡ hi → lo ≤ j → Marked R hi lo y
    go Drawer l j n e p q =
        let d : ◌≡◌ {A = List ℕ} [] (w ∷ y.drawer) = sym (ap (λ (q : View). q.drawer) e) ∙ ap (λ (q : View). q.drawer) l.was in
        let k : ◌≡◌ {A = ℕ} 0 1 = cc in absurd (omega arith)
    go Feeder l j zero e p q =
        let d : ◌≡◌ {A = List ℕ} [] (w ∷ y.feeder) = sym (ap (λ (q : View). q.feeder) e) ∙ ap (λ (q : View). q.feeder) l.was in
        let k : ◌≡◌ {A = ℕ} 0 1 = cc in absurd (omega arith)
    go Feeder l j (suc n) e p q =
        let d : [] ≡ y.drawer = sym (ap (λ (q : View). q.drawer) e) ∙ ap (λ (q : View). q.drawer) l.was in
        let z : visit_word R (suc j) ∷ run R n (suc (suc j)) ≡ w ∷ y.feeder = sym (ap (λ (q : View). q.feeder) e) ∙ ap (λ (q : View). q.feeder) l.was in
        record { from = suc j; more = n; is = view_eq y (record { word = visit_word R (suc j); feeder = run R n (suc (suc j)); drawer = [] }) (l.word ∙ (cc)) (cc) (sym d); ends = omega arith; low = omega arith }

-- visits k to k + n have ring words unlike that of an earlier visit within the round
pub not_in_run : (R n j k : ℕ) → ((i : ℕ) → j < i → i < k + n → visit_word R j ≡ visit_word R i → ⊥) → j < k → In (visit_word R j) (run R n k) → ⊥
not_in_run R zero j k h l x = x
not_in_run R (suc n) j k h l (inl e) = h k l (omega arith) (sym e)
not_in_run R (suc n) j k h l (inr x) = not_in_run R n j (suc k) (λ i p q. h i p (omega arith)) (omega arith) x

-- what every landing keeps of an address
pub record Keeps (R : ℕ) (x y : View) : Type 0 where
  pub filled : (t : Side) (v : ℕ) → Filled t v x → Filled t v y
  pub vacant : (t : Side) → Vacant t x → Vacant t y
  pub rest : (v : ℕ) → x ≡ rest v → y ≡ rest v
  pub marked : (hi lo : ℕ) → Marked R hi lo x → Marked R hi lo y

pub keeps_same : (R : ℕ) (x y : View) → y ≡ x → Keeps R x y
keeps_same R x y e = subst (λ (z : View). Keeps R x z) (sym e) (record { filled = λ t v h. h; vacant = λ t h. h; rest = λ v h. h; marked = λ a b h. h })

pub keeps_lands : (R : ℕ) (s : Side) (w : ℕ) (x y : View) → Landed s w x y → Keeps R x y
keeps_lands R s w x y l = record { filled = filled_lands s w x y l; vacant = vacant_lands s w x y l; rest = rest_stays s w x y l; marked = marked_lands s w x y l R }

run_snoc : (R n k : ℕ) → run R n k ++ (visit_word R (k + n) ∷ []) ≡ run R (suc n) k
run_snoc R zero k = ap (λ (x : ℕ). visit_word R x ∷ []) (omega arith)
run_snoc R (suc n) k = ap (λ (l : List ℕ). visit_word R k ∷ l) (ap (λ (x : ℕ). run R n (suc k) ++ (visit_word R x ∷ [])) (omega arith) ∙ run_snoc R n (suc k))

pub mark_push : (R hi lo : ℕ) (x : View) → Marked R hi lo x → Marked R (suc hi) lo (push Feeder (visit_word R (suc hi)) x)
mark_push R hi lo x c = record { from = c.from; more = suc c.more; is = ap (push Feeder (visit_word R (suc hi))) c.is ∙ view_eq (push Feeder (visit_word R (suc hi)) (record { word = visit_word R c.from; feeder = run R c.more (suc c.from); drawer = [] })) (record { word = visit_word R c.from; feeder = run R (suc c.more) (suc c.from); drawer = [] }) refl (ap (λ (y : ℕ). run R c.more (suc c.from) ++ (visit_word R y ∷ [])) (omega (arith, c.ends)) ∙ run_snoc R c.more (suc c.from)) refl; ends = omega (arith, c.ends); low = c.low }
