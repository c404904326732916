-- Which store number k is, is fixed by the line: what the loose memory lands of two waiting stores.
use Rattle.std.proofs.Common.{◌≡◌, ℕ, ◌+◌, Bool, true, cond, List, [], ◌∷◌, ◌++◌, set, sym, refl, ap, ◌∙◌, append_assoc, arith}
use Rattle.std.proofs.lemmas.List.{append-nil}
use Rattle.memory.specs.declared.Side.TheVariants.{Feeder}
use Rattle.memory.specs.Meaning.{Entry, store, bar, Meaning, tidy, Land}
use Rattle.memory.specs.Line.{free, ready, TakenOut}
use Rattle.memory.specs.Loose.{nothing, one, LooseCall}
use Rattle.memory.specs.Laws.{two_stores, two_barred, LoosePicks}

free_shifted : (a : ℕ) (p : List Entry) (e : Entry) (o : List Entry) → free a (p ++ (e ∷ o)) ≡ true → free a ((p ++ (e ∷ [])) ++ o) ≡ true
free_shifted a p e o h = ap (free a) (append_assoc p (e ∷ []) o) ∙ h

counts_on : (p : List Entry) (b v c u : ℕ) (o₁ o₂ : List Entry) → store b v ≡ store c u → ready p (store b v ∷ o₁) ≡ ready p (store c u ∷ o₂) → ready (p ++ (store b v ∷ [])) o₁ ≡ ready (p ++ (store b v ∷ [])) o₂
counts_on p b v c u o₁ o₂ h r = let e : ready p (store b v ∷ o₁) ≡ ready p (store b v ∷ o₂) = r ∙ ap (λ (z : Entry). ready p (z ∷ o₂)) (sym h) in omega arith

-- a store that can land is counted, so it is not number k before which it stands
not_before : (p o y : List Entry) (a w b v : ℕ) → store a w ≡ store b v → free a (p ++ []) ≡ true → 0 ≡ ready p (store b v ∷ o) → ⊥
not_before p o y a w b v e f r =
    let b_is : a ≡ b = cc in
    let fr : free b p ≡ true = ap (λ (z : ℕ). free z p) (sym b_is) ∙ (ap (free a) (sym (append-nil p)) ∙ f) in
    let n : 0 ≡ 1 + ready (p ++ (store b v ∷ [])) o = r ∙ ap (λ (c : Bool). cond c 1 0 + ready (p ++ (store b v ∷ [])) o) fr in
    omega arith

same_place : (p o₁ o₂ y₁ y₂ : List Entry) (a₁ w₁ a₂ w₂ : ℕ) → o₁ ++ (store a₁ w₁ ∷ y₁) ≡ o₂ ++ (store a₂ w₂ ∷ y₂) → free a₁ (p ++ o₁) ≡ true → free a₂ (p ++ o₂) ≡ true → ready p o₁ ≡ ready p o₂ → (o₁ ≡ o₂) × (a₁ ≡ a₂) × (w₁ ≡ w₂) × (y₁ ≡ y₂)
same_place p [] [] y₁ y₂ a₁ w₁ a₂ w₂ e f₁ f₂ r = (refl, cc, cc, cc)
same_place p [] (bar ∷ o) y₁ y₂ a₁ w₁ a₂ w₂ e f₁ f₂ r = absurd (let z : ◌≡◌ {A = ℕ} 0 1 = cc in omega arith)
same_place p [] (store b v ∷ o) y₁ y₂ a₁ w₁ a₂ w₂ e f₁ f₂ r = absurd (not_before p o y₁ a₁ w₁ b v (cc) f₁ r)
same_place p (bar ∷ o) [] y₁ y₂ a₁ w₁ a₂ w₂ e f₁ f₂ r = absurd (let z : ◌≡◌ {A = ℕ} 0 1 = cc in omega arith)
same_place p (store b v ∷ o) [] y₁ y₂ a₁ w₁ a₂ w₂ e f₁ f₂ r = absurd (not_before p o y₂ a₂ w₂ b v (cc) f₂ (sym r))
same_place p (bar ∷ o₁) (bar ∷ o₂) y₁ y₂ a₁ w₁ a₂ w₂ e f₁ f₂ r =
    let q = same_place (p ++ (bar ∷ [])) o₁ o₂ y₁ y₂ a₁ w₁ a₂ w₂ (cc) (free_shifted a₁ p bar o₁ f₁) (free_shifted a₂ p bar o₂ f₂) r in
    (ap (λ (z : List Entry). bar ∷ z) q.0, q.1, q.2, q.3)
same_place p (bar ∷ o₁) (store b v ∷ o₂) y₁ y₂ a₁ w₁ a₂ w₂ e f₁ f₂ r = absurd (let z : ◌≡◌ {A = ℕ} 0 1 = cc in omega arith)
same_place p (store b v ∷ o₁) (bar ∷ o₂) y₁ y₂ a₁ w₁ a₂ w₂ e f₁ f₂ r = absurd (let z : ◌≡◌ {A = ℕ} 0 1 = cc in omega arith)
same_place p (store b v ∷ o₁) (store c u ∷ o₂) y₁ y₂ a₁ w₁ a₂ w₂ e f₁ f₂ r =
    let h : store b v ≡ store c u = cc in
    let t : o₁ ++ (store a₁ w₁ ∷ y₁) ≡ o₂ ++ (store a₂ w₂ ∷ y₂) = cc in
    let g : free a₂ ((p ++ (store b v ∷ [])) ++ o₂) ≡ true = free_shifted a₂ p (store b v) o₂ (ap (λ (z : Entry). free a₂ (p ++ (z ∷ o₂))) h ∙ f₂) in
    let q = same_place (p ++ (store b v ∷ [])) o₁ o₂ y₁ y₂ a₁ w₁ a₂ w₂ t (free_shifted a₁ p (store b v) o₁ f₁) g (counts_on p b v c u o₁ o₂ h r) in
    (ap (λ (z : List Entry). store b v ∷ z) q.0 ∙ ap (λ (z : Entry). z ∷ o₂) h, q.1, q.2, q.3)

pub pick_is_fixed : (k : ℕ) (l : List Entry) (a₁ w₁ a₂ w₂ : ℕ) (l₁ l₂ : List Entry) → TakenOut k l a₁ w₁ l₁ → TakenOut k l a₂ w₂ l₂ → (a₁ ≡ a₂) × (w₁ ≡ w₂) × (l₁ ≡ l₂)
pick_is_fixed k l a₁ w₁ a₂ w₂ l₁ l₂ x y =
    let q = same_place [] x.older y.older x.younger y.younger a₁ w₁ a₂ w₂ (sym x.waits ∙ y.waits) x.can y.can (x.number ∙ sym y.number) in
    (q.1, q.2, x.after ∙ (ap (λ (z : List Entry). tidy (z ++ x.younger)) q.0 ∙ (ap (λ (z : List Entry). tidy (y.older ++ z)) q.3 ∙ sym y.after)))

-- the feeder's only pick lands this word here, and leaves this line
lands_so : (a w : ℕ) (left : List Entry) (b v : ℕ) (l : List Entry) (o : Meaning) → o ≡ record { landed = set (0 ∷ 0 ∷ []) b v; feeder = l; drawer = [] } → (b ≡ a) × (v ≡ w) × (l ≡ left) → o ≡ record { landed = set (0 ∷ 0 ∷ []) a w; feeder = left; drawer = [] }
lands_so a w left b v l o e q = e ∙ (ap (λ (z : ℕ). record { landed = set (0 ∷ 0 ∷ []) z v; feeder = l; drawer = [] }) q.0 ∙ (ap (λ (z : ℕ). record { landed = set (0 ∷ 0 ∷ []) a z; feeder = l; drawer = [] }) q.1 ∙ ap (λ (z : List Entry). record { landed = set (0 ∷ 0 ∷ []) a w; feeder = z; drawer = [] }) q.2))

younger_lands : (o : Meaning) → LooseCall (Land Feeder 1) two_stores o → o ≡ record { landed = 0 ∷ 6 ∷ []; feeder = store 0 5 ∷ []; drawer = [] }
younger_lands o (nothing i) = absurd (omega (arith, i.none_ready))
younger_lands o (one r p) =
    let t : TakenOut 1 two_stores.feeder 1 6 (store 0 5 ∷ []) = record { older = store 0 5 ∷ []; younger = []; waits = refl; can = refl; number = refl; after = refl } in
    lands_so 1 6 (store 0 5 ∷ []) p.address p.word p.left o p.after (pick_is_fixed 1 two_stores.feeder p.address p.word 1 6 p.left (store 0 5 ∷ []) p.out t)

older_lands : (o : Meaning) → LooseCall (Land Feeder 1) two_barred o → o ≡ record { landed = 5 ∷ 0 ∷ []; feeder = store 1 6 ∷ []; drawer = [] }
older_lands o (nothing i) = absurd (omega (arith, i.none_ready))
older_lands o (one r p) =
    let t : TakenOut 0 two_barred.feeder 0 5 (store 1 6 ∷ []) = record { older = []; younger = bar ∷ store 1 6 ∷ []; waits = refl; can = refl; number = refl; after = refl } in
    lands_so 0 5 (store 1 6 ∷ []) p.address p.word p.left o p.after (pick_is_fixed 0 two_barred.feeder p.address p.word 0 5 p.left (store 1 6 ∷ []) p.out t)

pub loose_picks : LoosePicks
loose_picks = record { younger = younger_lands; older = older_lands }
