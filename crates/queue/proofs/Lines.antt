-- One line: what becomes of its stores and bars when it is tidied, when an entry joins it, and when a store leaves it.
use Rattle.std.proofs.Common.{◌≡◌, ℕ, ◌+◌, Bool, true, false, cond, eqb, List, [], ◌∷◌, ◌++◌, refl, ap, ◌∙◌, inl, inr, append-nil, arith, eq-eqb, ne_eqb, eqb-true}
use Rattle.memory.specs.Meaning.{Entry, store, bar, tidy_from, tidy, words_to, Out, here, past}
use Rattle.queue.specs.Waiting.{In, HasBar, Has, BehindBar, Each, Is, tally}

-- a list with an element is not the empty one
pub cons_no_nil : {A : Type 0} {x : A} {l : List A} → x ∷ l ≡ [] → ⊥
cons_no_nil h = let k : ◌≡◌ {A = ℕ} 0 1 = cc in omega arith

-- the words

pub words_append : (a : ℕ) (l k : List Entry) → words_to a (l ++ k) ≡ words_to a l ++ words_to a k
words_append a [] k = refl
words_append a (bar ∷ l) k = words_append a l k
words_append a (store b v ∷ l) k = go (eqb b a) (words_append a l k)
  where
    go : (t : Bool) → words_to a (l ++ k) ≡ words_to a l ++ words_to a k → cond t (v ∷ words_to a (l ++ k)) (words_to a (l ++ k)) ≡ cond t (v ∷ words_to a l) (words_to a l) ++ words_to a k
    go true e = ap {B = List ℕ} (λ r. v ∷ r) e
    go false e = e

pub words_same : (a w : ℕ) → words_to a (store a w ∷ []) ≡ w ∷ []
words_same a w = rw (eq-eqb a a refl)

pub words_other : (a b w : ℕ) → (b ≡ a → ⊥) → words_to a (store b w ∷ []) ≡ []
words_other a b w ne = rw (ne_eqb b a ne)

pub words_tidy : (a : ℕ) (f : Bool) (l : List Entry) → words_to a (tidy_from f l) ≡ words_to a l
words_tidy a f [] = refl
words_tidy a true (bar ∷ l) = words_tidy a true l
words_tidy a false (bar ∷ l) = words_tidy a true l
words_tidy a true (store b v ∷ l) = ap (λ (r : List ℕ). cond (eqb b a) (v ∷ r) r) (words_tidy a false l)
words_tidy a false (store b v ∷ l) = ap (λ (r : List ℕ). cond (eqb b a) (v ∷ r) r) (words_tidy a false l)

pub words_out : {a w : ℕ} {l k : List Entry} → Out a w l k → words_to a l ≡ w ∷ words_to a k
words_out {a} here = rw (eq-eqb a a refl)
words_out {a} (past {b = b} ne o) = rw (ne_eqb b a ne) (words_out o)

pub words_out_other : {a w : ℕ} {l k : List Entry} (c : ℕ) → (a ≡ c → ⊥) → Out a w l k → words_to c l ≡ words_to c k
words_out_other {a} c ne here = rw (ne_eqb a c ne)
words_out_other c ne (past {b = b} {v = v} _ o) = ap (λ (r : List ℕ). cond (eqb b c) (v ∷ r) r) (words_out_other c ne o)

pub words_pushed : (a w : ℕ) (l : List Entry) → words_to a (tidy (l ++ store a w ∷ [])) ≡ words_to a l ++ (w ∷ [])
words_pushed a w l = words_tidy a true (l ++ store a w ∷ []) ∙ words_append a l (store a w ∷ []) ∙ ap (λ (r : List ℕ). words_to a l ++ r) (words_same a w)

pub words_pushed_other : (c a w : ℕ) (l : List Entry) → (a ≡ c → ⊥) → words_to c (tidy (l ++ store a w ∷ [])) ≡ words_to c l
words_pushed_other c a w l ne = words_tidy c true (l ++ store a w ∷ []) ∙ words_append c l (store a w ∷ []) ∙ ap (λ (r : List ℕ). words_to c l ++ r) (words_other c a w ne) ∙ append-nil (words_to c l)

pub words_barred : (a : ℕ) (l : List Entry) → words_to a (tidy (l ++ bar ∷ [])) ≡ words_to a l
words_barred a l = words_tidy a true (l ++ bar ∷ []) ∙ words_append a l (bar ∷ []) ∙ append-nil (words_to a l)

-- a store in the line, and a word among those to its address

pub in_from_has : (a v : ℕ) (l : List Entry) → Has a v l → In v (words_to a l)
in_from_has a v [] h = h
in_from_has a v (bar ∷ l) h = in_from_has a v l h
in_from_has a v (store b w ∷ l) (inl e) = rw (eq-eqb b a e.0) (inl e.1)
in_from_has a v (store b w ∷ l) (inr h) = go (eqb b a) (in_from_has a v l h)
  where
    go : (t : Bool) → In v (words_to a l) → In v (cond t (w ∷ words_to a l) (words_to a l))
    go true i = inr i
    go false i = i

pub has_from_in : (a v : ℕ) (l : List Entry) → In v (words_to a l) → Has a v l
has_from_in a v [] h = h
has_from_in a v (bar ∷ l) h = has_from_in a v l h
has_from_in a v (store b w ∷ l) h = go (eqb b a) refl (has_from_in a v l) h
  where
    go : (t : Bool) → eqb b a ≡ t → (In v (words_to a l) → Has a v l) → In v (cond t (w ∷ words_to a l) (words_to a l)) → Has a v (store b w ∷ l)
    go true e f (inl p) = inl (eqb-true b a e, p)
    go true e f (inr i) = inr (f i)
    go false e f i = inr (f i)

-- what a store behind a bar is

pub has_from_behind : (b u : ℕ) (l : List Entry) → BehindBar b u l → Has b u l
has_from_behind b u [] h = h
has_from_behind b u (bar ∷ l) h = h
has_from_behind b u (store a w ∷ l) h = inr (has_from_behind b u l h)

-- while a store waits that holds back another, the other stands behind a bar
pub held : (a v b u : ℕ) (l : List Entry) → Each (Is a v) (BehindBar b u) l → Has a v l → BehindBar b u l
held a v b u [] e h = h
held a v b u (bar ∷ l) e h = has_from_behind b u l (held a v b u l e h)
held a v b u (store c w ∷ l) e (inl p) = e.0 p
held a v b u (store c w ∷ l) e (inr h) = held a v b u l e.1 h

-- what lands leaves behind what stands behind a bar
pub behind_out : {a w : ℕ} {l k : List Entry} (b u : ℕ) → Out a w l k → BehindBar b u l → BehindBar b u k
behind_out b u here h = h
behind_out b u (past _ o) h = behind_out b u o h

pub hasbar_out : {a w : ℕ} {l k : List Entry} → Out a w l k → HasBar l → HasBar k
hasbar_out here h = h
hasbar_out (past _ o) h = hasbar_out o h

pub each_out : {a w : ℕ} {l k : List Entry} (P : ℕ → ℕ → Type 0) (B : List Entry → Type 0) → ((x y : List Entry) → Out a w x y → B x → B y) → Out a w l k → Each P B l → Each P B k
each_out P B step here e = e.1
each_out P B step (past {l = x} {k = y} _ o) e = (λ p. step x y o (e.0 p), each_out P B step o e.1)

-- tidying

pub has_tidy : (b u : ℕ) (f : Bool) (l : List Entry) → Has b u l → Has b u (tidy_from f l)
has_tidy b u f [] h = h
has_tidy b u true (bar ∷ l) h = has_tidy b u true l h
has_tidy b u false (bar ∷ l) h = has_tidy b u true l h
has_tidy b u true (store a w ∷ l) (inl p) = inl p
has_tidy b u true (store a w ∷ l) (inr h) = inr (has_tidy b u false l h)
has_tidy b u false (store a w ∷ l) (inl p) = inl p
has_tidy b u false (store a w ∷ l) (inr h) = inr (has_tidy b u false l h)

pub behind_tidy : (b u : ℕ) (l : List Entry) → BehindBar b u l → BehindBar b u (tidy_from false l)
behind_tidy b u [] h = h
behind_tidy b u (bar ∷ l) h = has_tidy b u true l h
behind_tidy b u (store a w ∷ l) h = behind_tidy b u l h

pub hasbar_tidy : (l : List Entry) → HasBar l → HasBar (tidy_from false l)
hasbar_tidy [] h = h
hasbar_tidy (bar ∷ l) h = h
hasbar_tidy (store a w ∷ l) h = hasbar_tidy l h

pub each_tidy : (P : ℕ → ℕ → Type 0) (B : List Entry → Type 0) → ((x : List Entry) → B x → B (tidy_from false x)) → (f : Bool) (l : List Entry) → Each P B l → Each P B (tidy_from f l)
each_tidy P B step f [] e = e
each_tidy P B step true (bar ∷ l) e = each_tidy P B step true l e
each_tidy P B step false (bar ∷ l) e = each_tidy P B step true l e
each_tidy P B step true (store a w ∷ l) e = (λ p. step l (e.0 p), each_tidy P B step false l e.1)
each_tidy P B step false (store a w ∷ l) e = (λ p. step l (e.0 p), each_tidy P B step false l e.1)

-- what joins the end

pub has_append : (b u : ℕ) (l k : List Entry) → Has b u l → Has b u (l ++ k)
has_append b u [] k h = absurd h
has_append b u (bar ∷ l) k h = has_append b u l k h
has_append b u (store a w ∷ l) k (inl p) = inl p
has_append b u (store a w ∷ l) k (inr h) = inr (has_append b u l k h)

pub has_append_right : (b u : ℕ) (l k : List Entry) → Has b u k → Has b u (l ++ k)
has_append_right b u [] k h = h
has_append_right b u (bar ∷ l) k h = has_append_right b u l k h
has_append_right b u (store a w ∷ l) k h = inr (has_append_right b u l k h)

pub behind_append : (b u : ℕ) (l k : List Entry) → BehindBar b u l → BehindBar b u (l ++ k)
behind_append b u [] k h = absurd h
behind_append b u (bar ∷ l) k h = has_append b u l k h
behind_append b u (store a w ∷ l) k h = behind_append b u l k h

pub hasbar_append : (l k : List Entry) → HasBar l → HasBar (l ++ k)
hasbar_append [] k h = absurd h
hasbar_append (bar ∷ l) k h = h
hasbar_append (store a w ∷ l) k h = hasbar_append l k h

pub hasbar_pushed : (l : List Entry) → HasBar (l ++ bar ∷ [])
hasbar_pushed [] = tt
hasbar_pushed (bar ∷ l) = tt
hasbar_pushed (store a w ∷ l) = hasbar_pushed l

pub behind_pushed : (a w : ℕ) (l : List Entry) → HasBar l → BehindBar a w (l ++ store a w ∷ [])
behind_pushed a w [] h = absurd h
behind_pushed a w (bar ∷ l) h = has_append_right a w l (store a w ∷ []) (inl (refl, refl))
behind_pushed a w (store b v ∷ l) h = behind_pushed a w l h

-- from Each P B l to Each Q C (l ++ k)
pub each_append : (P Q : ℕ → ℕ → Type 0) (B C : List Entry → Type 0) (k : List Entry) → ((c x : ℕ) → Q c x → P c x) → ((x : List Entry) → B x → C (x ++ k)) → Each Q C k → (l : List Entry) → Each P B l → Each Q C (l ++ k)
each_append P Q B C k sub step last [] e = last
each_append P Q B C k sub step last (bar ∷ l) e = each_append P Q B C k sub step last l e
each_append P Q B C k sub step last (store a w ∷ l) e = (λ q. step l (e.0 (sub a w q)), each_append P Q B C k sub step last l e.1)

-- each line has this
pub each_any : (P : ℕ → ℕ → Type 0) (B : List Entry → Type 0) → ((x : List Entry) → B x) → (l : List Entry) → Each P B l
each_any P B all [] = tt
each_any P B all (bar ∷ l) = each_any P B all l
each_any P B all (store a w ∷ l) = (λ _. all l, each_any P B all l)

-- how many stores wait

pub tally_append : (p : ℕ → Bool) (l k : List Entry) → tally p (l ++ k) ≡ tally p l + tally p k
tally_append p [] k = omega arith
tally_append p (bar ∷ l) k = tally_append p l k
tally_append p (store a w ∷ l) k = go (p a) (tally_append p l k)
  where
    go : (t : Bool) → tally p (l ++ k) ≡ tally p l + tally p k → cond t (1 + tally p (l ++ k)) (tally p (l ++ k)) ≡ cond t (1 + tally p l) (tally p l) + tally p k
    go true e = omega arith
    go false e = e

pub tally_tidy : (p : ℕ → Bool) (f : Bool) (l : List Entry) → tally p (tidy_from f l) ≡ tally p l
tally_tidy p f [] = refl
tally_tidy p true (bar ∷ l) = tally_tidy p true l
tally_tidy p false (bar ∷ l) = tally_tidy p true l
tally_tidy p true (store a w ∷ l) = ap (λ (n : ℕ). cond (p a) (1 + n) n) (tally_tidy p false l)
tally_tidy p false (store a w ∷ l) = ap (λ (n : ℕ). cond (p a) (1 + n) n) (tally_tidy p false l)

pub tally_out : {a w : ℕ} {l k : List Entry} (p : ℕ → Bool) → Out a w l k → tally p l ≡ cond (p a) (1 + tally p k) (tally p k)
tally_out p here = refl
tally_out {a} p (past {b = b} {l = l} {k = k} _ o) = go (p a) (p b) (tally_out p o)
  where
    go : (t r : Bool) → tally p l ≡ cond t (1 + tally p k) (tally p k) → cond r (1 + tally p l) (tally p l) ≡ cond t (1 + cond r (1 + tally p k) (tally p k)) (cond r (1 + tally p k) (tally p k))
    go true true e = omega arith
    go true false e = e
    go false true e = omega arith
    go false false e = e

pub tally_pushed : (p : ℕ → Bool) (a w : ℕ) (l : List Entry) → tally p (tidy (l ++ store a w ∷ [])) ≡ cond (p a) (1 + tally p l) (tally p l)
tally_pushed p a w l = tally_tidy p true (l ++ store a w ∷ []) ∙ tally_append p l (store a w ∷ []) ∙ go (p a)
  where
    go : (t : Bool) → tally p l + cond t 1 0 ≡ cond t (1 + tally p l) (tally p l)
    go true = omega arith
    go false = omega arith

pub tally_barred : (p : ℕ → Bool) (l : List Entry) → tally p (tidy (l ++ bar ∷ [])) ≡ tally p l
tally_barred p l = let e = tally_tidy p true (l ++ bar ∷ []) in let f = tally_append p l (bar ∷ []) in omega arith
