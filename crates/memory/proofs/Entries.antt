-- What is seen and counted among the entries of a store buffer.
use Rattle.std.proofs.Common.{◌≡◌, ℕ, ◌+◌, ◌<◌, ◌≤◌, Bool, true, false, cond, eqb, ltb, List, [], ◌∷◌, ◌++◌, length, get_or, drop, count_by, Some, None, Option, unwrap_or, MatchOption, sym, refl, ap, ◌∙◌, subst, ne_eqb, one-add, arith, ltb-false, eqb-true}
use borrow.Author.Tests.{eqb-false}
use Rattle.std.specs.List.{filter_map, cons_option, last_or as last_some, position, position_from}
use Rattle.std.proofs.lemmas.List.{drop_more, drop_all}
use Rattle.std.proofs.lemmas.List.Recursion.{is_count_by}
use Rattle.std.proofs.lemmas.Iterator.Adapters.{position_from-zero}
use Rattle.memory.specs.declared.entry.Entry.{Entry as Kept}
use Rattle.memory.specs.Meaning.{Entry, store, bar, words_to, last_or, stores}
use Rattle.memory.specs.Entries.{own, newer, newest_from, newest, is_store, word_to, through}

-- looking

-- what stands where there is no entry
abbrev pub blank : Kept
blank = Kept.Store 0 0

pub newest_more : (l : List Kept) (i a : ℕ) (o p : Option ℕ) (q : Kept) → i < length l → get_or l i blank ≡ q → p ≡ newer a q o → newest_from a o (drop i l) ≡ newest a l → newest_from a p (drop (i + 1) l) ≡ newest a l
newest_more l i a o p q h e f g =
    ap (λ (z : Option ℕ). newest_from a z (drop (i + 1) l)) (f ∙ ap (λ (z : Kept). newer a z o) (sym e))
    ∙ (ap (newest_from a o) (sym (drop_more l i blank h)) ∙ g)

pub newest_all : (l : List Kept) (i a : ℕ) (o : Option ℕ) → length l ≤ i → newest_from a o (drop i l) ≡ newest a l → o ≡ newest a l
newest_all l i a o h g = ap (newest_from a o) (sym (drop_all i l h)) ∙ g

newest_last : (a : ℕ) (o : Option ℕ) (l : List Kept) → last_some o (filter_map (word_to a) l) ≡ newest_from a o l
newest_last a o [] = refl
newest_last a o (Kept.Bar ∷ l) = newest_last a o l
newest_last a o (Kept.Store b w ∷ l) = go (eqb b a) (λ p. newest_last a p l)
  where
    go : (t : Bool) → ((p : Option ℕ) → last_some p (filter_map (word_to a) l) ≡ newest_from a p l) → last_some o (cons_option (cond t (Some w) None) (filter_map (word_to a) l)) ≡ newest_from a (cond t (Some w) o) l
    go true r = r (Some w)
    go false r = r o

pub newest_found : (a : ℕ) (l : List Kept) → last_some None (filter_map (word_to a) l) ≡ newest a l
newest_found a l = newest_last a None l

-- what the entries add to a line is what is found among them
seen_from : (n a d : ℕ) (o : Option ℕ) (l : List Kept) → a < n → last_or (words_to a (own n l)) (unwrap_or o d) ≡ unwrap_or (newest_from a o l) d
seen_from n a d o [] h = refl
seen_from n a d o (Kept.Bar ∷ l) h = seen_from n a d o l h
seen_from n a d o (Kept.Store b w ∷ l) h = go (λ p. seen_from n a d p l h) (eqb b a) refl (ltb b n) refl
  where
    go : ((p : Option ℕ) → last_or (words_to a (own n l)) (unwrap_or p d) ≡ unwrap_or (newest_from a p l) d) → (t : Bool) → eqb b a ≡ t → (u : Bool) → ltb b n ≡ u → last_or (words_to a (cond (ltb b n) (store b w ∷ own n l) (own n l))) (unwrap_or o d) ≡ unwrap_or (newest_from a (cond (eqb b a) (Some w) o) l) d
    go r true e true f = rw (f, e) (r (Some w))
    go r true e false f = absurd (omega (arith, eqb-true b a e, ltb-false b n f, h))
    go r false e true f = rw (f, e) (r o)
    go r false e false f = rw (f, e) (r o)

pub own_seen : (n a d : ℕ) (l : List Kept) → a < n → last_or (words_to a (own n l)) d ≡ unwrap_or (newest a l) d
own_seen n a d l h = seen_from n a d None l h

-- counting

pub own-++ : (n : ℕ) (l k : List Kept) → own n (l ++ k) ≡ own n l ++ own n k
own-++ n [] k = refl
own-++ n (Kept.Bar ∷ l) k = ap (λ (z : List Entry). bar ∷ z) (own-++ n l k)
own-++ n (Kept.Store a w ∷ l) k = elim (ltb a n) as (λ b. cond b (store a w ∷ own n (l ++ k)) (own n (l ++ k)) ≡ cond b (store a w ∷ own n l) (own n l) ++ own n k) [ true ↦ ap (λ (z : List Entry). store a w ∷ z) (own-++ n l k) | false ↦ own-++ n l k ]

own_count : (n : ℕ) (q : Kept) (l : List Kept) → stores (own n (q ∷ l)) ≡ cond (is_store n q) (1 + stores (own n l)) (stores (own n l))
own_count n Kept.Bar l = refl
own_count n (Kept.Store a w) l = elim (ltb a n) as (λ b. stores (cond b (store a w ∷ own n l) (own n l)) ≡ cond b (1 + stores (own n l)) (stores (own n l))) [ true ↦ refl | false ↦ refl ]

pub count_own : (n : ℕ) (l : List Kept) → count_by (is_store n) l ≡ stores (own n l)
count_own n l = sym (is_count_by (λ k. stores (own n k)) (is_store n) refl (own_count n) l)

-- the first store

first_from : (n i : ℕ) (l : List Kept) → MatchOption (position_from (is_store n) i l) (through n l ≡ 0) (λ j. (0 < through n l) × (through n l + i ≡ j + 1))
first_from n i [] = refl
first_from n i (q ∷ l) = go (is_store n q) (position_from (is_store n) (i + 1) l) (first_from n (i + 1) l)
  where
    go : (b : Bool) (o : Option ℕ) → MatchOption o (through n l ≡ 0) (λ j. (0 < through n l) × (through n l + (i + 1) ≡ j + 1)) → MatchOption (cond b (Some i) o) (cond b 1 (cond (eqb (through n l) 0) 0 (1 + through n l)) ≡ 0) (λ j. (0 < cond b 1 (cond (eqb (through n l) 0) 0 (1 + through n l))) × (cond b 1 (cond (eqb (through n l) 0) 0 (1 + through n l)) + i ≡ j + 1))
    go true o h = (omega arith, omega arith)
    go false None h = ap (λ t. cond (eqb t 0) 0 (1 + t)) h
    go false (Some j) h = let e : cond (eqb (through n l) 0) 0 (1 + through n l) ≡ 1 + through n l = ap (λ b. cond b 0 (1 + through n l)) (ne_eqb (through n l) 0 (λ z. omega (arith, z, h.0))) in (omega (arith, e), omega (arith, e, h.1))

first_through : (n : ℕ) (l : List Kept) (o : Option ℕ) → position (is_store n) l ≡ o → MatchOption o (through n l ≡ 0) (λ i. (0 < through n l) × (through n l + 0 ≡ i + 1))
first_through n l o e = subst (λ p. MatchOption p (through n l ≡ 0) (λ i. (0 < through n l) × (through n l + 0 ≡ i + 1))) (sym (position_from-zero (is_store n) l) ∙ e) (first_from n 0 l)

pub none_first : (n : ℕ) (l : List Kept) → position (is_store n) l ≡ None → 0 ≡ through n l
none_first n l e = sym (first_through n l None e)

pub some_first : (n : ℕ) (l : List Kept) (i : ℕ) → position (is_store n) l ≡ Some i → i + 1 ≡ through n l
some_first n l i e = let h = first_through n l (Some i) e in omega (arith, h.1)

pub through_none : (n : ℕ) (l : List Kept) → through n l ≡ 0 → stores (own n l) ≡ 0
through_none n [] e = refl
through_none n (q ∷ l) e = go (through_none n l) (is_store n q) refl (eqb (through n l) 0) refl
  where
    go : (through n l ≡ 0 → stores (own n l) ≡ 0) → (b : Bool) → is_store n q ≡ b → (t : Bool) → eqb (through n l) 0 ≡ t → stores (own n (q ∷ l)) ≡ 0
    go r true f t g = absurd (let z : ◌≡◌ {A = ℕ} 1 0 = sym (rw f) ∙ e in omega arith)
    go r false f true g = own_count n q l ∙ (ap (λ (b : Bool). cond b (1 + stores (own n l)) (stores (own n l))) f ∙ r (eqb-true (through n l) 0 g))
    go r false f false g = absurd (let z : 1 + through n l ≡ 0 = sym (rw (f, g)) ∙ e in omega arith)

-- the entries through the first store have one store among them
pub through_one : (n : ℕ) (l : List Kept) → 0 < through n l → stores (own n l) ≡ 1 + stores (own n (drop (through n l) l))
through_one n [] h = absurd (omega arith)
through_one n (q ∷ l) h = go (through_one n l) (is_store n q) refl (eqb (through n l) 0) refl
  where
    go : (0 < through n l → stores (own n l) ≡ 1 + stores (own n (drop (through n l) l))) → (b : Bool) → is_store n q ≡ b → (t : Bool) → eqb (through n l) 0 ≡ t → stores (own n (q ∷ l)) ≡ 1 + stores (own n (drop (through n (q ∷ l)) (q ∷ l)))
    go r true f t g = rw f (own_count n q l ∙ ap (λ (b : Bool). cond b (1 + stores (own n l)) (stores (own n l))) f)
    go r false f true g = absurd (let z : through n (q ∷ l) ≡ 0 = rw (f, g) in omega arith)
    go r false f false g = rw (f, g, one-add (through n l)) (own_count n q l ∙ (ap (λ (b : Bool). cond b (1 + stores (own n l)) (stores (own n l))) f ∙ (r (let k = eqb-false (through n l) 0 g in omega arith))))
