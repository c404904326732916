-- What storing, looking and taking out do to the line that a table of waiting stores stands for.
use Rattle.std.proofs.Common.{◌≡◌, ℕ, zero, suc, ◌+◌, ◌-◌, ◌<◌, ◌≤◌, Bool, true, false, cond, not, ◌||◌, eqb, List, [], ◌∷◌, ◌++◌, length, get_or, take, drop, set, reverse, filter, find, remove, count_by, slice_get, Option, Some, None, unwrap_or, MatchOption, sym, refl, ap, ◌∙◌, subst, append_assoc, add-zero, add_assoc, zero-add, one-add, add-one, arith, eq-eqb, length-drop}
use Rattle.std.proofs.lemmas.List.{append-nil, take_more, take_more_set, take-take, take_all, drop_all, drop-drop, drop-set-lt, get_or-drop, get_or_default, length-take, length-take-le, reverse-append}
use Rattle.std.proofs.lemmas.List.Edits.{remove-append_left}
use Rattle.std.proofs.lemmas.List.Folds.{find-append, list_any-append}
use Rattle.std.proofs.lemmas.List.Sums.{sum_by-cons}
use Rattle.std.proofs.Math.Seq.{split_at}
use Rattle.std.specs.List.{zip, list_any, range_with_len}
use Rattle.std.specs.Option.{option_map, option_or}
use Rattle.std.proofs.lemmas.Bool.{false≢true}
use Rattle.memory.specs.declared.line.Waiting.{Waiting}
use Rattle.memory.specs.Meaning.{Entry, store, bar, tidy, tidy_from, words_to, last_or, stores, Out, here, past}
use Rattle.memory.specs.Line.{fence, entries_of, line_of, older_than, holds_back, free, ready, blank, Numbered, TakenOut}
use Rattle.memory.proofs.Tidy.{idle, tidy_store, tidy-++, tidy_front, tidy_back, words-++, words_tidy, last-++, stores-++, stores_tidy}

abbrev pub stored : Waiting → Entry
stored v = store v.address v.word

-- taking a table of stores apart

pub entries_split : (p : List Waiting) (v : Waiting) (q : List Waiting) (f : Bool) → entries_of (p ++ (v ∷ q)) f ≡ entries_of p v.barred ++ (stored v ∷ entries_of q f)
entries_split [] v q f = refl
entries_split (u ∷ p) v q f = ap (λ (z : List Entry). fence u.barred ++ (stored u ∷ z)) (entries_split p v q f) ∙ sym (append_assoc (fence u.barred) (stored u ∷ entries_of p v.barred) (stored v ∷ entries_of q f))

entries-++ : (p q : List Waiting) (f : Bool) → entries_of (p ++ q) f ≡ entries_of p false ++ entries_of q f
entries-++ [] q f = refl
entries-++ (u ∷ p) q f = ap (λ (z : List Entry). fence u.barred ++ (stored u ∷ z)) (entries-++ p q f) ∙ sym (append_assoc (fence u.barred) (stored u ∷ entries_of p false) (entries_of q f))

entries_fenced : (p : List Waiting) (f : Bool) → entries_of p f ≡ entries_of p false ++ fence f
entries_fenced p f = ap (λ (z : List Waiting). entries_of z f) (sym (append-nil p)) ∙ entries-++ p [] f

pub line_split : (p : List Waiting) (v : Waiting) (q : List Waiting) (f : Bool) → line_of (p ++ (v ∷ q)) f ≡ line_of p v.barred ++ (stored v ∷ tidy_from false (entries_of q f))
line_split p v q f =
    ap tidy (entries_split p v q f)
    ∙ (tidy-++ true (entries_of p v.barred) (stored v ∷ entries_of q f)
    ∙ ap (λ (z : List Entry). line_of p v.barred ++ z) (tidy_store (idle true (entries_of p v.barred)) v.address v.word (entries_of q f)))

fence_tidy : (f : Bool) → tidy_from false (fence f) ≡ fence f
fence_tidy true = refl
fence_tidy false = refl

pub line_grows : (p : List Waiting) (v : Waiting) (f : Bool) → line_of (p ++ (v ∷ [])) f ≡ line_of p v.barred ++ (stored v ∷ fence f)
line_grows p v f = line_split p v [] f ∙ ap (λ (z : List Entry). line_of p v.barred ++ (stored v ∷ z)) (fence_tidy f)

older_grows : (l : List Waiting) (i : ℕ) → i < length l → older_than l (i + 1) ≡ older_than l i ++ (stored (get_or l i blank) ∷ fence (get_or l (i + 1) blank).barred)
older_grows l i h = ap (λ (z : List Waiting). line_of z (get_or l (i + 1) blank).barred) (take_more l i blank h) ∙ line_grows (take i l) (get_or l i blank) (get_or l (i + 1) blank).barred

pub older_none : (l : List Waiting) → older_than l 0 ≡ []
older_none l = elim (get_or l 0 blank).barred as (λ b. tidy (fence b) ≡ []) [ true ↦ refl | false ↦ refl ]

-- a store or a bar that joins

pub store_joins : (l : List Waiting) (f : Bool) (v : Waiting) → v.barred ≡ f → line_of (l ++ (v ∷ [])) false ≡ tidy (line_of l f ++ (stored v ∷ []))
store_joins l f v e = ap tidy (entries_split l v [] false) ∙ (ap (λ (b : Bool). tidy (entries_of l b ++ (stored v ∷ []))) e ∙ sym (tidy_front true (entries_of l f) (stored v ∷ [])))

two_bars : (b : Bool) → tidy_from b (bar ∷ bar ∷ []) ≡ tidy_from b (bar ∷ [])
two_bars true = refl
two_bars false = refl

pub bar_joins : (l : List Waiting) (f : Bool) → line_of l true ≡ tidy (line_of l f ++ (bar ∷ []))
bar_joins l true =
    ap tidy (entries_fenced l true)
    ∙ (tidy-++ true (entries_of l false) (bar ∷ []) ∙ (ap (λ (z : List Entry). tidy (entries_of l false) ++ z) (sym (two_bars (idle true (entries_of l false))))
    ∙ (sym (tidy-++ true (entries_of l false) (bar ∷ bar ∷ [])) ∙ (ap tidy (sym (append_assoc (entries_of l false) (bar ∷ []) (bar ∷ [])) ∙ ap (λ (z : List Entry). z ++ (bar ∷ [])) (sym (entries_fenced l true))) ∙ sym (tidy_front true (entries_of l true) (bar ∷ []))))))
bar_joins l false = ap tidy (entries_fenced l true) ∙ sym (tidy_front true (entries_of l false) (bar ∷ []))

-- how many stores there are

fence_none : (f : Bool) → stores (fence f) ≡ 0
fence_none true = refl
fence_none false = refl

entries_count : (l : List Waiting) (f : Bool) → stores (entries_of l f) ≡ length l
entries_count [] f = fence_none f
entries_count (v ∷ l) f = stores-++ (fence v.barred) (stored v ∷ entries_of l f) ∙ (ap (λ (n : ℕ). n + (1 + stores (entries_of l f))) (fence_none v.barred) ∙ (zero-add (1 + stores (entries_of l f)) ∙ (ap (λ (n : ℕ). 1 + n) (entries_count l f) ∙ one-add (length l))))

pub line_count : (l : List Waiting) (f : Bool) → stores (line_of l f) ≡ length l
line_count l f = stores_tidy true (entries_of l f) ∙ entries_count l f

-- looking

fence_words : (a : ℕ) (f : Bool) → words_to a (fence f) ≡ []
fence_words a true = refl
fence_words a false = refl

seen-++ : (a w : ℕ) (l k : List Entry) → last_or (words_to a (l ++ k)) w ≡ last_or (words_to a k) (last_or (words_to a l) w)
seen-++ a w l k = ap (λ (z : List ℕ). last_or z w) (words-++ a l k) ∙ last-++ (words_to a l) (words_to a k) w

-- the fence at the end shows no word
seen_fenced : (a w : ℕ) (l : List Waiting) (f : Bool) → last_or (words_to a (line_of l f)) w ≡ last_or (words_to a (entries_of l false)) w
seen_fenced a w l f = ap (λ (z : List ℕ). last_or z w) (words_tidy a true (entries_of l f) ∙ ap (words_to a) (entries_fenced l f)) ∙ (seen-++ a w (entries_of l false) (fence f) ∙ ap (λ (z : List ℕ). last_or z (last_or (words_to a (entries_of l false)) w)) (fence_words a f))

seen_one : (a w : ℕ) (v : Waiting) → last_or (words_to a (stored v ∷ [])) w ≡ cond (eqb v.address a) v.word w
seen_one a w v = elim (eqb v.address a) as (λ t. last_or (cond t (v.word ∷ []) []) w ≡ cond t v.word w) [ true ↦ refl | false ↦ refl ]

-- the youngest store to a
abbrev pub youngest_to : ℕ → List Waiting → Option Waiting
youngest_to a l = find (λ v. eqb v.address a) (reverse l)

youngest_word : (a w : ℕ) (l : List Waiting) → unwrap_or (option_map {U = ℕ} (λ v. v.word) (youngest_to a l)) w ≡ last_or (words_to a (entries_of l false)) w
youngest_word a w [] = refl
youngest_word a w (v ∷ l) =
    ap (λ z. unwrap_or (option_map {U = ℕ} (λ u. u.word) (find (λ u. eqb u.address a) z)) w) (reverse-append (v ∷ []) l)
    ∙ (ap (λ o. unwrap_or (option_map {U = ℕ} (λ u. u.word) o) w) (find-append (λ u. eqb u.address a) (reverse l) (v ∷ []))
    ∙ (go (youngest_to a l) (eqb v.address a)
    ∙ (ap (λ z. unwrap_or (option_map {U = ℕ} (λ u. u.word) (youngest_to a l)) z) (sym (seen_one a w v))
    ∙ (youngest_word a (last_or (words_to a (stored v ∷ [])) w) l
    ∙ (sym (seen-++ a w (stored v ∷ []) (entries_of l false))
    ∙ (ap (λ z. last_or (words_to a (stored v ∷ entries_of l false)) (last_or z w)) (sym (fence_words a v.barred)) ∙ sym (seen-++ a w (fence v.barred) (stored v ∷ entries_of l false))))))))
  where
    go : (o : Option Waiting) (t : Bool) → unwrap_or (option_map {U = ℕ} (λ u. u.word) (option_or o (cond t (Some v) None))) w ≡ unwrap_or (option_map {U = ℕ} (λ u. u.word) o) (cond t v.word w)
    go None true = refl
    go None false = refl
    go (Some u) t = refl

pub youngest_seen : (a : ℕ) (l : List Waiting) (f : Bool) (w : ℕ) → unwrap_or (option_map {U = ℕ} (λ v. v.word) (youngest_to a l)) w ≡ last_or (words_to a (line_of l f)) w
youngest_seen a l f w = youngest_word a w l ∙ sym (seen_fenced a w l f)

-- what can land

both : (t x : Bool) → cond t false x ≡ true → (t ≡ false) × (x ≡ true)
both true x e = absurd (false≢true e)
both false x e = (refl, e)

free-++ : (a : ℕ) (l k : List Entry) → free a (l ++ k) ≡ cond (free a l) (free a k) false
free-++ a [] k = refl
free-++ a (bar ∷ l) k = refl
free-++ a (store b v ∷ l) k = elim (eqb b a) as (λ t. cond t false (free a (l ++ k)) ≡ cond (cond t false (free a l)) (free a k) false) [ true ↦ refl | false ↦ free-++ a l k ]

fence_free : (a : ℕ) (f : Bool) → free a (fence f) ≡ cond f false true
fence_free a true = refl
fence_free a false = refl

pub free_more : (l : List Waiting) (i a : ℕ) → i < length l → free a (older_than l (i + 1)) ≡ cond (free a (older_than l i)) (cond (eqb (get_or l i blank).address a) false (cond (get_or l (i + 1) blank).barred false true)) false
free_more l i a h =
    ap (free a) (older_grows l i h) ∙ (free-++ a (older_than l i) (stored (get_or l i blank) ∷ fence (get_or l (i + 1) blank).barred)
    ∙ ap (λ (t : Bool). cond (free a (older_than l i)) (cond (eqb (get_or l i blank).address a) false t) false) (fence_free a (get_or l (i + 1) blank).barred))

no_way : (x : Bool) → cond x false false ≡ false
no_way true = refl
no_way false = refl

-- each of the first i stores with the one that follows it
abbrev pub followed : List Waiting → ℕ → List (Waiting × Waiting)
followed l i = zip (take i l) (drop 1 l)

zip_more : {A B : Type 0} (xs : List A) (ys : List B) (i : ℕ) (d : A) (e : B) → i < length xs → i < length ys → zip (take (suc i) xs) ys ≡ zip (take i xs) ys ++ ((get_or xs i d, get_or ys i e) ∷ [])
zip_more [] ys i d e h k = absurd (omega arith)
zip_more (x ∷ xs) [] i d e h k = absurd (omega arith)
zip_more (x ∷ xs) (y ∷ ys) zero d e h k = refl
zip_more (x ∷ xs) (y ∷ ys) (suc i) d e h k = ap (λ z. (x, y) ∷ z) (zip_more xs ys i d e (omega arith) (omega arith))

-- a store can land if none of the older ones holds it back
pub unheld : (l : List Waiting) (a i : ℕ) → i < length l → not (list_any (λ p. holds_back p.0 p.1 a) (followed l i)) ≡ free a (older_than l i)
unheld l a zero h = ap (free a) (sym (older_none l))
unheld l a (suc i) h =
    let v = get_or l i blank in let u = get_or l (i + 1) blank in let older = followed l i in
    let more : followed l (suc i) ≡ older ++ ((v, u) ∷ []) = zip_more l (drop 1 l) i blank blank (omega arith) (omega (arith, length-drop 1 l)) ∙ ap (λ z. older ++ ((v, z) ∷ [])) (get_or-drop 1 l i blank ∙ ap (λ n. get_or l n blank) (one-add i ∙ sym (add-one i))) in
    ap (λ z. not (list_any (λ p. holds_back p.0 p.1 a) z)) more
    ∙ (ap not (list_any-append (λ p. holds_back p.0 p.1 a) older ((v, u) ∷ []))
    ∙ (go (list_any (λ p. holds_back p.0 p.1 a) older) (eqb v.address a) u.barred
    ∙ (ap (λ z. cond z (cond (eqb v.address a) false (cond u.barred false true)) false) (unheld l a i (omega arith))
    ∙ (sym (free_more l i a (omega arith)) ∙ ap (λ n. free a (older_than l n)) (add-one i)))))
  where
    go : (x t b : Bool) → not (x || (cond t true b || false)) ≡ cond (not x) (cond t false (cond b false true)) false
    go true t b = refl
    go false true b = refl
    go false false true = refl
    go false false false = refl

ready-++ : (p l k : List Entry) → ready p (l ++ k) ≡ ready p l + ready (p ++ l) k
ready-++ p [] k = ap (λ (z : List Entry). ready z k) (sym (append-nil p)) ∙ sym (zero-add (ready (p ++ []) k))
ready-++ p (bar ∷ l) k = ready-++ (p ++ (bar ∷ [])) l k ∙ ap (λ (z : List Entry). ready (p ++ (bar ∷ [])) l + ready z k) (append_assoc p (bar ∷ []) l)
ready-++ p (store a w ∷ l) k = ap (λ (z : ℕ). cond (free a p) 1 0 + z) (ready-++ (p ++ (store a w ∷ [])) l k ∙ ap (λ (z : List Entry). ready (p ++ (store a w ∷ [])) l + ready z k) (append_assoc p (store a w ∷ []) l)) ∙ sym (add_assoc (cond (free a p) 1 0) (ready (p ++ (store a w ∷ [])) l) (ready (p ++ (store a w ∷ l)) k))

fence_ready : (p : List Entry) (f : Bool) → ready p (fence f) ≡ 0
fence_ready p true = refl
fence_ready p false = refl

ready_more : (l : List Waiting) (i : ℕ) (b : Bool) → i < length l → b ≡ free (get_or l i blank).address (older_than l i) → ready [] (older_than l (i + 1)) ≡ ready [] (older_than l i) + cond b 1 0
ready_more l i b h e =
    let v = get_or l i blank in let f = (get_or l (i + 1) blank).barred in
    ap (ready []) (older_grows l i h) ∙ (ready-++ [] (older_than l i) (stored v ∷ fence f)
    ∙ ap (λ (z : ℕ). ready [] (older_than l i) + z) (ap (λ (z : ℕ). cond (free v.address (older_than l i)) 1 0 + z) (fence_ready (older_than l i ++ (stored v ∷ [])) f) ∙ (add-zero (cond (free v.address (older_than l i)) 1 0) ∙ ap (λ (c : Bool). cond c 1 0) (sym e))))

-- store number i can land
abbrev pub lands : List Waiting → ℕ → Bool
lands l i = free (get_or l i blank).address (older_than l i)

-- the fence at the end holds no store
pub ready_all : (l : List Waiting) (f : Bool) (i : ℕ) → length l ≤ i → ready [] (older_than l i) ≡ ready [] (line_of l f)
ready_all l f i h = ap (λ (z : List Waiting). ready [] (line_of z (get_or l i blank).barred)) (take_all i l h) ∙ (ready_fenced (get_or l i blank).barred ∙ sym (ready_fenced f))
  where
    ready_idle : (b f : Bool) (p : List Entry) → ready p (tidy_from b (fence f)) ≡ 0
    ready_idle true true p = refl
    ready_idle true false p = refl
    ready_idle false true p = refl
    ready_idle false false p = refl

    ready_fenced : (g : Bool) → ready [] (line_of l g) ≡ ready [] (line_of l false)
    ready_fenced g =
        ap (λ (z : List Entry). ready [] (tidy z)) (entries_fenced l g) ∙ (ap (ready []) (tidy-++ true (entries_of l false) (fence g)) ∙ (ready-++ [] (line_of l false) (tidy_from (idle true (entries_of l false)) (fence g))
        ∙ (ap (λ (z : ℕ). ready [] (line_of l false) + z) (ready_idle (idle true (entries_of l false)) g (line_of l false)) ∙ add-zero (ready [] (line_of l false)))))

-- counting those that can land, and finding number k of them

count_from : (l : List Waiting) (i m : ℕ) → i + m ≡ length l → ready [] (older_than l i) + count_by (lands l) (range_with_len i m) ≡ ready [] (older_than l (length l))
count_from l i zero e = add-zero (ready [] (older_than l i)) ∙ ap (λ n. ready [] (older_than l n)) (sym (add-zero i) ∙ e)
count_from l i (suc m) e = omega (arith, sum_by-cons (λ j. cond (lands l j) 1 0) i (range_with_len (i + 1) m), ready_more l i (lands l i) (omega arith) refl, count_from l (i + 1) m (omega arith))

pub count_all : (l : List Waiting) (f : Bool) → count_by (lands l) (range_with_len 0 (length l)) ≡ ready [] (line_of l f)
count_all l f =
    let none : ready [] (older_than l 0) ≡ 0 = ap (ready []) (older_none l) in
    omega (arith, none, count_from l 0 (length l) (zero-add (length l)), ready_all l f (length l) (omega arith))

number_from : (l : List Waiting) (i m k : ℕ) → i + m ≡ length l → MatchOption (slice_get (filter (lands l) (range_with_len i m)) k) (ready [] (older_than l (length l)) ≤ ready [] (older_than l i) + k) (Numbered (ready [] (older_than l i) + k) l)
number_from l i zero k e = let last : ready [] (older_than l i) ≡ ready [] (older_than l (length l)) = ap (λ n. ready [] (older_than l n)) (sym (add-zero i) ∙ e) in omega (arith, last)
number_from l i (suc m) k e = go (λ j. number_from l (i + 1) m j (omega arith)) (lands l i) refl k
  where
    next : ready [] (older_than l (i + 1)) ≡ ready [] (older_than l i) + cond (lands l i) 1 0
    next = ready_more l i (lands l i) (omega arith) refl

    later : ((j : ℕ) → MatchOption (slice_get (filter (lands l) (range_with_len (i + 1) m)) j) (ready [] (older_than l (length l)) ≤ ready [] (older_than l (i + 1)) + j) (Numbered (ready [] (older_than l (i + 1)) + j) l)) → (j r : ℕ) → r ≡ ready [] (older_than l (i + 1)) + j → MatchOption (slice_get (filter (lands l) (range_with_len (i + 1) m)) j) (ready [] (older_than l (length l)) ≤ r) (Numbered r l)
    later rest j r h = subst (λ n. MatchOption (slice_get (filter (lands l) (range_with_len (i + 1) m)) j) (ready [] (older_than l (length l)) ≤ n) (Numbered n l)) (sym h) (rest j)

    go : ((j : ℕ) → MatchOption (slice_get (filter (lands l) (range_with_len (i + 1) m)) j) (ready [] (older_than l (length l)) ≤ ready [] (older_than l (i + 1)) + j) (Numbered (ready [] (older_than l (i + 1)) + j) l)) → (b : Bool) → lands l i ≡ b → (j : ℕ) → MatchOption (slice_get (filter (lands l) (range_with_len i (suc m))) j) (ready [] (older_than l (length l)) ≤ ready [] (older_than l i) + j) (Numbered (ready [] (older_than l i) + j) l)
    go rest true t zero = rw t (record { within = omega arith; can = t; number = sym (add-zero (ready [] (older_than l i))) })
    go rest true t (suc j) = rw t (later rest j (ready [] (older_than l i) + suc j) (let n : ready [] (older_than l (i + 1)) ≡ ready [] (older_than l i) + 1 = next ∙ ap (λ b. ready [] (older_than l i) + cond b 1 0) t in omega (arith, n)))
    go rest false t j = rw t (later rest j (ready [] (older_than l i) + j) (let n : ready [] (older_than l (i + 1)) ≡ ready [] (older_than l i) + 0 = next ∙ ap (λ b. ready [] (older_than l i) + cond b 1 0) t in omega (arith, n)))

numbered : (l : List Waiting) (k : ℕ) → MatchOption (slice_get (filter (lands l) (range_with_len 0 (length l))) k) (ready [] (line_of l true) ≤ k) (Numbered k l)
numbered l k =
    let none : ready [] (older_than l 0) ≡ 0 = ap (ready []) (older_none l) in
    let all : ready [] (older_than l (length l)) ≡ ready [] (line_of l true) = ready_all l true (length l) (omega arith) in
    let from : ready [] (older_than l 0) + k ≡ k = omega (arith, none) in
    let o = slice_get (filter (lands l) (range_with_len 0 (length l))) k in
    subst (λ n. MatchOption o (n ≤ k) (Numbered k l)) all
    (subst (λ n. MatchOption o (ready [] (older_than l (length l)) ≤ n) (Numbered n l)) from (number_from l 0 (length l) k (zero-add (length l))))

pub numbered_at : (l : List Waiting) (k : ℕ) (r : Option ℕ) → option_map {U = ℕ} (λ i. i) r ≡ slice_get (filter (lands l) (range_with_len 0 (length l))) k → MatchOption r (ready [] (line_of l true) ≤ k) (Numbered k l)
numbered_at l k None e = subst (λ o. MatchOption o (ready [] (line_of l true) ≤ k) (Numbered k l)) (sym e) (numbered l k)
numbered_at l k (Some i) e = subst (λ o. MatchOption o (ready [] (line_of l true) ≤ k) (Numbered k l)) (sym e) (numbered l k)

-- taking out a store that can land

pub out_free : (a w : ℕ) (older younger : List Entry) → free a older ≡ true → Out a w (older ++ (store a w ∷ younger)) (older ++ younger)
out_free a w [] younger h = here
out_free a w (bar ∷ l) younger h = absurd (false≢true h)
out_free a w (store b v ∷ l) younger h = let p = both (eqb b a) (free a l) h in past (λ e. false≢true (sym p.0 ∙ eq-eqb b a e)) (out_free a w l younger p.1)

-- behind a store a bar is never idle
ends_in_store : (b : Bool) (v : Waiting) (p : List Waiting) → idle b (entries_of (v ∷ p) false) ≡ false
ends_in_store b v p = elim v.barred as (λ c. idle b (fence c ++ (stored v ∷ entries_of p false)) ≡ false) [ true ↦ ends p | false ↦ ends p ]
  where
    ends : (q : List Waiting) → idle false (entries_of q false) ≡ false
    ends [] = refl
    ends (u ∷ q) = elim u.barred as (λ c. idle false (fence c ++ (stored u ∷ entries_of q false)) ≡ false) [ true ↦ ends q | false ↦ ends q ]

-- no bar stands between what can land and what is left behind it
unbarred : (a : ℕ) (p : List Waiting) (b : Bool) (k : List Entry) → free a (line_of p b) ≡ true → tidy (entries_of p b ++ k) ≡ tidy (entries_of p false ++ k)
unbarred a p false k h = refl
unbarred a [] true k h = refl
unbarred a (v ∷ p) true k h =
    let E = entries_of (v ∷ p) false in
    let bars : line_of (v ∷ p) true ≡ tidy E ++ (bar ∷ []) = ap tidy (entries_fenced (v ∷ p) true) ∙ (tidy-++ true E (bar ∷ []) ∙ ap (λ (c : Bool). tidy E ++ tidy_from c (bar ∷ [])) (ends_in_store true v p)) in
    absurd (false≢true (sym (ap (free a) bars ∙ (free-++ a (tidy E) (bar ∷ []) ∙ no_way (free a (tidy E)))) ∙ h))

pub line_without : (a : ℕ) (p q : List Waiting) (b f : Bool) → free a (line_of p b) ≡ true → line_of (p ++ q) f ≡ tidy (line_of p b ++ tidy_from false (entries_of q f))
line_without a p q b f h =
    ap tidy (entries-++ p q f) ∙ (sym (unbarred a p b (entries_of q f) h) ∙ (sym (tidy_back true (entries_of p b) (entries_of q f)) ∙ sym (tidy_front true (entries_of p b) (tidy_from false (entries_of q f)))))

pub taken_out : (l : List Waiting) (f : Bool) (v : Waiting) (i k : ℕ) → Numbered k l i → v ≡ get_or l i v → TakenOut k (line_of l f) v.address v.word (line_of (remove l i) f)
taken_out l f v i k n x =
    let e : v ≡ get_or l i blank = x ∙ get_or_default l i v blank n.within in
    let older_is : line_of (take i l) v.barred ≡ older_than l i = ap (λ (u : Waiting). line_of (take i l) u.barred) e in
    let can : free v.address (line_of (take i l) v.barred) ≡ true = ap (free v.address) older_is ∙ (ap (λ (u : Waiting). free u.address (older_than l i)) e ∙ n.can) in
    record {
      older = line_of (take i l) v.barred;
      younger = tidy_from false (entries_of (drop (suc i) l) f);
      waits = ap (λ (z : List Waiting). line_of z f) (split_at l i v n.within ∙ ap (λ u. take i l ++ (u ∷ drop (suc i) l)) (sym x)) ∙ line_split (take i l) v (drop (suc i) l) f;
      can = can;
      number = ap (ready []) older_is ∙ n.number;
      after = line_without v.address (take i l) (drop (suc i) l) v.barred f can;
    }

-- closing the gap that it leaves

-- the gap at `at` is closed as far as place i: what stood behind it has moved up, and from i on all is as it was
pub record ClosedTo (at i : ℕ) (l m : List Waiting) : Type 0 where
  pub moved : take (i - 1) m ≡ remove (take i l) at
  pub rest : drop i m ≡ drop i l

pub closed_start : (at : ℕ) (l : List Waiting) → ClosedTo at (at + 1) l l
closed_start at l =
    let up = take (at + 1) l in
    let none : drop (suc at) up ≡ [] = drop_all (suc at) up (omega (arith, length-take (at + 1) l)) in
    record {
      moved = ap (λ n. take n l) (omega arith) ∙ (sym (take-take at (at + 1) l (omega arith)) ∙ (sym (append-nil (take at up)) ∙ ap (λ z. take at up ++ z) (sym none)));
      rest = refl;
    }

pub closed_more : (at i : ℕ) (l m : List Waiting) (v : Waiting) → at < i → i < length l → length m ≡ length l → v ≡ get_or m i v → ClosedTo at i l m → ClosedTo at (i + 1) l (set m (i - 1) v)
closed_more at i l m v h k size e c =
    let same : get_or l i v ≡ v = get_or_first i l v ∙ (ap (λ z. get_or z 0 v) (sym c.rest) ∙ (sym (get_or_first i m v) ∙ sym e)) in
    let more : take (i + 1) l ≡ take i l ++ (v ∷ []) = take_more l i v k ∙ ap (λ u. take i l ++ (u ∷ [])) same in
    record {
      moved = ap (λ n. take n (set m (i - 1) v)) (omega arith) ∙ (take_more_set m (i - 1) v (omega arith) ∙ (ap (λ z. z ++ (v ∷ [])) c.moved ∙ (sym (remove-append_left (take i l) (v ∷ []) at (omega (arith, length-take-le i l (omega arith)))) ∙ ap (λ z. remove z at) (sym more))));
      rest = drop-set-lt (i + 1) m (i - 1) v (omega arith) ∙ (sym (drop-drop 1 i m) ∙ (ap (drop 1) c.rest ∙ drop-drop 1 i l));
    }
  where
    get_or_first : (i : ℕ) (l : List Waiting) (d : Waiting) → get_or l i d ≡ get_or (drop i l) 0 d
    get_or_first i l d = sym (get_or-drop i l 0 d ∙ ap (λ n. get_or l n d) (add-zero i))
