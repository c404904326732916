-- Lines without the bars that hold nothing back.
use Rattle.std.proofs.Common.{◌≡◌, ℕ, ◌+◌, Bool, true, false, cond, eqb, List, [], ◌∷◌, ◌++◌, sym, refl, ap, ◌∙◌, add_assoc, zero-add}
use Rattle.memory.specs.Meaning.{Entry, store, bar, tidy_from, words_to, last_or, stores}

-- whether a bar at the end of l would hold nothing back
abbrev pub idle : Bool → List Entry → Bool
idle b [] = b
idle b (bar ∷ l) = idle true l
idle b (store a w ∷ l) = idle false l

pub tidy_store : (b : Bool) (a w : ℕ) (l : List Entry) → tidy_from b (store a w ∷ l) ≡ store a w ∷ tidy_from false l
tidy_store true a w l = refl
tidy_store false a w l = refl

pub tidy-++ : (b : Bool) (l k : List Entry) → tidy_from b (l ++ k) ≡ tidy_from b l ++ tidy_from (idle b l) k
tidy-++ b [] k = refl
tidy-++ true (bar ∷ l) k = tidy-++ true l k
tidy-++ false (bar ∷ l) k = ap (λ (z : List Entry). bar ∷ z) (tidy-++ true l k)
tidy-++ true (store a w ∷ l) k = ap (λ (z : List Entry). store a w ∷ z) (tidy-++ false l k)
tidy-++ false (store a w ∷ l) k = ap (λ (z : List Entry). store a w ∷ z) (tidy-++ false l k)

pub idle_tidy : (b : Bool) (l : List Entry) → idle b (tidy_from b l) ≡ idle b l
idle_tidy b [] = refl
idle_tidy true (bar ∷ l) = idle_tidy true l
idle_tidy false (bar ∷ l) = idle_tidy true l
idle_tidy true (store a w ∷ l) = idle_tidy false l
idle_tidy false (store a w ∷ l) = idle_tidy false l

-- a line that is tidy anyhow stays as it is
pub tidy_again : (b : Bool) (l : List Entry) → tidy_from b (tidy_from b l) ≡ tidy_from b l
tidy_again b [] = refl
tidy_again true (bar ∷ l) = tidy_again true l
tidy_again false (bar ∷ l) = ap (λ (z : List Entry). bar ∷ z) (tidy_again true l)
tidy_again true (store a w ∷ l) = ap (λ (z : List Entry). store a w ∷ z) (tidy_again false l)
tidy_again false (store a w ∷ l) = ap (λ (z : List Entry). store a w ∷ z) (tidy_again false l)

pub tidy_more : (b : Bool) (l : List Entry) → tidy_from b (tidy_from false l) ≡ tidy_from b l
tidy_more b [] = refl
tidy_more true (bar ∷ l) = tidy_again true l
tidy_more false (bar ∷ l) = ap (λ (z : List Entry). bar ∷ z) (tidy_again true l)
tidy_more true (store a w ∷ l) = ap (λ (z : List Entry). store a w ∷ z) (tidy_again false l)
tidy_more false (store a w ∷ l) = ap (λ (z : List Entry). store a w ∷ z) (tidy_again false l)

pub tidy_front : (b : Bool) (l k : List Entry) → tidy_from b (tidy_from b l ++ k) ≡ tidy_from b (l ++ k)
tidy_front b l k = tidy-++ b (tidy_from b l) k ∙ (ap (λ (z : List Entry). z ++ tidy_from (idle b (tidy_from b l)) k) (tidy_again b l) ∙ (ap (λ (c : Bool). tidy_from b l ++ tidy_from c k) (idle_tidy b l) ∙ sym (tidy-++ b l k)))

pub tidy_back : (b : Bool) (l k : List Entry) → tidy_from b (l ++ tidy_from false k) ≡ tidy_from b (l ++ k)
tidy_back b l k = tidy-++ b l (tidy_from false k) ∙ (ap (λ (z : List Entry). tidy_from b l ++ z) (tidy_more (idle b l) k) ∙ sym (tidy-++ b l k))

-- what is seen of a line, and how many stores it has, does not hang on its bars

pub words-++ : (a : ℕ) (l k : List Entry) → words_to a (l ++ k) ≡ words_to a l ++ words_to a k
words-++ a [] k = refl
words-++ a (bar ∷ l) k = words-++ a l k
words-++ a (store b v ∷ l) k =
    ap (λ (r : List ℕ). cond (eqb b a) (v ∷ r) r) (words-++ a l k)
    ∙ elim (eqb b a) as (λ t. cond t (v ∷ (words_to a l ++ words_to a k)) (words_to a l ++ words_to a k) ≡ cond t (v ∷ words_to a l) (words_to a l) ++ words_to a k) [ true ↦ refl | false ↦ refl ]

pub words_tidy : (a : ℕ) (b : Bool) (l : List Entry) → words_to a (tidy_from b l) ≡ words_to a l
words_tidy a b [] = refl
words_tidy a true (bar ∷ l) = words_tidy a true l
words_tidy a false (bar ∷ l) = words_tidy a true l
words_tidy a true (store c v ∷ l) = ap (λ (r : List ℕ). cond (eqb c a) (v ∷ r) r) (words_tidy a false l)
words_tidy a false (store c v ∷ l) = ap (λ (r : List ℕ). cond (eqb c a) (v ∷ r) r) (words_tidy a false l)

pub last-++ : (l k : List ℕ) (d : ℕ) → last_or (l ++ k) d ≡ last_or k (last_or l d)
last-++ [] k d = refl
last-++ (x ∷ l) k d = last-++ l k x

pub stores-++ : (l k : List Entry) → stores (l ++ k) ≡ stores l + stores k
stores-++ [] k = sym (zero-add (stores k))
stores-++ (bar ∷ l) k = stores-++ l k
stores-++ (store b v ∷ l) k = ap (λ (z : ℕ). 1 + z) (stores-++ l k) ∙ sym (add_assoc 1 (stores l) (stores k))

pub stores_tidy : (b : Bool) (l : List Entry) → stores (tidy_from b l) ≡ stores l
stores_tidy b [] = refl
stores_tidy true (bar ∷ l) = stores_tidy true l
stores_tidy false (bar ∷ l) = stores_tidy true l
stores_tidy true (store c v ∷ l) = ap (λ (z : ℕ). 1 + z) (stores_tidy false l)
stores_tidy false (store c v ∷ l) = ap (λ (z : ℕ). 1 + z) (stores_tidy false l)
