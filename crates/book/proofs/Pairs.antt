-- The pairs of a header, each in what the one before it leaves, and what they decide.
use Rattle.std.proofs.Common.{◌≡◌, ◌≤◌, ℕ, ◌-◌, Bool, true, false, cond, leb, List, [], ◌∷◌, length, get_or, take, drop, Some, None, sym, refl, ap, ◌∙◌, le-leb}
use Rattle.std.proofs.lemmas.List.{get_or-drop, drop-drop, take_rest, length-drop}
use Rattle.std.proofs.lemmas.Bool.{cond-true}
use Rattle.listing.specs.declared.lines.Refusal.{Refusal}
use Rattle.book.specs.Checks.{check, first_refusal}
use Rattle.book.specs.Layout.{part_at, header_of, header_checks, pair_checks}
use Rattle.book.specs.declared.header.Part.{Part}
use Rattle.book.specs.declared.header.Header.{Header}

-- f, g and h are what is left of the book at each pair
pub record Walked (book f g h : List ℕ) : Type 0 where
  pub first : f ≡ drop 1 book
  pub second : g ≡ drop 9 book
  pub third : h ≡ drop 17 book

pub walked : (book g h : List ℕ) → g ≡ drop 8 (take (length book - 1) (drop 1 book)) → h ≡ drop 8 g → Walked book (take (length book - 1) (drop 1 book)) g h
walked book g h p q =
    let a = take_rest book 1 in
    let b : g ≡ drop 9 book = p ∙ ap (drop 8) a ∙ drop-drop 8 1 book in
    record { first = a; second = b; third = q ∙ ap (drop 8) b ∙ drop-drop 8 9 book }

settings_part : (book : List ℕ) → part_at (drop 1 book) 0 ≡ part_at book 1
settings_part book = simp get_or-drop

words_part : (book : List ℕ) → part_at (drop 9 book) 0 ≡ part_at book 9
words_part book = simp get_or-drop

moves_part : (book : List ℕ) → part_at (drop 17 book) 0 ≡ part_at book 17
moves_part book = simp get_or-drop

pub header_is : {book f g h : List ℕ} {s w m : Part} → Walked book f g h → s ≡ part_at f 0 → w ≡ part_at g 0 → m ≡ part_at h 0 → ◌≡◌ {A = Header} record { first = get_or book 0 0; layout = record { settings = s; words = w; moves = m } } (header_of book)
header_is {book} {f} {g} {h} {s} {w} {m} k a b c =
    let x : s ≡ part_at book 1 = a ∙ ap (λ l. part_at l 0) k.first ∙ settings_part book in
    let y : w ≡ part_at book 9 = b ∙ ap (λ l. part_at l 0) k.second ∙ words_part book in
    let z : m ≡ part_at book 17 = c ∙ ap (λ l. part_at l 0) k.third ∙ moves_part book in
    cc

pub third_length : {book f g h : List ℕ} → Walked book f g h → length h ≡ length book - 17
third_length {book} k = ap length k.third ∙ length-drop 17 book

held : (b : Bool) (q : Refusal) → cond b None (Some q) ≡ None → b ≡ true
held true q e = refl
held false q e = cc

-- in a book neither too long nor too short, the pairs decide
pub pairs_refused : (book : List ℕ) (h : Header) (q : Refusal) → first_refusal (check (leb (length book) 65536) 10 65536 ∷ []) ≡ None → 25 ≤ length book → h ≡ header_of book → first_refusal (pair_checks (length book) h) ≡ Some q → first_refusal (header_checks book) ≡ Some q
pairs_refused book h q a b e f =
    cond-true (leb (length book) 65536) _ _ (held _ _ a)
    ∙ (cond-true (leb 25 (length book)) _ _ (le-leb 25 (length book) b)
    ∙ (ap (λ x. first_refusal (pair_checks (length book) x)) (sym e) ∙ f))
