-- The words of a part, one more at a time.
use Rattle.std.proofs.Common.{◌≡◌, ℕ, zero, suc, ◌+◌, ◌*◌, ◌<◌, List, [], ◌∷◌, ◌++◌, length, get_or, take, drop, set, sym, refl, ap, ◌∙◌, add-zero, add_assoc, add-one, arith}
use Rattle.std.specs.Simd.{first_chunks}
use Rattle.std.proofs.lemmas.List.{get_or-drop, get_or-take, drop-drop, take_more_set}
use Rattle.book.specs.ItemWords.{word_at, first_words}

pub chunk_at : (k i : ℕ) (b d : List ℕ) → i < k → get_or (first_chunks 8 k b) i d ≡ take 8 (drop (8 * i) b)
chunk_at zero i b d h = absurd (omega arith)
chunk_at (suc k) zero b d h = refl
chunk_at (suc k) (suc i) b d h =
    let n : 8 + 8 * i ≡ 8 * suc i = omega arith in
    chunk_at k i (drop 8 b) d (omega arith) ∙ ap (take 8) (drop-drop (8 * i) 8 b ∙ ap (λ m. drop m b) n)

byte_there : (b c : List ℕ) (n k : ℕ) → c ≡ take 8 (drop n b) → k < 8 → get_or c k 0 ≡ get_or b (n + k) 0
byte_there b c n k s h = ap (λ x. get_or x k 0) s ∙ (get_or-take 8 (drop n b) k 0 h ∙ get_or-drop n b k 0)

pub word_there : (b : List ℕ) (i w : ℕ) (c : List ℕ) →
    c ≡ take 8 (drop (8 * i) b) →
    w ≡ get_or c 0 0 + get_or c 1 0 * 256 + get_or c 2 0 * 65536 + get_or c 3 0 * 16777216 + get_or c 4 0 * 4294967296 + get_or c 5 0 * 1099511627776 + get_or c 6 0 * 281474976710656 + get_or c 7 0 * 72057594037927936 →
    w ≡ word_at b i
word_there b i w c s e =
    let byte : (k : ℕ) → k < 8 → get_or c k 0 ≡ get_or b (8 * i + k) 0 = λ k h. byte_there b c (8 * i) k s h in
    let z = ap (λ m. get_or b m 0) (add-zero (8 * i)) in
    let beyond = λ (k : ℕ). ap (λ m. get_or b m 0) (add_assoc (8 * i) 4 k) in
    omega (arith, byte 0 (omega arith), byte 1 (omega arith), byte 2 (omega arith), byte 3 (omega arith), byte 4 (omega arith), byte 5 (omega arith), byte 6 (omega arith), byte 7 (omega arith), beyond 1, beyond 2, beyond 3)

pub copied_more : (words new : List ℕ) (part : List ℕ) (i w : ℕ) → take i words ≡ first_words i part → i < length words → w ≡ word_at part i → new ≡ set words i w → take (i + 1) new ≡ first_words (i + 1) part
copied_more words new part i w e h p q =
    ap (take (i + 1)) q
    ∙ (take_more_set words i w h
    ∙ (ap (λ t. t ++ (w ∷ [])) e
    ∙ (ap (λ x. first_words i part ++ (x ∷ [])) p
    ∙ ap (λ n. first_words n part) (sym (add-one i)))))
