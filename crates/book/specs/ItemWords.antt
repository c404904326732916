-- The item words of a book: eight bytes each, the low byte first.
use Rattle.std.specs.Prelude.{ℕ, zero, suc, ◌+◌, ◌*◌, ◌/◌, List, [], ◌∷◌, ◌++◌, length}
use Rattle.book.specs.Layout.{field}

abbrev pub word_at : List ℕ → ℕ → ℕ
word_at part i = field part (8 * i) + 4294967296 * field part (8 * i + 4)

-- the first n words of a part
abbrev pub first_words : ℕ → List ℕ → List ℕ
first_words zero part = []
first_words (suc n) part = first_words n part ++ (word_at part n ∷ [])

abbrev pub words_in : List ℕ → List ℕ
words_in part = first_words (length part / 8) part
