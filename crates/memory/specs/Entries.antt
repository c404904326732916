-- What the entries of a store buffer are: each a store or a bar that was called, oldest first.
use Rattle.std.specs.Prelude.{ℕ, ◌+◌, Bool, false, cond, List, [], ◌∷◌, Some, None, Option, ◌==◌, nat_lt}
use Rattle.memory.specs.declared.entry.Entry.{Entry as Kept}
use Rattle.memory.specs.Meaning.{Entry, store, bar}

-- what the entries add to a line of a memory of n words; a store to no address of it adds nothing
abbrev pub own : ℕ → List Kept → List Entry
own n [] = []
own n (Kept.Bar ∷ l) = bar ∷ own n l
own n (Kept.Store a w ∷ l) = cond (nat_lt a n) (store a w ∷ own n l) (own n l)

-- the word that an entry stores to a, if it is a store to it
abbrev pub word_to : ℕ → Kept → Option ℕ
word_to a Kept.Bar = None
word_to a (Kept.Store b w) = cond (b == a) (Some w) None

-- what a reader that has found o among older entries finds once it has seen this one too
abbrev pub newer : ℕ → Kept → Option ℕ → Option ℕ
newer a Kept.Bar o = o
newer a (Kept.Store b w) o = cond (b == a) (Some w) o

abbrev pub newest_from : ℕ → Option ℕ → List Kept → Option ℕ
newest_from a o [] = o
newest_from a o (q ∷ l) = newest_from a (newer a q o) l

-- the word of the youngest store to a
abbrev pub newest : ℕ → List Kept → Option ℕ
newest a l = newest_from a None l

-- a store to an address below n
abbrev pub is_store : ℕ → Kept → Bool
is_store n Kept.Bar = false
is_store n (Kept.Store a w) = nat_lt a n

-- how many entries there are through the first store to an address below n, or 0 where there is none
abbrev pub through : ℕ → List Kept → ℕ
through n [] = 0
through n (q ∷ l) = cond (is_store n q) 1 (cond (through n l == 0) 0 (1 + through n l))
