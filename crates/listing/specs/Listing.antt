-- The listing of a run: a line for each record of the log, and the end line.
use Rattle.std.specs.Prelude.{ℕ, List, [], ◌∷◌, ◌++◌, unwrap_or, codes, decimal}
use Rattle.run.specs.declared.records.Answer.{Answer}
use Rattle.run.specs.declared.records.Answer.TheVariants.{Accepted, NoRing, Taken, Empty}
use Rattle.run.specs.declared.records.Record.{Record}
use Rattle.listing.specs.Numerals.{hexadecimal}
use Rattle.listing.specs.declared.lines.End.{End}
use Rattle.listing.specs.declared.lines.Refusal.{Refusal}

-- the side whose call ended so
abbrev pub side_letter : Answer → List ℕ
side_letter (Accepted w) = codes "F"
side_letter (NoRing w) = codes "F"
side_letter (Taken w) = codes "D"
side_letter Empty = codes "D"

abbrev pub answer_text : Answer → List ℕ
answer_text (Accepted w) = codes "in"
answer_text (NoRing w) = codes "no-ring"
answer_text (Taken w) = codes "out"
answer_text Empty = codes "empty"

-- the item's word in 16 digits, or a dash
abbrev pub word_text : Answer → List ℕ
word_text (Accepted w) = hexadecimal 16 w
word_text (NoRing w) = hexadecimal 16 w
word_text (Taken w) = hexadecimal 16 w
word_text Empty = codes "-"

-- the parts of a line with a space between each two, and a line feed
abbrev pub spaced : List (List ℕ) → List ℕ
spaced [] = codes "\n"
spaced (x ∷ []) = x ++ codes "\n"
spaced (x ∷ y ∷ xs) = x ++ (codes " " ++ spaced (y ∷ xs))

-- a record's line: the move, the side, the answer, the steps and the item's word
unfoldable pub line : Record → List ℕ
line r = spaced (decimal r.index ∷ side_letter r.answer ∷ answer_text r.answer ∷ decimal r.steps ∷ word_text r.answer ∷ [])

-- what the last line tells where no refusal stopped the run
abbrev pub no_refusal : Refusal
no_refusal = record { number = 0; byte = 0 }

-- the last line: the moves made before the stop, the refusal or 0, and its byte in the book or 0
unfoldable pub end_line : End → List ℕ
end_line e = let r = unwrap_or e.refusal no_refusal in spaced (codes "end" ∷ decimal e.moves ∷ decimal r.number ∷ decimal r.byte ∷ [])

abbrev pub lines : List Record → List ℕ
lines [] = []
lines (r ∷ rs) = line r ++ lines rs

abbrev pub listing : List Record → End → List ℕ
listing rs e = lines rs ++ end_line e
