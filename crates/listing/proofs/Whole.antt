-- The lines of a list of records, one more at a time.
use Rattle.std.proofs.Common.{◌≡◌, ℕ, ◌+◌, ◌<◌, ◌≤◌, List, [], ◌∷◌, ◌++◌, length, get_or, take, drop, sym, refl, ap, ◌∙◌, arith}
use Rattle.std.proofs.lemmas.List.{append_assoc, append-nil, length-append, take_more, take_all, take-append-drop}
use Rattle.run.specs.declared.records.Answer.TheVariants.{Accepted}
use Rattle.run.specs.declared.records.Record.{Record}
use Rattle.listing.specs.Listing.{line, lines, end_line, listing}
use Rattle.listing.specs.declared.lines.End.{End}
use Rattle.listing.proofs.Pieces.{end_length}

-- what an index past the end of a list of records reads
abbrev pub no_record : Record
no_record = record { index = 0; answer = Accepted 0; steps = 0 }

lines_append : (xs ys : List Record) → lines (xs ++ ys) ≡ lines xs ++ lines ys
lines_append [] ys = refl
lines_append (x ∷ xs) ys = ap (λ t. line x ++ t) (lines_append xs ys) ∙ sym (append_assoc (line x) (lines xs) (lines ys))

pub lines_more : (rs : List Record) (i : ℕ) → i < length rs → lines (take i rs) ++ line (get_or rs i no_record) ≡ lines (take (i + 1) rs)
lines_more rs i h = sym (ap lines (take_more rs i no_record h) ∙ lines_append (take i rs) (get_or rs i no_record ∷ []) ∙ ap (λ t. lines (take i rs) ++ t) (append-nil (line (get_or rs i no_record))))

pub length_more : (rs : List Record) (i : ℕ) → i < length rs → length (lines (take (i + 1) rs)) ≡ length (lines (take i rs)) + length (line (get_or rs i no_record))
length_more rs i h = ap length (sym (lines_more rs i h)) ∙ length-append (lines (take i rs)) (line (get_or rs i no_record))

-- behind the first lines there is room for the next one, wherever there is room for the listing
pub next_fits : (rs : List Record) (e : End) (i : ℕ) → i < length rs → length (lines (take i rs)) + length (line (get_or rs i no_record)) ≤ length (listing rs e)
next_fits rs e i h =
    let s : lines rs ≡ lines (take (i + 1) rs) ++ lines (drop (i + 1) rs) = ap lines (sym (take-append-drop (i + 1) rs)) ∙ lines_append (take (i + 1) rs) (drop (i + 1) rs) in
    omega (arith, length_more rs i h, ap length s, length-append (lines (take (i + 1) rs)) (lines (drop (i + 1) rs)), length-append (lines rs) (end_line e))

pub all_lines : (rs : List Record) (i : ℕ) → length rs ≤ i → lines (take i rs) ≡ lines rs
all_lines rs i h = ap lines (take_all i rs h)

pub end_fits : (rs : List Record) (e : End) (i : ℕ) → length rs ≤ i → length (lines (take i rs)) + length (end_line e) ≡ length (listing rs e)
end_fits rs e i h = omega (arith, ap length (all_lines rs i h), length-append (lines rs) (end_line e))

-- a listing has its last line at least
pub some_text : (rs : List Record) (e : End) → 0 < length (listing rs e)
some_text rs e = omega (arith, length-append (lines rs) (end_line e), end_length e)
