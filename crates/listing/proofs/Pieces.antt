-- A line in the pieces that are written one behind the other.
use Rattle.std.proofs.Common.{◌≡◌, ℕ, ◌+◌, List, ◌++◌, length, codes, decimal, unwrap_or, sym, refl, ap, ◌∙◌}
use Rattle.std.proofs.lemmas.List.{append_assoc, length-append}
use Rattle.run.specs.declared.records.Answer.{Answer}
use Rattle.run.specs.declared.records.Answer.TheVariants.{Accepted, NoRing, Taken, Empty}
use Rattle.run.specs.declared.records.Record.{Record}
use Rattle.listing.specs.Listing.{end_line, no_refusal, line, word_text, side_letter, answer_text}
use Rattle.listing.specs.declared.lines.End.{End}

-- what stands between the move and the steps
abbrev pub label : Answer → List ℕ
label a = codes " " ++ (side_letter a ++ (codes " " ++ (answer_text a ++ codes " ")))

labelled : (a : Answer) (xs : List ℕ) → codes " " ++ (side_letter a ++ (codes " " ++ (answer_text a ++ (codes " " ++ xs)))) ≡ label a ++ xs
labelled (Accepted w) xs = refl
labelled (NoRing w) xs = refl
labelled (Taken w) xs = refl
labelled Empty xs = refl

pub pieces : (r : Record) → line r ≡ decimal r.index ++ label r.answer ++ decimal r.steps ++ codes " " ++ word_text r.answer ++ codes "\n"
unfolding line
pieces r = ap (λ x. decimal r.index ++ x) (labelled r.answer (decimal r.steps ++ (codes " " ++ (word_text r.answer ++ codes "\n")))) ∙ sym (simp append_assoc)

pub line_length : (r : Record) → length (line r) ≡ length (decimal r.index) + length (label r.answer) + length (decimal r.steps) + 1 + length (word_text r.answer) + 1
line_length r = ap length (pieces r) ∙ simp length-append

pub end_pieces : (e : End) → end_line e ≡ codes "end " ++ decimal e.moves ++ codes " " ++ decimal (unwrap_or e.refusal no_refusal).number ++ codes " " ++ decimal (unwrap_or e.refusal no_refusal).byte ++ codes "\n"
unfolding end_line
end_pieces e = sym (simp append_assoc)

pub end_length : (e : End) → length (end_line e) ≡ 4 + length (decimal e.moves) + 1 + length (decimal (unwrap_or e.refusal no_refusal).number) + 1 + length (decimal (unwrap_or e.refusal no_refusal).byte) + 1
end_length e = ap length (end_pieces e) ∙ simp length-append
