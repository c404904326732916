-- How long lines and listings can become.
use Rattle.std.proofs.Common.{ℕ, zero, suc, ◌+◌, ◌^◌, ◌<◌, ◌≤◌, List, [], ◌∷◌, length, decimal, unwrap_or, get_or, arith}
use Rattle.run.specs.declared.records.Answer.{Answer}
use Rattle.run.specs.declared.records.Answer.TheVariants.{Accepted, NoRing, Taken, Empty}
use Rattle.run.specs.declared.records.Record.{Record}
use Rattle.std.proofs.lemmas.Fmt.{length-decimal-le}
use Rattle.listing.specs.Listing.{line, end_line, no_refusal, word_text}
use Rattle.listing.specs.Bounds.{Early}
use Rattle.listing.specs.declared.lines.End.{End}
use Rattle.listing.proofs.Digits.{few}
use Rattle.listing.proofs.Pieces.{label, line_length, end_length}
use Rattle.listing.proofs.Whole.{no_record}

answer_short : (a : Answer) → length (label a) + length (word_text a) ≤ 27
answer_short (Accepted w) = omega arith
answer_short (NoRing w) = omega arith
answer_short (Taken w) = omega arith
answer_short Empty = omega arith

pub line_short : (r : Record) → r.steps < 256 → r.index < 65536 → length (line r) ≤ 37
line_short r s h =
    omega (arith, line_length r, answer_short r.answer, length-decimal-le 5 r.index (omega arith) (omega arith) (omega arith), length-decimal-le 3 r.steps (omega arith) (omega arith) (omega arith))

pub end_short : (e : End) → e.moves < 2 ^ 64 → (unwrap_or e.refusal no_refusal).number < 256 → (unwrap_or e.refusal no_refusal).byte < 2 ^ 64 → length (end_line e) ≤ 50
end_short e m n b = omega (arith, end_length e, few e.moves m, length-decimal-le 3 (unwrap_or e.refusal no_refusal).number (omega arith) (omega arith) (omega arith), few (unwrap_or e.refusal no_refusal).byte b)

pub early_at : (rs : List Record) (i : ℕ) → Early rs → i < length rs → (get_or rs i no_record).index < 65536
early_at [] i h k = absurd (omega arith)
early_at (r ∷ rs) zero h k = h.0
early_at (r ∷ rs) (suc i) h k = early_at rs i h.1 (omega arith)

-- a sum that has no place in 64 bits is not small
pub too_long : (n k : ℕ) → (n < 2 ^ 64 → ⊥) → n ≤ k → 2 ^ 64 ≤ k
too_long n k h l = omega arith
