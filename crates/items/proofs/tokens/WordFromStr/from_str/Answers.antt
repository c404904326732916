use Rattle.std.proofs.Common.{◌≡◌, ℕ, ◌^◌, ◌<◌, List, get_or, arith, rules}
use Rattle.std.specs.Str.Parse.{IsNumeral, digits_value, without_leading_plus}
use Rattle.std.proofs.lemmas.Int.Digits.{digits_value-lt}
use Rattle.std.proofs.lemmas.Result.{err_from_is_err_and}
use Rattle.std.proofs.lemmas.Str.Parse.{without_leading_plus_none}
use Rattle.items.specs.Tokens.{WordText}
use Rattle.items.proofs.tokens.WordFromStr.from_str.Goals as goal

-- a word's 16 digits have no sign in front, and their number fits 64 bits
word_numeral : (t : List ℕ) → (get_or t 0 0 ≡ 43 → ⊥) → WordText t → IsNumeral 16 (without_leading_plus t) × (digits_value 16 (without_leading_plus t) < 2 ^ 64)
word_numeral t n w =
    let l = rw w.0 at (digits_value-lt 16 t w.1) in
    rw (without_leading_plus_none t n) ((omega (arith, w.0), w.1), omega arith)

pub returns-in_err-from_str_radix : goal.returns-in_err-from_str_radix
returns-in_err-from_str_radix c =
    let p = err_from_is_err_and c.from_residual.result c.from_residual.ensures.1 in
    rw p.1 (λ h. c.in_err-from_str_radix.ensures.value (word_numeral c.args.text.now (λ e. search rules) h))
