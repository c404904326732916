-- How many digits a number has, and the digits of a word, from the last to the first.
use Rattle.std.proofs.Common.{◌≡◌, ℕ, suc, ◌+◌, ◌/◌, ◌%◌, ◌^◌, ◌<◌, ◌≤◌, List, [], ◌∷◌, ◌++◌, length, drop, set, decimal, sym, ap, ◌∙◌, add-one, arith}
use Rattle.std.proofs.lemmas.List.{append_assoc, drop-set, length_push}
use Rattle.std.proofs.lemmas.Fmt.{decimal_digit, decimal_step, length-decimal-le}
use Rattle.listing.specs.Numerals.{hexadecimal, hexadecimal_digit}

pub one_digit : (n : ℕ) → n < 10 → length (decimal n) ≡ 1
one_digit n h = ap length (decimal_digit n h)

pub one_more : (n : ℕ) → 10 ≤ n → n < 2 ^ 64 → length (decimal n) ≡ length (decimal (n / 10)) + 1
one_more n h f = ap length (decimal_step n h f) ∙ length_push (decimal (n / 10)) (48 + n % 10)

pub few : (n : ℕ) → n < 2 ^ 64 → length (decimal n) ≤ 20
few n f = length-decimal-le 20 n (omega arith) (omega arith) f

-- one digit more before those that stand at the end
pub next_digit : (k w d : ℕ) (xs all : List ℕ) → suc k ≤ length xs → d ≡ hexadecimal_digit (w % 16) → hexadecimal (suc k) w ++ drop (suc k) xs ≡ all → hexadecimal k (w / 16) ++ drop k (set xs k d) ≡ all
next_digit k w d xs all h e a =
    ap (λ t. hexadecimal k (w / 16) ++ t) (drop-set xs k d (omega arith) ∙ ap (λ n. d ∷ drop n xs) (add-one k) ∙ ap (λ x. x ∷ drop (suc k) xs) e)
    ∙ (sym (append_assoc (hexadecimal k (w / 16)) (hexadecimal_digit (w % 16) ∷ []) (drop (suc k) xs)) ∙ a)
