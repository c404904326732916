-- How a word is written in hexadecimal digits.
use Rattle.std.specs.Prelude.{ℕ, zero, suc, ◌+◌, ◌-◌, ◌/◌, ◌%◌, cond, List, [], ◌∷◌, ◌++◌, nat_lt}

-- 0 to 9, then A to F
abbrev pub hexadecimal_digit : ℕ → ℕ
hexadecimal_digit d = cond (nat_lt d 10) (48 + d) (65 + (d - 10))

-- the low digits of a word, as many as asked for, the highest of them first
abbrev pub hexadecimal : ℕ → ℕ → List ℕ
hexadecimal zero w = []
hexadecimal (suc k) w = hexadecimal k (w / 16) ++ (hexadecimal_digit (w % 16) ∷ [])
