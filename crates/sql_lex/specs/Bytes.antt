-- Kinds of bytes (ISO/IEC 9075:1992, 5.1).
use Rattle.std.specs.Prelude.{ℕ, ◌+◌, ◌*◌, ◌-◌, Bool, ◌&&◌, ◌||◌, nat_eq, nat_le, List, [], ◌∷◌}

-- horizontal tab, line feed, vertical tab, form feed, carriage return, space
abbrev pub is_white : ℕ → Bool
is_white b = (nat_le 9 b && nat_le b 13) || nat_eq b 32

abbrev pub is_letter : ℕ → Bool
is_letter b = (nat_le 65 b && nat_le b 90) || (nat_le 97 b && nat_le b 122)

abbrev pub is_digit : ℕ → Bool
is_digit b = nat_le 48 b && nat_le b 57

-- what a word goes on with: letters, digits and `_`
abbrev pub goes_on_word : ℕ → Bool
goes_on_word b = is_letter b || is_digit b || nat_eq b 95

-- `'` and `"`
abbrev pub is_quote : ℕ → Bool
is_quote b = nat_eq b 39 || nat_eq b 34

-- the number that digits spell, after those that stand for so_far
abbrev pub decimal_value : ℕ → List ℕ → ℕ
decimal_value so_far [] = so_far
decimal_value so_far (b ∷ bs) = decimal_value (10 * so_far + (b - 48)) bs
