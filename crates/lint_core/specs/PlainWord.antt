-- The names that stand in a query as they are, without quotes and in upper case (ISO/IEC 9075:1992, 5.2).
use Rattle.std.specs.Prelude.{ℕ, Bool, false, ◌&&◌, ◌||◌, nat_eq, nat_le, List, [], ◌∷◌, is_none}
use Rattle.std.specs.List.{list_all}
use Rattle.lint_tables.specs.Words.{place_of, reserved}

-- A to Z
abbrev pub begins_word : ℕ → Bool
begins_word c = nat_le 65 c && nat_le c 90

-- such a letter, a digit, or `_`
abbrev pub goes_on_word : ℕ → Bool
goes_on_word c = begins_word c || (nat_le 48 c && nat_le c 57) || nat_eq c 95

-- a letter, and then letters, digits and `_`, which are together no reserved word
abbrev pub is_plain_word : List ℕ → Bool
is_plain_word [] = false
is_plain_word (c ∷ cs) = begins_word c && list_all goes_on_word cs && is_none (place_of reserved (c ∷ cs))
