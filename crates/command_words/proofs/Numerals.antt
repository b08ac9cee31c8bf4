-- Numerals of ten digits at most, and what `parse` makes of them.
use Rattle.std.proofs.Common.{◌≡◌, ◌∙◌, sym, ap, ℕ, ◌<◌, ◌≤◌, ◌^◌, ◌&&◌, true, rules, List, length, Result, Ok, Err, arith, nat_lt, nat_le}
use Rattle.std.specs.Char.{is_ascii_digit}
use Rattle.std.proofs.lemmas.Bool.{and_parts}
use Rattle.std.proofs.lemmas.Bool.Decides.{nat_tests}
use Rattle.std.proofs.lemmas.Str.Parse.{IsNumeralModel, numerals_by_fold, digits_value_short, parse_gives}
use Rattle.std.specs.List.{list_all}
use Rattle.std.specs.Str.Parse.{ParsesUnsigned}
use Rattle.command_words.specs.CommandLine.{decimal_value}
use Rattle.command_words.specs.WantedOf.{is_numeral, within_limits, number_of}

numerals : IsNumeralModel (λ ds. list_all is_ascii_digit ds ≡ true) (decimal_value 0)
numerals = numerals_by_fold _ (search rules) decimal_value (search rules)

pub record IsShort (value : List ℕ) : Type 0 where
  pub some_digit : 0 < length value
  pub few : length value ≤ 10
  pub digits : list_all is_ascii_digit value ≡ true

pub short : (value : List ℕ) → is_numeral value ≡ true → IsShort value
short value numeral =
    let outer = and_parts (nat_lt 0 (length value)) (nat_le (length value) 10 && list_all is_ascii_digit value) numeral in
    let inner = and_parts (nat_le (length value) 10) (list_all is_ascii_digit value) outer.1 in
    let above : nat_lt 0 (length value) ≡ true = outer.0 in
    let below : nat_le (length value) 10 ≡ true = inner.0 in
    record { some_digit = grind (arith, nat_tests); few = grind (arith, nat_tests); digits = inner.1 }

parsed : {E : Type 0} (value : List ℕ) (r : Result ℕ E) → ParsesUnsigned 64 10 value r → is_numeral value ≡ true → r ≡ Ok (decimal_value 0 value)
parsed value r parse numeral =
    let is : IsShort value = short value numeral in
    let small : decimal_value 0 value < 10 ^ 10 = digits_value_short numerals value 10 is.digits is.few in
    parse_gives numerals 64 value r parse is.digits is.some_digit (omega (arith, small))

module _ {E : Type 0} (value : List ℕ) (r : Result ℕ E) (parse : ParsesUnsigned 64 10 value r) (numeral : is_numeral value ≡ true) where
  pub number_read : (number : ℕ) → r ≡ Ok number → within_limits number ≡ number_of value
  number_read number is =
      let same_ok : ◌≡◌ {A = Result ℕ E} (Ok number) (Ok (decimal_value 0 value)) = sym is ∙ parsed value r parse numeral in
      let same : number ≡ decimal_value 0 value = cc in
      rw (numeral) (ap within_limits same)

  pub number_lost : (e : E) → r ≡ Err e → ⊥
  number_lost e is = let apart : ◌≡◌ {A = Result ℕ E} (Err e) (Ok (decimal_value 0 value)) = sym is ∙ parsed value r parse numeral in cc
