-- The first token of a text, or the fault in its place, as the lexer finds it. What to believe is the grammar
-- in Gaps, Tokens and Faults: proofs/ shows that a token or a fault is found here exactly where they have it.
use Rattle.std.specs.Prelude.{ℕ, suc, pos, ◌+◌, ◌-◌, Bool, true, false, ◌&&◌, nat_eq, nat_le, List, [], ◌∷◌, ◌++◌, length, map, take, Option, Some, None, option_map, if◌then◌else◌}
use Rattle.std.specs.Option.{option_map_or}
use Rattle.std.specs.Str.{chars, is_utf8}
use Rattle.lint_base.specs.declared.place.Fault.{Fault}
use Rattle.lint_base.specs.declared.place.Fault.TheVariants as fault
use Rattle.lint_tables.specs.Words.{upper, place_of, reserved}
use Rattle.lint_tables.specs.declared.op.Op.TheVariants.{Eq, Ne, Lt, Le, Gt, Ge}
use Rattle.sql_lex.specs.declared.token.Sign.{Sign as SignOf}
use Rattle.sql_lex.specs.declared.token.Sign.TheVariants as sign
use Rattle.sql_lex.specs.declared.token.Kind.{Kind}
use Rattle.sql_lex.specs.declared.token.Kind.TheVariants as kind
use Rattle.sql_lex.specs.declared.found.Found.{Found}
use Rattle.sql_lex.specs.declared.found.Found.TheVariants.{Lexeme, Flaw}
use Rattle.sql_lex.specs.Bytes.{is_white, is_letter, is_digit, is_quote, goes_on_word, decimal_value}
use Rattle.sql_lex.specs.Classes.{begins_with_dash}

-- the code's type and its two forms, by names that the crates above may use
abbrev pub Finding : Type 0
Finding = Found

abbrev pub lexeme : Kind → ℕ → Finding
lexeme kind len = Lexeme kind len

abbrev pub flaw : Fault → ℕ → Finding
flaw fault len = Flaw fault len

-- what is left behind white space and comments; the text begins in a comment or not
abbrev pub after_gap : Bool → List ℕ → List ℕ
after_gap inside [] = []
after_gap true (b ∷ bs) = after_gap (if nat_eq b 10 then false else true) bs
after_gap false (b ∷ bs) =
    if nat_eq b 45 && begins_with_dash bs then after_gap true bs else (if is_white b then after_gap false bs else b ∷ bs)

-- how many bytes from the front on pass
abbrev pub front_len : (ℕ → Bool) → List ℕ → ℕ
front_len p [] = 0
front_len p (b ∷ bs) = if p b then suc (front_len p bs) else 0

-- bytes before what a quote holds
abbrev pub with_front : List ℕ → Option (List ℕ × List ℕ) → Option (List ℕ × List ℕ)
with_front front found = option_map (λ x. (front ++ x.0, x.1)) found

-- what a quote holds, with two of its marks read as one, and what stands behind it; `after_mark` says that a
-- mark was read which ends the quote unless another follows
abbrev pub unquoted : ℕ → Bool → List ℕ → Option (List ℕ × List ℕ)
unquoted mark false [] = None
unquoted mark true [] = Some ([], [])
unquoted mark false (b ∷ bs) = if nat_eq b mark then unquoted mark true bs else with_front (b ∷ []) (unquoted mark false bs)
unquoted mark true (b ∷ bs) = if nat_eq b mark then with_front (b ∷ []) (unquoted mark false bs) else Some ([], b ∷ bs)

abbrev pub bad_byte : Found
bad_byte = Flaw fault.BadByte 1

-- a reserved word, or a name
abbrev pub word_found : List ℕ → Found
word_found body =
    option_map_or (λ place. Lexeme (kind.Reserved place) (length body)) (place_of reserved body) (Lexeme (kind.Name (map upper body) false) (length body))

abbrev pub within_limit : ℕ → Option ℕ
within_limit n = if nat_le n 9223372036854775807 then Some n else None

abbrev pub number_found : List ℕ → Found
number_found digits =
    option_map_or (λ n. Lexeme (kind.Number (pos n)) (length digits)) (within_limit (decimal_value 0 digits)) (Flaw fault.BigNumber (length digits))

-- the token of a quote that is closed, by its mark, what it holds and its bytes
abbrev pub closed_found : ℕ → List ℕ → ℕ → Found
closed_found mark bytes len =
    if is_utf8 bytes then (if nat_eq mark 39 then Lexeme (kind.Text (chars bytes)) len
    else (if nat_eq (length bytes) 0 then bad_byte else Lexeme (kind.Name (chars bytes) true) len))
    else bad_byte

-- after an opening quote
abbrev pub quoted_found : ℕ → List ℕ → Found
quoted_found mark rest =
    option_map_or (λ x. closed_found mark x.0 (length rest - length x.1 + 1)) (unquoted mark false rest) (Flaw fault.OpenQuote 1)

abbrev pub sign_found : SignOf → ℕ → Found
sign_found s len = Lexeme (kind.Sign s) len

-- after a `<`
abbrev pub less_found : List ℕ → Found
less_found [] = sign_found (sign.Compare Lt) 1
less_found (b ∷ bs) =
    if nat_eq b 61 then sign_found (sign.Compare Le) 2 else if nat_eq b 62 then sign_found (sign.Compare Ne) 2 else sign_found (sign.Compare Lt) 1

-- after a `>`
abbrev pub greater_found : List ℕ → Found
greater_found [] = sign_found (sign.Compare Gt) 1
greater_found (b ∷ bs) = if nat_eq b 61 then sign_found (sign.Compare Ge) 2 else sign_found (sign.Compare Gt) 1

-- after a `!`
abbrev pub not_found : List ℕ → Found
not_found [] = bad_byte
not_found (b ∷ bs) = if nat_eq b 61 then sign_found (sign.Compare Ne) 2 else bad_byte

abbrev pub sign_at : List ℕ → Found
sign_at [] = bad_byte
sign_at (b ∷ bs) =
    if nat_eq b 40 then sign_found sign.Open 1
    else if nat_eq b 41 then sign_found sign.Close 1
    else if nat_eq b 44 then sign_found sign.Comma 1
    else if nat_eq b 46 then sign_found sign.Dot 1
    else if nat_eq b 59 then sign_found sign.Semicolon 1
    else if nat_eq b 42 then sign_found sign.Star 1
    else if nat_eq b 43 then sign_found sign.Plus 1
    else if nat_eq b 45 then sign_found sign.Minus 1
    else if nat_eq b 61 then sign_found (sign.Compare Eq) 1
    else if nat_eq b 60 then less_found bs
    else if nat_eq b 62 then greater_found bs
    else if nat_eq b 33 then not_found bs
    else bad_byte

unfoldable pub first_found : List ℕ → Found
first_found [] = bad_byte
first_found (b ∷ bs) =
    if is_letter b then word_found (take (front_len goes_on_word (b ∷ bs)) (b ∷ bs))
    else if is_digit b then number_found (take (front_len is_digit (b ∷ bs)) (b ∷ bs))
    else if is_quote b then quoted_found b bs
    else sign_at (b ∷ bs)
