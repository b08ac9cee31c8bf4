-- How tokens are spelled (ISO/IEC 9075:1992, 5.2 and 5.3). The longest token is taken: what stands behind a
-- token does not make it longer.
use Rattle.std.specs.Prelude.{ℕ, pos, ◌+◌, ◌≤◌, ◌<◌, ◌≡◌, ◌⊎◌, Bool, true, false, ◌||◌, not, nat_eq, List, [], ◌∷◌, ◌++◌, length, map, Some, None, if◌then◌else◌, codes}
use Rattle.std.specs.List.{list_all, flat_map}
use Rattle.std.specs.Str.{chars, IsUtf8}
use Rattle.lint_tables.specs.Words.{upper, place_of, reserved}
use Rattle.lint_tables.specs.declared.op.Op.TheVariants.{Eq, Ne, Lt, Le, Gt, Ge}
use Rattle.sql_lex.specs.declared.token.Sign.{Sign as SignOf}
use Rattle.sql_lex.specs.declared.token.Sign.TheVariants as sign
use Rattle.sql_lex.specs.declared.token.Kind.{Kind}
use Rattle.sql_lex.specs.declared.token.Kind.TheVariants as kind
use Rattle.sql_lex.specs.declared.token.Token.{Token}
use Rattle.sql_lex.specs.Bytes.{is_letter, is_digit, goes_on_word, decimal_value}
use Rattle.sql_lex.specs.Gaps.{is_gap, is_last_gap}

-- a letter, and then letters, digits and `_`
abbrev pub IsWord : List ℕ → Type 0
IsWord [] = ⊥
IsWord (b ∷ bs) = (is_letter b ≡ true) × (list_all goes_on_word bs ≡ true)

-- the bytes with each quote of this kind twice
abbrev pub doubled : ℕ → List ℕ → List ℕ
doubled mark bytes = flat_map (λ b. if nat_eq b mark then mark ∷ mark ∷ [] else b ∷ []) bytes

-- the bytes between quotes of this kind, with its own quotes twice, and the characters that they spell
pub record IsQuoted (mark : ℕ) (body text : List ℕ) : Type 0 where
  pub bytes : List ℕ
  pub whole : body ≡ mark ∷ doubled mark bytes ++ mark ∷ []
  pub utf8 : IsUtf8 bytes
  pub characters : text ≡ chars bytes

-- the sign's bytes; `!=` is `<>`
abbrev pub IsSign : SignOf → List ℕ → Type 0
IsSign sign.Open body = body ≡ codes "("
IsSign sign.Close body = body ≡ codes ")"
IsSign sign.Comma body = body ≡ codes ","
IsSign sign.Dot body = body ≡ codes "."
IsSign sign.Semicolon body = body ≡ codes ";"
IsSign sign.Star body = body ≡ codes "*"
IsSign sign.Plus body = body ≡ codes "+"
IsSign sign.Minus body = body ≡ codes "-"
IsSign (sign.Compare Eq) body = body ≡ codes "="
IsSign (sign.Compare Ne) body = (body ≡ codes "<>") ⊎ (body ≡ codes "!=")
IsSign (sign.Compare Lt) body = body ≡ codes "<"
IsSign (sign.Compare Le) body = body ≡ codes "<="
IsSign (sign.Compare Gt) body = body ≡ codes ">"
IsSign (sign.Compare Ge) body = body ≡ codes ">="

-- the bytes are digits, and spell this number
pub record IsDigits (body : List ℕ) (value : ℕ) : Type 0 where
  pub some : 0 < length body
  pub digits : list_all is_digit body ≡ true
  pub spell : value ≡ decimal_value 0 body

-- the bytes spell a token of this kind: a word that is no reserved one is a name in upper case; a delimited
-- name has at least one character; a number is at most 9223372036854775807
abbrev pub IsSpelling : Kind → List ℕ → Type 0
IsSpelling (kind.Name text false) body = IsWord body × (place_of reserved body ≡ None) × (text ≡ map upper body)
IsSpelling (kind.Name text true) body = IsQuoted 34 body text × (0 < length text)
IsSpelling (kind.Reserved place) body = IsWord body × (place_of reserved body ≡ Some place)
IsSpelling (kind.Text text) body = IsQuoted 39 body text
IsSpelling (kind.Number value) body = (n : ℕ) × IsDigits body n × (n ≤ 9223372036854775807) × (value ≡ pos n)
IsSpelling (kind.Sign s) body = IsSign s body

-- the text does not begin with such a byte
abbrev pub begins_without : (ℕ → Bool) → List ℕ → Bool
begins_without p [] = true
begins_without p (b ∷ bs) = not (p b)

-- what stands behind a token of this kind does not make it longer; `--` is a comment
abbrev pub sign_ends_before : SignOf → List ℕ → Bool
sign_ends_before sign.Open rest = true
sign_ends_before sign.Close rest = true
sign_ends_before sign.Comma rest = true
sign_ends_before sign.Dot rest = true
sign_ends_before sign.Semicolon rest = true
sign_ends_before sign.Star rest = true
sign_ends_before sign.Plus rest = true
sign_ends_before sign.Minus rest = begins_without (λ b. nat_eq b 45) rest
sign_ends_before (sign.Compare Eq) rest = true
sign_ends_before (sign.Compare Ne) rest = true
sign_ends_before (sign.Compare Lt) rest = begins_without (λ b. nat_eq b 61 || nat_eq b 62) rest
sign_ends_before (sign.Compare Le) rest = true
sign_ends_before (sign.Compare Gt) rest = begins_without (λ b. nat_eq b 61) rest
sign_ends_before (sign.Compare Ge) rest = true

abbrev pub ends_before : Kind → List ℕ → Bool
ends_before (kind.Name text false) rest = begins_without goes_on_word rest
ends_before (kind.Name text true) rest = begins_without (λ b. nat_eq b 34) rest
ends_before (kind.Reserved place) rest = begins_without goes_on_word rest
ends_before (kind.Text text) rest = begins_without (λ b. nat_eq b 39) rest
ends_before (kind.Number value) rest = begins_without is_digit rest
ends_before (kind.Sign s) rest = sign_ends_before s rest

-- from an offset on the text is a gap, the bytes of a token, and what comes after it
pub record Begins (at : ℕ) (text : List ℕ) (token : Token) (rest : List ℕ) : Type 0 where
  pub gap : List ℕ
  pub body : List ℕ
  pub whole : text ≡ gap ++ body ++ rest
  pub between : is_gap gap ≡ true
  pub spelled : IsSpelling token.kind body
  pub longest : ends_before token.kind rest ≡ true
  pub from : token.span.from ≡ at + length gap
  pub to : token.span.to ≡ at + length gap + length body

-- the text from this offset on begins with these tokens, and this is left behind them
abbrev pub BeginsWith : ℕ → List ℕ → List Token → List ℕ → ℕ → Type 0
BeginsWith at text [] rest end = (text ≡ rest) × (at ≡ end)
BeginsWith at text (token ∷ tokens) rest end = (next : List ℕ) × Begins at text token next × BeginsWith token.span.to next tokens rest end

-- the text from this offset on is these tokens
pub record Spells (at : ℕ) (text : List ℕ) (tokens : List Token) : Type 0 where
  pub rest : List ℕ
  pub end : ℕ
  pub begins : BeginsWith at text tokens rest end
  pub last : is_last_gap rest ≡ true
