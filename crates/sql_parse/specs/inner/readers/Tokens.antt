-- Reading from the front of a list of tokens: what is read, and the tokens after it. There is nothing to
-- believe in these files: proofs/ shows that what is read is what the grammar has.
use Rattle.std.specs.Prelude.{ℕ, zero, suc, ◌+◌, ◌-◌, Bool, true, false, ◌&&◌, not, if◌then◌else◌, List, [], ◌∷◌, ◌++◌, length, take, Option, Some, None, nat_eq}
use Rattle.std.specs.Str.{bytes_eq}
use Rattle.lint_base.specs.declared.place.Span.{Span}
use Rattle.sql_lex.specs.declared.token.Sign.TheVariants as sign
use Rattle.sql_lex.specs.declared.token.Kind.{Kind}
use Rattle.sql_lex.specs.declared.token.Kind.TheVariants.{Name, Reserved, Sign}
use Rattle.sql_lex.specs.declared.token.Token.{Token}
use Rattle.sql_parse.specs.grammar.Words.{span_of}

abbrev pub Read : Type 0 → Type 0
Read A = Option (A × List Token)

abbrev pub found : {A : Type 0} → A → List Token → Read A
found a rest = Some (a, rest)

-- what is read, and then more
unfoldable pub and_then : {A B : Type 0} → Read A → (A → List Token → Read B) → Read B
and_then None k = None
and_then (Some r) k = k r.0 r.1

-- what a token is
unfoldable pub is_word : ℕ → Kind → Bool
is_word place (Reserved p) = nat_eq p place
is_word place _ = false

unfoldable pub is_open : Kind → Bool
is_open (Sign sign.Open) = true
is_open _ = false

unfoldable pub is_close : Kind → Bool
is_close (Sign sign.Close) = true
is_close _ = false

unfoldable pub is_comma : Kind → Bool
is_comma (Sign sign.Comma) = true
is_comma _ = false

unfoldable pub is_dot : Kind → Bool
is_dot (Sign sign.Dot) = true
is_dot _ = false

unfoldable pub is_semicolon : Kind → Bool
is_semicolon (Sign sign.Semicolon) = true
is_semicolon _ = false

unfoldable pub is_star : Kind → Bool
is_star (Sign sign.Star) = true
is_star _ = false

-- + or -
unfoldable pub is_plus : Kind → Bool
is_plus (Sign sign.Plus) = true
is_plus (Sign sign.Minus) = true
is_plus _ = false

unfoldable pub is_name : Kind → Bool
is_name (Name text quoted) = true
is_name _ = false

-- a word that is no reserved one, as KEY or INTEGER: a name without quotes
unfoldable pub is_called : List ℕ → Kind → Bool
is_called text (Name own quoted) = not quoted && bytes_eq own text
is_called text _ = false

-- the first token is so
unfoldable pub at_head : (Kind → Bool) → List Token → Bool
at_head test [] = false
at_head test (t ∷ rest) = test t.kind

-- a first token that is so
unfoldable pub expect : (Kind → Bool) → List Token → Read Token
expect test [] = None
expect test (t ∷ rest) = if test t.kind then found t rest else None

-- the place of the tokens before the rest
unfoldable pub place_before : List Token → List Token → Span
place_before tokens rest = span_of (take (length tokens - length rest) tokens)

-- Reads parts while the tokens begin like one. A part is a list, which may be empty; it is read from the number of
-- those before it. `clock` is the fuel of the recursion; it exceeds the number of tokens.
module _ {A : Type 0} (begins : List Token → Bool) (read : ℕ → List Token → Read (List A)) where
  unfoldable pub read_while : ℕ → ℕ → List Token → Read (List A)
  read_while zero count tokens = None
  read_while (suc clock) count tokens =
      if begins tokens
      then and_then (read count tokens) (λ part left. and_then (read_while clock (count + length part) left) (λ parts after. found (part ++ parts) after))
      else found [] tokens

  unfoldable pub read_parts : ℕ → List Token → Read (List A)
  read_parts count tokens = read_while (suc (length tokens)) count tokens

-- a part that is one
unfoldable pub read_alone : {A : Type 0} → (List Token → Read A) → ℕ → List Token → Read (List A)
read_alone read count tokens = and_then (read tokens) (λ part left. found (part ∷ []) left)

-- a part after a token that is so
unfoldable pub read_after : {A : Type 0} → (Kind → Bool) → (List Token → Read A) → List Token → Read A
read_after test read tokens = and_then (expect test tokens) (λ t rest. read rest)

-- parts with such a token between them
unfoldable pub read_separated : {A : Type 0} → (Kind → Bool) → (List Token → Read A) → List Token → Read (List A)
read_separated test read tokens =
    and_then (read tokens) (λ part left.
    and_then (read_parts (at_head test) (read_alone (read_after test read)) 1 left) (λ parts after. found (part ∷ parts) after))

-- what is read, where no token is left
unfoldable pub all_read : {A : Type 0} → Read A → Option A
all_read None = None
all_read (Some (a, [])) = Some a
all_read (Some (a, t ∷ rest)) = None
