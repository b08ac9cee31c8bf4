-- The reading of names, values, columns and terms.
use Rattle.std.specs.Prelude.{ℤ, pos, neg_ℤ, int_le, if◌then◌else◌, List, [], ◌∷◌, Option, Some, None}
use Rattle.lint_base.specs.declared.place.Span.{Span}
use Rattle.sql_lex.specs.declared.token.Sign.TheVariants.{Plus, Minus}
use Rattle.sql_lex.specs.declared.token.Kind.{Kind}
use Rattle.sql_lex.specs.declared.token.Kind.TheVariants as kind
use Rattle.sql_lex.specs.declared.token.Token.{Token}
use Rattle.sql_tree.specs.declared.term.NameTree.{NameTree}
use Rattle.sql_tree.specs.declared.term.TermTree.{TermTree}
use Rattle.sql_tree.specs.declared.term.TermTree.TheVariants.{Column, Number, Text, Null}
use Rattle.sql_parse.specs.grammar.Words.{AS, NULL}
use Rattle.sql_parse.specs.inner.readers.Tokens.{Read, found, and_then, is_word, is_comma, is_open, is_close, is_dot, is_plus, is_name, at_head, expect, place_before, read_after, read_separated}

-- a name
unfoldable pub name_from : Kind → Span → List Token → Read NameTree
name_from (kind.Name text quoted) at rest = found (record { text = text; span = at }) rest
name_from _ at rest = None

unfoldable pub read_name : List Token → Read NameTree
read_name [] = None
read_name (t ∷ rest) = name_from t.kind t.span rest

-- names in parentheses
unfoldable pub read_names : List Token → Read (List NameTree)
read_names tokens =
    and_then (expect is_open tokens) (λ t rest. and_then (read_separated is_comma read_name rest) (λ names left. and_then (expect is_close left) (λ u after. found names after)))

-- [ [ AS ] name ]
unfoldable pub read_alias : List Token → Read (Option NameTree)
read_alias tokens =
    if at_head (is_word AS) tokens
    then and_then (read_after (is_word AS) read_name tokens) (λ name rest. found (Some name) rest)
    else if at_head is_name tokens then and_then (read_name tokens) (λ name rest. found (Some name) rest) else found None tokens

-- a number, which has no sign, and its place
unfoldable pub number_from : Kind → Span → List Token → Read (ℤ × Span)
number_from (kind.Number value) at rest = if int_le (pos 0) value then found (value, at) rest else None
number_from _ at rest = None

unfoldable pub read_number : List Token → Read (ℤ × Span)
read_number [] = None
read_number (t ∷ rest) = number_from t.kind t.span rest

-- + or - and a number
unfoldable pub signed_from : Kind → List Token → Read ℤ
signed_from (kind.Sign Plus) rest = and_then (read_number rest) (λ n left. found n.0 left)
signed_from (kind.Sign Minus) rest = and_then (read_number rest) (λ n left. found (neg_ℤ n.0) left)
signed_from _ rest = None

unfoldable pub read_signed : List Token → Read ℤ
read_signed [] = None
read_signed (t ∷ rest) = signed_from t.kind rest

-- a literal
unfoldable pub literal_from : Kind → Span → List Token → List Token → Read TermTree
literal_from (kind.Number value) at tokens rest = and_then (read_number tokens) (λ n left. found (Number n.0 n.1) left)
literal_from (kind.Text text) at tokens rest = found (Text text at) rest
literal_from (kind.Sign s) at tokens rest = and_then (read_signed tokens) (λ value left. found (Number value (place_before tokens left)) left)
literal_from _ at tokens rest = None

unfoldable pub read_literal : List Token → Read TermTree
read_literal [] = None
read_literal (t ∷ rest) = literal_from t.kind t.span (t ∷ rest) rest

-- a value
unfoldable pub read_value : List Token → Read TermTree
read_value tokens =
    if at_head (is_word NULL) tokens then and_then (expect (is_word NULL) tokens) (λ t rest. found (Null t.span) rest) else read_literal tokens

-- [ name "." ] name
abbrev pub Named : Type 0
Named = Option NameTree × NameTree

unfoldable pub column_after : NameTree → List Token → Read Named
column_after first rest =
    if at_head is_dot rest then and_then (read_after is_dot read_name rest) (λ name left. found (Some first, name) left) else found (None, first) rest

unfoldable pub read_column : List Token → Read Named
read_column tokens = and_then (read_name tokens) column_after

-- a column to which nothing is added
unfoldable pub read_bare : List Token → Read TermTree
read_bare tokens = and_then (read_column tokens) (λ c left. found (Column c.0 c.1 (pos 0) (place_before tokens left)) left)

-- a term
unfoldable pub term_after : List Token → Named → List Token → Read TermTree
term_after tokens c rest =
    if at_head is_plus rest
    then and_then (read_signed rest) (λ added left. found (Column c.0 c.1 added (place_before tokens left)) left)
    else found (Column c.0 c.1 (pos 0) (place_before tokens rest)) rest

unfoldable pub read_term : List Token → Read TermTree
read_term tokens = if at_head is_name tokens then and_then (read_column tokens) (term_after tokens) else read_value tokens
