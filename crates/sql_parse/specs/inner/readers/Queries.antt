-- The reading of a query.
use Rattle.std.specs.Prelude.{Bool, true, false, if◌then◌else◌, List, [], length, Option, codes}
use Rattle.sql_lex.specs.declared.token.Kind.{Kind}
use Rattle.sql_lex.specs.declared.token.Token.{Token}
use Rattle.sql_tree.specs.declared.select.OrderTree.{OrderTree}
use Rattle.sql_tree.specs.declared.select.OrderTree.TheVariants.{Place, Column}
use Rattle.sql_tree.specs.declared.select.QueryTree.{QueryTree}
use Rattle.sql_parse.specs.grammar.Words.{span_of, BY, ORDER}
use Rattle.sql_parse.specs.inner.readers.Tokens.{Read, found, and_then, is_word, is_comma, is_name, is_called, at_head, expect, all_read, read_after, read_separated}
use Rattle.sql_parse.specs.inner.readers.Terms.{read_bare, read_number}
use Rattle.sql_parse.specs.inner.readers.Selects.{placed, read_select, read_cond}

unfoldable pub is_direction : Kind → Bool
is_direction k = if is_called (codes "ASC") k then true else is_called (codes "DESC") k

-- [ ASC | DESC ], after a key
unfoldable pub directed : OrderTree → List Token → Read OrderTree
directed key tokens = if at_head is_direction tokens then and_then (expect is_direction tokens) (λ t rest. found key rest) else found key tokens

unfoldable pub read_key : List Token → Read OrderTree
read_key tokens =
    if at_head is_name tokens then and_then (read_bare tokens) (λ term rest. directed (Column term) rest) else and_then (read_number tokens) (λ n rest. directed (Place n.0 n.1) rest)

-- [ ORDER BY key { "," key } ]
unfoldable pub read_order : List Token → Read (List OrderTree)
read_order tokens =
    if at_head (is_word ORDER) tokens then and_then (expect (is_word ORDER) tokens) (λ t rest. read_after (is_word BY) (read_separated is_comma read_key) rest) else found [] tokens

-- a query; the place of its SELECT runs over all tokens
unfoldable pub read_query : List Token → Read QueryTree
read_query tokens =
    and_then (read_select false (read_cond false (length tokens)) false tokens) (λ parts left. and_then (read_order left) (λ keys rest.
    found (record { select = placed parts (span_of tokens); order = keys }) rest))

-- the query that has all these tokens
unfoldable pub query_of : List Token → Option QueryTree
query_of tokens = all_read (read_query tokens)
