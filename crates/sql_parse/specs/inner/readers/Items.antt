-- The reading of what a SELECT begins with, and of the entries of FROM by themselves.
use Rattle.std.specs.Prelude.{pos, Bool, if◌then◌else◌, List, [], ◌∷◌, Option, Some, None}
use Rattle.lint_base.specs.declared.place.Span.{Span}
use Rattle.sql_lex.specs.declared.token.Token.{Token}
use Rattle.sql_tree.specs.declared.term.NameTree.{NameTree}
use Rattle.sql_tree.specs.declared.term.TermTree.{TermTree}
use Rattle.sql_tree.specs.declared.term.TermTree.TheVariants.{Column}
use Rattle.sql_tree.specs.declared.select.ItemTree.{ItemTree}
use Rattle.sql_tree.specs.declared.select.ItemTree.TheVariants.{Star, StarOf, Term}
use Rattle.sql_parse.specs.grammar.Words.{ALL, DISTINCT}
use Rattle.sql_parse.specs.inner.readers.Tokens.{Read, found, and_then, is_word, is_comma, is_dot, is_star, is_name, at_head, expect, place_before, read_separated}
use Rattle.sql_parse.specs.inner.readers.Terms.{read_name, read_alias, read_literal}

-- [ ALL | DISTINCT ], of a scalar subquery [ ALL ]
unfoldable pub read_quantifier : Bool → List Token → Read (Option Span)
read_quantifier scalar tokens =
    if at_head (is_word DISTINCT) tokens
    then (if scalar then None else and_then (expect (is_word DISTINCT) tokens) (λ t rest. found (Some t.span) rest))
    else if at_head (is_word ALL) tokens then and_then (expect (is_word ALL) tokens) (λ t rest. found None rest) else found None tokens

-- [ [ AS ] name ] after a term
unfoldable pub item_after : List Token → TermTree → List Token → Read ItemTree
item_after tokens term rest = and_then (read_alias rest) (λ alias left. found (Term term alias) left)

-- after a name and a dot: * or the name of a column
unfoldable pub dotted_item : List Token → NameTree → List Token → Read ItemTree
dotted_item tokens table rest =
    if at_head is_star rest
    then and_then (expect is_star rest) (λ t left. found (StarOf table t.span) left)
    else and_then (read_name rest) (λ name left. item_after tokens (Column (Some table) name (pos 0) (place_before tokens left)) left)

unfoldable pub named_item : List Token → NameTree → List Token → Read ItemTree
named_item tokens name rest =
    if at_head is_dot rest
    then and_then (expect is_dot rest) (λ t left. dotted_item tokens name left)
    else item_after tokens (Column None name (pos 0) (place_before tokens rest)) rest

-- an item
unfoldable pub read_item : List Token → Read ItemTree
read_item tokens = if at_head is_name tokens then and_then (read_name tokens) (named_item tokens) else and_then (read_literal tokens) (item_after tokens)

-- the items
unfoldable pub read_items : List Token → Read (List ItemTree)
read_items tokens = if at_head is_star tokens then and_then (expect is_star tokens) (λ t rest. found (Star t.span ∷ []) rest) else read_separated is_comma read_item tokens

-- an entry
abbrev pub Entry : Type 0
Entry = NameTree × Option NameTree

unfoldable pub read_entry : List Token → Read Entry
read_entry tokens = and_then (read_name tokens) (λ table left. and_then (read_alias left) (λ alias after. found (table, alias) after))
