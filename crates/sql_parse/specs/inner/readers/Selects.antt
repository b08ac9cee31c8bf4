-- The reading of conditions and SELECTs. Where `flat` no subquery is read. The depth is more than that to which
-- conditions are nested.
use Rattle.std.specs.Prelude.{ℕ, zero, suc, Bool, true, false, if◌then◌else◌, List, ◌∷◌, ◌++◌, length, Option, Some, None}
use Rattle.lint_base.specs.declared.place.Span.{Span}
use Rattle.sql_lex.specs.declared.token.Kind.{Kind}
use Rattle.sql_lex.specs.declared.token.Token.{Token}
use Rattle.sql_tree.specs.declared.select.ItemTree.{ItemTree}
use Rattle.sql_tree.specs.declared.select.EntryTree.{EntryTree}
use Rattle.sql_tree.specs.declared.select.SelectTree.{SelectTree}
use Rattle.sql_tree.specs.declared.select.CondTree.{CondTree}
use Rattle.sql_tree.specs.declared.select.CondTree.TheVariants.{And, Or, Not, Exists}
use Rattle.sql_parse.specs.grammar.Words.{AND, CROSS, EXISTS, FROM, INNER, JOIN, NOT, ON, OR, SELECT, WHERE}
use Rattle.sql_parse.specs.grammar.Selects.{alone_or, select_tree, entry_tree}
use Rattle.sql_parse.specs.inner.readers.Tokens.{Read, found, and_then, is_word, is_comma, is_open, is_close, at_head, expect, place_before, read_parts, read_alone, read_after, read_separated}
use Rattle.sql_parse.specs.inner.readers.Predicates.{read_predicate}
use Rattle.sql_parse.specs.inner.readers.Items.{read_quantifier, read_items, read_entry}

-- what a SELECT has beside its place
abbrev pub Parts : Type 0
Parts = Option Span × List ItemTree × List EntryTree × Option CondTree

abbrev pub placed : Parts → Span → SelectTree
placed parts span = select_tree parts.0 parts.1 parts.2 parts.3 span

-- what a join begins with
unfoldable pub is_join : Kind → Bool
is_join k = if is_word CROSS k then true else if is_word JOIN k then true else is_word INNER k

-- [ INNER ]
unfoldable pub without_inner : List Token → Read Bool
without_inner tokens = if at_head (is_word INNER) tokens then and_then (expect (is_word INNER) tokens) (λ t rest. found true rest) else found false tokens

-- the readings over the reading of a whole condition
module _ (flat : Bool) (self : List Token → Read CondTree) where
  unfoldable pub cross_joined : ℕ → List Token → Read EntryTree
  cross_joined first tokens =
      and_then (expect (is_word CROSS) tokens) (λ t rest. and_then (read_after (is_word JOIN) read_entry rest) (λ entry left. found (entry_tree entry.0 entry.1 None first) left))

  unfoldable pub inner_joined : ℕ → List Token → Read EntryTree
  inner_joined first tokens =
      and_then (without_inner tokens) (λ inner rest. and_then (read_after (is_word JOIN) read_entry rest) (λ entry left. and_then (read_after (is_word ON) self left) (λ tree after.
      found (entry_tree entry.0 entry.1 (Some tree) first) after)))

  unfoldable pub read_join : ℕ → List Token → Read EntryTree
  read_join first tokens = if at_head (is_word CROSS) tokens then cross_joined first tokens else inner_joined first tokens

  -- an entry with its joins
  unfoldable pub read_group : ℕ → List Token → Read (List EntryTree)
  read_group first tokens =
      and_then (read_entry tokens) (λ entry left. and_then (read_parts (at_head is_join) (read_alone (read_join first)) 1 left) (λ others after.
      found (entry_tree entry.0 entry.1 None first ∷ others) after))

  unfoldable pub read_groups : List Token → Read (List EntryTree)
  read_groups tokens =
      and_then (read_group 0 tokens) (λ group left.
      and_then (read_parts (at_head is_comma) (λ first. read_after is_comma (read_group first)) (length group) left) (λ others after. found (group ++ others) after))

  unfoldable pub read_where : List Token → Read (Option CondTree)
  read_where tokens = if at_head (is_word WHERE) tokens then and_then (read_after (is_word WHERE) self tokens) (λ tree rest. found (Some tree) rest) else found None tokens

  unfoldable pub read_select : Bool → List Token → Read Parts
  read_select scalar tokens =
      and_then (expect (is_word SELECT) tokens) (λ t at_quantifier. and_then (read_quantifier scalar at_quantifier) (λ distinct at_items. and_then (read_items at_items) (λ items at_from.
      and_then (read_after (is_word FROM) read_groups at_from) (λ entries at_where. and_then (read_where at_where) (λ filter rest. found (distinct, items, entries, filter) rest)))))

  unfoldable pub read_subquery : Bool → List Token → Read SelectTree
  read_subquery scalar tokens =
      if flat
      then None
      else and_then (read_after is_open (read_select scalar) tokens) (λ parts left. and_then (expect is_close left) (λ t after. found (placed parts (place_before tokens after)) after))

  unfoldable pub read_parenthesized : List Token → Read CondTree
  read_parenthesized tokens = and_then (read_after is_open self tokens) (λ tree left. and_then (expect is_close left) (λ t after. found tree after))

  unfoldable pub read_exists : List Token → Read CondTree
  read_exists tokens = and_then (read_after (is_word EXISTS) (read_subquery false) tokens) (λ select rest. found (Exists select (place_before tokens rest)) rest)

  unfoldable pub read_primary : List Token → Read CondTree
  read_primary tokens =
      if at_head is_open tokens
      then read_parenthesized tokens
      else if at_head (is_word EXISTS) tokens then read_exists tokens else read_predicate read_subquery tokens

  unfoldable pub read_factor : List Token → Read CondTree
  read_factor tokens = if at_head (is_word NOT) tokens then and_then (read_after (is_word NOT) read_primary tokens) (λ inner rest. found (Not inner) rest) else read_primary tokens

  unfoldable pub read_conjunction : List Token → Read CondTree
  read_conjunction tokens = and_then (read_separated (is_word AND) read_factor tokens) (λ parts rest. found (alone_or And parts) rest)

  unfoldable pub read_disjunction : List Token → Read CondTree
  read_disjunction tokens = and_then (read_separated (is_word OR) read_conjunction tokens) (λ parts rest. found (alone_or Or parts) rest)

-- a whole condition
unfoldable pub read_cond : Bool → ℕ → List Token → Read CondTree
read_cond flat zero tokens = None
read_cond flat (suc depth) tokens = read_disjunction flat (read_cond flat depth) tokens
