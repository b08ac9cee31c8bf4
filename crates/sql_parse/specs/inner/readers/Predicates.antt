-- The reading of predicates, from a reading of the subqueries. The tokens are those from the predicate's first on.
use Rattle.std.specs.Prelude.{Bool, true, false, if◌then◌else◌, List, [], ◌∷◌, None}
use Rattle.lint_tables.specs.declared.op.Op.{Op}
use Rattle.sql_lex.specs.declared.token.Sign.TheVariants.{Compare as Operator}
use Rattle.sql_lex.specs.declared.token.Kind.{Kind}
use Rattle.sql_lex.specs.declared.token.Kind.TheVariants as kind
use Rattle.sql_lex.specs.declared.token.Token.{Token}
use Rattle.sql_tree.specs.declared.term.TermTree.{TermTree}
use Rattle.sql_tree.specs.declared.select.SelectTree.{SelectTree}
use Rattle.sql_tree.specs.declared.select.CondTree.{CondTree}
use Rattle.sql_tree.specs.declared.select.CondTree.TheVariants.{Compare, IsNull, Between, InList, InSelect, Scalar}
use Rattle.sql_parse.specs.grammar.Words.{AND, BETWEEN, IN, IS, NOT, NULL, SELECT}
use Rattle.sql_parse.specs.inner.readers.Tokens.{Read, found, and_then, is_word, is_comma, is_open, is_close, at_head, expect, place_before, read_separated}
use Rattle.sql_parse.specs.inner.readers.Terms.{read_term, read_value}

-- [ NOT ]
unfoldable pub read_not : List Token → Read Bool
read_not tokens = if at_head (is_word NOT) tokens then and_then (expect (is_word NOT) tokens) (λ t rest. found true rest) else found false tokens

-- the reading of a subquery in parentheses, where true a scalar one
module _ (sub : Bool → List Token → Read SelectTree) (tokens : List Token) (term : TermTree) where
  -- after the operator
  unfoldable pub comparison_rest : Op → List Token → Read CondTree
  comparison_rest op rest =
      if at_head is_open rest
      then and_then (sub true rest) (λ select left. found (Scalar op term select (place_before tokens left)) left)
      else and_then (read_term rest) (λ right left. found (Compare op term right (place_before tokens left)) left)

  -- after IS
  unfoldable pub null_rest : List Token → Read CondTree
  null_rest rest = and_then (read_not rest) (λ negated left. and_then (expect (is_word NULL) left) (λ t after. found (IsNull term negated (place_before tokens after)) after))

  -- after BETWEEN
  unfoldable pub between_rest : Bool → List Token → Read CondTree
  between_rest negated rest =
      and_then (read_term rest) (λ low left. and_then (expect (is_word AND) left) (λ t more. and_then (read_term more) (λ high after.
      found (Between term low high negated (place_before tokens after)) after)))

  -- after IN and a parenthesis
  unfoldable pub values_rest : Bool → List Token → Read CondTree
  values_rest negated rest =
      and_then (read_separated is_comma read_value rest) (λ values left. and_then (expect is_close left) (λ t after. found (InList term values negated (place_before tokens after)) after))

  unfoldable pub list_or_select : Bool → List Token → List Token → Read CondTree
  list_or_select negated from_open rest =
      if at_head (is_word SELECT) rest
      then and_then (sub false from_open) (λ select left. found (InSelect term select negated (place_before tokens left)) left)
      else values_rest negated rest

  -- after IN
  unfoldable pub in_rest : Bool → List Token → Read CondTree
  in_rest negated rest = and_then (expect is_open rest) (λ t inside. list_or_select negated rest inside)

  -- BETWEEN or IN, after NOT or not
  unfoldable pub negatable : Bool → List Token → Read CondTree
  negatable negated rest =
      if at_head (is_word BETWEEN) rest
      then and_then (expect (is_word BETWEEN) rest) (λ t left. between_rest negated left)
      else and_then (expect (is_word IN) rest) (λ t left. in_rest negated left)

  unfoldable pub predicate_from : Kind → List Token → List Token → Read CondTree
  predicate_from (kind.Sign (Operator op)) whole rest = comparison_rest op rest
  predicate_from k whole rest = if is_word IS k then null_rest rest else and_then (read_not whole) negatable

  -- after the term
  unfoldable pub predicate_rest : List Token → Read CondTree
  predicate_rest [] = None
  predicate_rest (t ∷ rest) = predicate_from t.kind (t ∷ rest) rest

unfoldable pub read_predicate : (Bool → List Token → Read SelectTree) → List Token → Read CondTree
read_predicate sub tokens = and_then (read_term tokens) (predicate_rest sub tokens)
