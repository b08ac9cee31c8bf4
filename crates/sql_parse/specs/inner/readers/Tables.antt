-- The reading of declarations of tables. What leaves nothing in the tree is read as false.
use Rattle.std.specs.Prelude.{ℕ, pos, Bool, true, false, if◌then◌else◌, List, [], ◌∷◌, None, codes}
use Rattle.lint_base.specs.declared.place.Span.{Span}
use Rattle.sql_lex.specs.declared.token.Kind.{Kind}
use Rattle.sql_lex.specs.declared.token.Token.{Token}
use Rattle.sql_tree.specs.declared.term.NameTree.{NameTree}
use Rattle.sql_tree.specs.declared.select.CondTree.{CondTree}
use Rattle.sql_tree.specs.declared.schema.TypeTree.{TypeTree}
use Rattle.sql_tree.specs.declared.schema.TypeTree.TheVariants.{Small, Integer, Big, Text}
use Rattle.sql_tree.specs.declared.schema.RuleTree.{RuleTree}
use Rattle.sql_tree.specs.declared.schema.RuleTree.TheVariants.{NotNull, Unique, Primary, Check, Foreign}
use Rattle.sql_tree.specs.declared.schema.Element.{Element}
use Rattle.sql_tree.specs.declared.schema.Element.TheVariants.{Column, Rule}
use Rattle.sql_tree.specs.declared.schema.CreateTable.{CreateTable}
use Rattle.sql_parse.specs.grammar.Words.{CHECK, CONSTRAINT, CREATE, FOREIGN, NOT, NULL, ON, PRIMARY, REFERENCES, TABLE, UNIQUE}
use Rattle.sql_parse.specs.grammar.Tables.{last_end}
use Rattle.sql_parse.specs.inner.readers.Tokens.{Read, found, and_then, is_word, is_comma, is_open, is_close, is_name, is_called, at_head, expect, read_parts, read_after, read_separated}
use Rattle.sql_parse.specs.inner.readers.Terms.{read_name, read_names, read_number, read_value}
use Rattle.sql_parse.specs.inner.readers.Selects.{read_cond}

-- "(" number ")", as the length of a text
unfoldable pub read_length : List Token → Read TypeTree
read_length tokens = and_then (read_after is_open read_number tokens) (λ n left. and_then (expect is_close left) (λ t after. found (Text n.0 n.1) after))

-- after CHAR or CHARACTER, which has this place
unfoldable pub character_rest : Span → List Token → Read TypeTree
character_rest at rest =
    if at_head is_open rest
    then read_length rest
    else if at_head (is_called (codes "VARYING")) rest then read_after (is_called (codes "VARYING")) read_length rest else found (Text (pos 1) at) rest

unfoldable pub is_character : Kind → Bool
is_character k = if is_called (codes "CHAR") k then true else is_called (codes "CHARACTER") k

unfoldable pub is_integer : Kind → Bool
is_integer k = if is_called (codes "INTEGER") k then true else is_called (codes "INT") k

unfoldable pub type_from : Kind → Span → List Token → Read TypeTree
type_from k at rest =
    if is_called (codes "SMALLINT") k
    then found Small rest
    else if is_integer k
    then found Integer rest
    else if is_called (codes "BIGINT") k
    then found Big rest
    else if is_called (codes "VARCHAR") k then read_length rest else if is_character k then character_rest at rest else None

-- a type
unfoldable pub read_type : List Token → Read TypeTree
read_type [] = None
read_type (t ∷ rest) = type_from t.kind t.span rest

-- [ DEFAULT value ]
unfoldable pub read_default : List Token → Read Bool
read_default tokens =
    if at_head (is_called (codes "DEFAULT")) tokens
    then and_then (read_after (is_called (codes "DEFAULT")) read_value tokens) (λ value rest. found false rest)
    else found false tokens

-- [ CONSTRAINT name ]
unfoldable pub read_constraint : List Token → Read Bool
read_constraint tokens =
    if at_head (is_word CONSTRAINT) tokens then and_then (read_after (is_word CONSTRAINT) read_name tokens) (λ name rest. found false rest) else found false tokens

unfoldable pub is_event : Kind → Bool
is_event k = if is_called (codes "DELETE") k then true else is_called (codes "UPDATE") k

unfoldable pub is_plain_action : Kind → Bool
is_plain_action k = if is_called (codes "CASCADE") k then true else is_called (codes "RESTRICT") k

unfoldable pub is_set_value : Kind → Bool
is_set_value k = if is_word NULL k then true else is_called (codes "DEFAULT") k

unfoldable pub action_from : Kind → List Token → Read Bool
action_from k rest =
    if is_plain_action k
    then found false rest
    else if is_called (codes "SET") k
    then and_then (expect is_set_value rest) (λ t left. found false left)
    else if is_called (codes "NO") k then and_then (expect (is_called (codes "ACTION")) rest) (λ t left. found false left) else None

unfoldable pub read_action : List Token → Read Bool
read_action [] = None
read_action (t ∷ rest) = action_from t.kind rest

-- ON, what happens, and the action
unfoldable pub read_event : ℕ → List Token → Read (List Bool)
read_event count tokens = and_then (read_after (is_word ON) (read_after is_event read_action) tokens) (λ a rest. found [] rest)

-- the actions of a reference
unfoldable pub read_actions : List Token → Read Bool
read_actions tokens = and_then (read_parts (at_head (is_word ON)) read_event 0 tokens) (λ none rest. found false rest)

-- "(" name ")"
unfoldable pub read_one_name : List Token → Read (List NameTree)
read_one_name tokens = and_then (read_after is_open read_name tokens) (λ name left. and_then (expect is_close left) (λ t after. found (name ∷ []) after))

-- [ names ], at a column of one name
unfoldable pub read_target : Bool → List Token → Read (List NameTree)
read_target one tokens = if at_head is_open tokens then (if one then read_one_name tokens else read_names tokens) else found [] tokens

-- a reference, with what it refers to
unfoldable pub read_reference : Bool → List Token → Read (NameTree × List NameTree)
read_reference one tokens =
    and_then (read_after (is_word REFERENCES) read_name tokens) (λ table left. and_then (read_target one left) (λ target more. and_then (read_actions more) (λ a after.
    found (table, target) after)))

-- a foreign key whose rule begins at this place
abbrev pub foreign_tree : List NameTree → Span → NameTree × List NameTree → RuleTree
foreign_tree columns at r = Foreign columns r.0 r.1 (record { from = at.from; to = last_end r.0 r.1 })

-- what a rule at a column begins with
unfoldable pub begins_rule : Kind → Bool
begins_rule k =
    if is_word CONSTRAINT k
    then true
    else if is_word NOT k
    then true
    else if is_word NULL k
    then true
    else if is_word UNIQUE k
    then true
    else if is_word PRIMARY k then true else if is_word CHECK k then true else is_word REFERENCES k

-- conditions are nested to less than this depth
module _ (depth : ℕ) where
  -- CHECK "(" condition ")"
  unfoldable pub read_check : List Token → Read CondTree
  read_check tokens =
      and_then (read_after (is_word CHECK) (read_after is_open (read_cond true depth)) tokens) (λ tree left. and_then (expect is_close left) (λ t after. found tree after))

  -- the rules that a word says without more
  unfoldable pub word_rule : NameTree → Kind → Span → List Token → Read (List RuleTree)
  word_rule column k at rest =
      if is_word NOT k
      then and_then (expect (is_word NULL) rest) (λ t left. found (NotNull ∷ []) left)
      else if is_word NULL k
      then found [] rest
      else if is_word UNIQUE k
      then found (Unique (column ∷ []) ∷ []) rest
      else if is_word PRIMARY k then and_then (expect (is_called (codes "KEY")) rest) (λ t left. found (Primary (column ∷ []) at ∷ []) left) else None

  unfoldable pub column_rule_from : NameTree → Kind → Span → List Token → List Token → Read (List RuleTree)
  column_rule_from column k at tokens rest =
      if is_word CHECK k
      then and_then (read_check tokens) (λ tree left. found (Check tree ∷ []) left)
      else if is_word REFERENCES k
      then and_then (read_reference true tokens) (λ r left. found (foreign_tree (column ∷ []) at r ∷ []) left)
      else word_rule column k at rest

  -- a rule at a column: NULL leaves nothing
  unfoldable pub read_column_rule : NameTree → List Token → Read (List RuleTree)
  read_column_rule column [] = None
  read_column_rule column (t ∷ rest) = column_rule_from column t.kind t.span (t ∷ rest) rest

  unfoldable pub read_named_rule : NameTree → ℕ → List Token → Read (List RuleTree)
  read_named_rule column count tokens = and_then (read_constraint tokens) (λ c rest. read_column_rule column rest)

  unfoldable pub read_rules : NameTree → List Token → Read (List RuleTree)
  read_rules column tokens = read_parts (at_head begins_rule) (read_named_rule column) 0 tokens

  -- after KEY
  unfoldable pub read_key_names : List Token → Read (List NameTree)
  read_key_names tokens = read_after (is_called (codes "KEY")) read_names tokens

  unfoldable pub table_rule_from : Kind → Span → List Token → List Token → Read RuleTree
  table_rule_from k at tokens rest =
      if is_word UNIQUE k
      then and_then (read_names rest) (λ names left. found (Unique names) left)
      else if is_word PRIMARY k
      then and_then (read_key_names rest) (λ names left. found (Primary names at) left)
      else if is_word CHECK k
      then and_then (read_check tokens) (λ tree left. found (Check tree) left)
      else if is_word FOREIGN k
      then and_then (read_key_names rest) (λ columns left. and_then (read_reference false left) (λ r after. found (foreign_tree columns at r) after))
      else None

  -- a rule beside the columns
  unfoldable pub read_table_rule : List Token → Read RuleTree
  read_table_rule [] = None
  read_table_rule (t ∷ rest) = table_rule_from t.kind t.span (t ∷ rest) rest

  unfoldable pub read_declared_column : List Token → Read Element
  read_declared_column tokens =
      and_then (read_name tokens) (λ name at_type. and_then (read_type at_type) (λ kind at_default. and_then (read_default at_default) (λ d at_rules. and_then (read_rules name at_rules) (λ rules after.
      found (Column name kind rules) after))))

  unfoldable pub read_element : List Token → Read Element
  read_element tokens =
      if at_head is_name tokens
      then read_declared_column tokens
      else and_then (read_constraint tokens) (λ c rest. and_then (read_table_rule rest) (λ rule left. found (Rule rule) left))

  unfoldable pub read_elements : List Token → Read (List Element)
  read_elements tokens = and_then (read_after is_open (read_separated is_comma read_element) tokens) (λ elements left. and_then (expect is_close left) (λ t after. found elements after))

  unfoldable pub read_create : List Token → Read CreateTable
  read_create tokens =
      and_then (read_after (is_word CREATE) (read_after (is_word TABLE) read_name) tokens) (λ name left. and_then (read_elements left) (λ elements after.
      found (record { name = name; elements = elements }) after))
