-- Predicates without a subquery (ISO/IEC 9075:1992, 8.2, 8.3, 8.4 and 8.6). The place of a predicate runs
-- from its first to its last token.
use Rattle.std.specs.Prelude.{◌≡◌, Bool, true, false, List, [], ◌∷◌, ◌++◌}
use Rattle.lint_base.specs.declared.place.Span.{Span}
use Rattle.lint_tables.specs.declared.op.Op.{Op}
use Rattle.sql_lex.specs.declared.token.Sign.TheVariants.{Open, Close, Compare as Operator}
use Rattle.sql_lex.specs.declared.token.Token.{Token}
use Rattle.sql_tree.specs.declared.term.TermTree.{TermTree}
use Rattle.sql_tree.specs.declared.select.CondTree.{CondTree}
use Rattle.sql_tree.specs.declared.select.CondTree.TheVariants.{Compare, IsNull, Between, InList}
use Rattle.sql_parse.specs.grammar.Words.{word, sign, span_of, AND, BETWEEN, IN, IS, NOT, NULL}
use Rattle.sql_parse.specs.grammar.Lists.{SpellsList}
use Rattle.sql_parse.specs.grammar.Terms.{SpellsTerm, SpellsValue}

-- [ NOT ], which makes a predicate negated
abbrev pub SpellsNot : Bool → List Token → Type 0
SpellsNot false tokens = tokens ≡ []
SpellsNot true tokens = (at : Span) × (tokens ≡ word NOT at ∷ [])

-- term op term
pub record SpellsCompare (tree : CondTree) (tokens : List Token) : Type 0 where
  pub op : Op
  pub left : TermTree
  pub right : TermTree
  pub tree_is : tree ≡ Compare op left right (span_of tokens)
  pub before : List Token
  pub op_at : Span
  pub after : List Token
  pub whole : tokens ≡ before ++ sign (Operator op) op_at ∷ after
  pub left_term : SpellsTerm left before
  pub right_term : SpellsTerm right after

-- term IS [ NOT ] NULL
pub record SpellsIsNull (tree : CondTree) (tokens : List Token) : Type 0 where
  pub term : TermTree
  pub negated : Bool
  pub tree_is : tree ≡ IsNull term negated (span_of tokens)
  pub own : List Token
  pub is_at : Span
  pub not_word : List Token
  pub null_at : Span
  pub whole : tokens ≡ own ++ (word IS is_at ∷ not_word ++ word NULL null_at ∷ [])
  pub own_term : SpellsTerm term own
  pub negation : SpellsNot negated not_word

-- term [ NOT ] BETWEEN term AND term
pub record SpellsBetween (tree : CondTree) (tokens : List Token) : Type 0 where
  pub term : TermTree
  pub low : TermTree
  pub high : TermTree
  pub negated : Bool
  pub tree_is : tree ≡ Between term low high negated (span_of tokens)
  pub own : List Token
  pub not_word : List Token
  pub between_at : Span
  pub lower : List Token
  pub and_at : Span
  pub upper : List Token
  pub whole : tokens ≡ own ++ (not_word ++ (word BETWEEN between_at ∷ lower ++ word AND and_at ∷ upper))
  pub own_term : SpellsTerm term own
  pub negation : SpellsNot negated not_word
  pub low_term : SpellsTerm low lower
  pub high_term : SpellsTerm high upper

-- term [ NOT ] IN "(" value { "," value } ")"
pub record SpellsInList (tree : CondTree) (tokens : List Token) : Type 0 where
  pub term : TermTree
  pub values : List TermTree
  pub negated : Bool
  pub tree_is : tree ≡ InList term values negated (span_of tokens)
  pub own : List Token
  pub not_word : List Token
  pub in_at : Span
  pub open_at : Span
  pub listed : List Token
  pub close_at : Span
  pub whole : tokens ≡ own ++ (not_word ++ (word IN in_at ∷ sign Open open_at ∷ listed ++ sign Close close_at ∷ []))
  pub own_term : SpellsTerm term own
  pub negation : SpellsNot negated not_word
  pub values_listed : SpellsList SpellsValue values listed

-- a predicate without a subquery
pub data SpellsPredicate (tree : CondTree) (tokens : List Token) : Type 0 where
  compare : SpellsCompare tree tokens → SpellsPredicate tree tokens
  is_null : SpellsIsNull tree tokens → SpellsPredicate tree tokens
  between : SpellsBetween tree tokens → SpellsPredicate tree tokens
  in_list : SpellsInList tree tokens → SpellsPredicate tree tokens
