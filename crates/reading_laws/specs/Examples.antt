-- Worked examples: tokens and the tree that they spell.
use Rattle.std.specs.Prelude.{ℕ, pos, true, false, List, [], ◌∷◌, Some, None, codes}
use Rattle.lint_base.specs.declared.place.Span.{Span}
use Rattle.lint_tables.specs.declared.op.Op.TheVariants.{Eq, Lt, Gt, Ge}
use Rattle.sql_lex.specs.declared.token.Sign.TheVariants.{Open, Close, Comma, Dot, Semicolon, Plus, Star as Asterisk, Compare as Operator}
use Rattle.sql_lex.specs.declared.token.Token.{Token}
use Rattle.sql_tree.specs.declared.term.NameTree.{NameTree}
use Rattle.sql_tree.specs.declared.term.TermTree.{TermTree}
use Rattle.sql_tree.specs.declared.term.TermTree.TheVariants.{Column, Number, Null}
use Rattle.sql_tree.specs.declared.select.ItemTree.TheVariants.{Star, Term}
use Rattle.sql_tree.specs.declared.select.OrderTree.TheVariants.{Place}
use Rattle.sql_tree.specs.declared.select.QueryTree.{QueryTree}
use Rattle.sql_tree.specs.declared.select.SelectTree.{SelectTree}
use Rattle.sql_tree.specs.declared.select.CondTree.{CondTree}
use Rattle.sql_tree.specs.declared.select.CondTree.TheVariants.{And, Or, Not, Compare, Scalar, IsNull, InList, Exists}
use Rattle.sql_tree.specs.declared.schema.TypeTree.TheVariants as type
use Rattle.sql_tree.specs.declared.schema.RuleTree.TheVariants as rule
use Rattle.sql_tree.specs.declared.schema.Element.TheVariants as element
use Rattle.sql_tree.specs.declared.schema.CreateTable.{CreateTable}
use Rattle.sql_parse.specs.grammar.Words.{word, called, sign, number, text, ALL, AND, AS, BY, CHECK, CONSTRAINT, CREATE, DISTINCT, EXISTS, FOREIGN, FROM, IN, IS, JOIN, NOT, NULL, ON, OR, ORDER, PRIMARY, REFERENCES, SELECT, TABLE, WHERE}
use Rattle.sql_parse.specs.grammar.Selects.{select_tree, entry_tree}

abbrev pub at : ℕ → ℕ → Span
at from to = record { from = from; to = to }

abbrev pub name : List ℕ → ℕ → ℕ → NameTree
name characters from to = record { text = characters; span = at from to }

-- a column by its name alone, and a number without a sign
abbrev pub column : List ℕ → ℕ → ℕ → TermTree
column characters from to = Column None (name characters from to) (pos 0) (at from to)

abbrev pub integer : ℕ → ℕ → ℕ → TermTree
integer value from to = Number (pos value) (at from to)

-- a = 1 OR b = 2 AND NOT c IS NULL
abbrev pub or_tokens : List Token
or_tokens =
    called (codes "A") (at 0 1) ∷ sign (Operator Eq) (at 2 3) ∷ number 1 (at 4 5) ∷ word OR (at 6 8)
    ∷ called (codes "B") (at 9 10) ∷ sign (Operator Eq) (at 11 12) ∷ number 2 (at 13 14) ∷ word AND (at 15 18)
    ∷ word NOT (at 19 22) ∷ called (codes "C") (at 23 24) ∷ word IS (at 25 27) ∷ word NULL (at 28 32) ∷ []

abbrev pub or_tree : CondTree
or_tree =
    Or
    (Compare Eq (column (codes "A") 0 1) (integer 1 4 5) (at 0 5)
    ∷ And
    (Compare Eq (column (codes "B") 9 10) (integer 2 13 14) (at 9 14)
    ∷ Not (IsNull (column (codes "C") 23 24) false (at 23 32))
    ∷ [])
    ∷ [])

-- (a = 1), with and without its parentheses
abbrev pub equation_tokens : List Token
equation_tokens = called (codes "A") (at 1 2) ∷ sign (Operator Eq) (at 3 4) ∷ number 1 (at 5 6) ∷ []

abbrev pub parenthesized_tokens : List Token
parenthesized_tokens =
    sign Open (at 0 1) ∷ called (codes "A") (at 1 2) ∷ sign (Operator Eq) (at 3 4) ∷ number 1 (at 5 6)
    ∷ sign Close (at 6 7) ∷ []

abbrev pub equation_tree : CondTree
equation_tree = Compare Eq (column (codes "A") 1 2) (integer 1 5 6) (at 1 6)

-- a NOT IN (1, NULL)
abbrev pub not_in_tokens : List Token
not_in_tokens =
    called (codes "A") (at 0 1) ∷ word NOT (at 2 5) ∷ word IN (at 6 8) ∷ sign Open (at 9 10) ∷ number 1 (at 10 11)
    ∷ sign Comma (at 11 12) ∷ word NULL (at 13 17) ∷ sign Close (at 17 18) ∷ []

abbrev pub not_in_tree : CondTree
not_in_tree = InList (column (codes "A") 0 1) (integer 1 10 11 ∷ Null (at 13 17) ∷ []) true (at 0 18)

-- x.a + 3 < b
abbrev pub sum_tokens : List Token
sum_tokens =
    called (codes "X") (at 0 1) ∷ sign Dot (at 1 2) ∷ called (codes "A") (at 2 3) ∷ sign Plus (at 4 5)
    ∷ number 3 (at 6 7) ∷ sign (Operator Lt) (at 8 9) ∷ called (codes "B") (at 10 11) ∷ []

abbrev pub sum_tree : CondTree
sum_tree =
    Compare Lt (Column (Some (name (codes "X") 0 1)) (name (codes "A") 2 3) (pos 3) (at 0 7)) (column (codes "B") 10 11) (at 0 11)

-- EXISTS (SELECT * FROM t)
abbrev pub exists_tokens : List Token
exists_tokens =
    word EXISTS (at 0 6) ∷ sign Open (at 7 8) ∷ word SELECT (at 8 14) ∷ sign Asterisk (at 15 16) ∷ word FROM (at 17 21)
    ∷ called (codes "T") (at 22 23) ∷ sign Close (at 23 24) ∷ []

abbrev pub exists_tree : CondTree
exists_tree =
    Exists (select_tree None (Star (at 15 16) ∷ []) (entry_tree (name (codes "T") 22 23) None None 0 ∷ []) None (at 7 24)) (at 0 24)

-- a >= (SELECT ALL b FROM t)
abbrev pub scalar_tokens : List Token
scalar_tokens =
    called (codes "A") (at 0 1) ∷ sign (Operator Ge) (at 2 4) ∷ sign Open (at 5 6) ∷ word SELECT (at 6 12)
    ∷ word ALL (at 13 16) ∷ called (codes "B") (at 17 18) ∷ word FROM (at 19 23) ∷ called (codes "T") (at 24 25)
    ∷ sign Close (at 25 26) ∷ []

abbrev pub scalar_select : SelectTree
scalar_select = select_tree None (Term (column (codes "B") 17 18) None ∷ []) (entry_tree (name (codes "T") 24 25) None None 0 ∷ []) None (at 5 26)

abbrev pub scalar_tree : CondTree
scalar_tree = Scalar Ge (column (codes "A") 0 1) scalar_select (at 0 26)

-- SELECT DISTINCT a AS x FROM t u JOIN v ON u.a = v.b, w WHERE a > 1 ORDER BY 1 DESC
abbrev pub query_tokens : List Token
query_tokens =
    word SELECT (at 0 6) ∷ word DISTINCT (at 7 15) ∷ called (codes "A") (at 16 17) ∷ word AS (at 18 20)
    ∷ called (codes "X") (at 21 22) ∷ word FROM (at 23 27) ∷ called (codes "T") (at 28 29) ∷ called (codes "U") (at 30 31)
    ∷ word JOIN (at 32 36) ∷ called (codes "V") (at 37 38) ∷ word ON (at 39 41) ∷ called (codes "U") (at 42 43)
    ∷ sign Dot (at 43 44) ∷ called (codes "A") (at 44 45) ∷ sign (Operator Eq) (at 46 47) ∷ called (codes "V") (at 48 49)
    ∷ sign Dot (at 49 50) ∷ called (codes "B") (at 50 51) ∷ sign Comma (at 51 52) ∷ called (codes "W") (at 53 54)
    ∷ word WHERE (at 55 60) ∷ called (codes "A") (at 61 62) ∷ sign (Operator Gt) (at 63 64) ∷ number 1 (at 65 66)
    ∷ word ORDER (at 67 72) ∷ word BY (at 73 75) ∷ number 1 (at 76 77) ∷ called (codes "DESC") (at 78 82) ∷ []

abbrev pub join_tree : CondTree
join_tree =
    Compare Eq
    (Column (Some (name (codes "U") 42 43)) (name (codes "A") 44 45) (pos 0) (at 42 45))
    (Column (Some (name (codes "V") 48 49)) (name (codes "B") 50 51) (pos 0) (at 48 51))
    (at 42 51)

abbrev pub filter_tree : CondTree
filter_tree = Compare Gt (column (codes "A") 61 62) (integer 1 65 66) (at 61 66)

abbrev pub query_tree : QueryTree
query_tree = record {
  select =
      select_tree
      (Some (at 7 15))
      (Term (column (codes "A") 16 17) (Some (name (codes "X") 21 22)) ∷ [])
      (entry_tree (name (codes "T") 28 29) (Some (name (codes "U") 30 31)) None 0
      ∷ entry_tree (name (codes "V") 37 38) None (Some join_tree) 0
      ∷ entry_tree (name (codes "W") 53 54) None None 2
      ∷ [])
      (Some filter_tree)
      (at 0 82);
  order = Place (pos 1) (at 76 77) ∷ [];
}

-- CREATE TABLE t (a INTEGER PRIMARY KEY, b CHAR(3) DEFAULT 'x' NOT NULL, CHECK (a > 0),
-- CONSTRAINT k FOREIGN KEY (b) REFERENCES s (c) ON DELETE CASCADE)
abbrev pub table_tokens : List Token
table_tokens =
    word CREATE (at 0 6) ∷ word TABLE (at 7 12) ∷ called (codes "T") (at 13 14) ∷ sign Open (at 15 16)
    ∷ called (codes "A") (at 16 17) ∷ called (codes "INTEGER") (at 18 25) ∷ word PRIMARY (at 26 33)
    ∷ called (codes "KEY") (at 34 37) ∷ sign Comma (at 37 38) ∷ called (codes "B") (at 39 40)
    ∷ called (codes "CHAR") (at 41 45) ∷ sign Open (at 45 46) ∷ number 3 (at 46 47) ∷ sign Close (at 47 48)
    ∷ called (codes "DEFAULT") (at 49 56) ∷ text (codes "x") (at 57 60) ∷ word NOT (at 61 64) ∷ word NULL (at 65 69)
    ∷ sign Comma (at 69 70) ∷ word CHECK (at 71 76) ∷ sign Open (at 77 78) ∷ called (codes "A") (at 78 79)
    ∷ sign (Operator Gt) (at 80 81) ∷ number 0 (at 82 83) ∷ sign Close (at 83 84) ∷ sign Comma (at 84 85)
    ∷ word CONSTRAINT (at 86 96) ∷ called (codes "K") (at 97 98) ∷ word FOREIGN (at 99 106) ∷ called (codes "KEY") (at 107 110)
    ∷ sign Open (at 111 112) ∷ called (codes "B") (at 112 113) ∷ sign Close (at 113 114) ∷ word REFERENCES (at 115 125)
    ∷ called (codes "S") (at 126 127) ∷ sign Open (at 128 129) ∷ called (codes "C") (at 129 130) ∷ sign Close (at 130 131)
    ∷ word ON (at 132 134) ∷ called (codes "DELETE") (at 135 141) ∷ called (codes "CASCADE") (at 142 149)
    ∷ sign Close (at 149 150) ∷ []

abbrev pub check_tree : CondTree
check_tree = Compare Gt (column (codes "A") 78 79) (integer 0 82 83) (at 78 83)

abbrev pub table_tree : CreateTable
table_tree = record {
  name = name (codes "T") 13 14;
  elements =
      element.Column (name (codes "A") 16 17) type.Integer (rule.Primary (name (codes "A") 16 17 ∷ []) (at 26 33) ∷ [])
      ∷ element.Column (name (codes "B") 39 40) (type.Text (pos 3) (at 46 47)) (rule.NotNull ∷ [])
      ∷ element.Rule (rule.Check check_tree)
      ∷ element.Rule (rule.Foreign (name (codes "B") 112 113 ∷ []) (name (codes "S") 126 127) (name (codes "C") 129 130 ∷ []) (at 99 130))
      ∷ [];
}

-- ; CREATE TABLE t (a CHAR REFERENCES s);
abbrev pub schema_tokens : List Token
schema_tokens =
    sign Semicolon (at 0 1) ∷ word CREATE (at 2 8) ∷ word TABLE (at 9 14) ∷ called (codes "T") (at 15 16)
    ∷ sign Open (at 17 18) ∷ called (codes "A") (at 18 19) ∷ called (codes "CHAR") (at 20 24) ∷ word REFERENCES (at 25 35)
    ∷ called (codes "S") (at 36 37) ∷ sign Close (at 37 38) ∷ sign Semicolon (at 38 39) ∷ []

abbrev pub schema_trees : List CreateTable
schema_trees =
    record {
      name = name (codes "T") 15 16;
      elements =
          element.Column
          (name (codes "A") 18 19)
          (type.Text (pos 1) (at 20 24))
          (rule.Foreign (name (codes "A") 18 19 ∷ []) (name (codes "S") 36 37) [] (at 25 37) ∷ [])
          ∷ [];
    }
    ∷ []

-- NOT NOT a = 1, which no condition spells
abbrev pub not_not_tokens : List Token
not_not_tokens =
    word NOT (at 0 3) ∷ word NOT (at 4 7) ∷ called (codes "A") (at 8 9) ∷ sign (Operator Eq) (at 10 11) ∷ number 1 (at 12 13) ∷ []
