-- Declarations of tables (ISO/IEC 9075:1992, 11.3, 11.4 and 11.6 to 11.9).
use Rattle.std.specs.Prelude.{ℕ, pos, ◌≤◌, ◌≡◌, ◌⊎◌, Bool, true, false, List, [], ◌∷◌, ◌++◌, length, codes}
use Rattle.std.specs.List.{list_all}
use Rattle.lint_base.specs.declared.place.Span.{Span}
use Rattle.sql_lex.specs.declared.token.Sign.TheVariants.{Open, Close}
use Rattle.sql_lex.specs.declared.token.Token.{Token}
use Rattle.sql_tree.specs.declared.term.NameTree.{NameTree}
use Rattle.sql_tree.specs.declared.term.TermTree.{TermTree}
use Rattle.sql_tree.specs.declared.select.CondTree.{CondTree, fold-CondTree}
use Rattle.sql_tree.specs.declared.select.CondTree.TheOpen.{CondTree-F}
use Rattle.sql_tree.specs.declared.schema.TypeTree.{TypeTree}
use Rattle.sql_tree.specs.declared.schema.TypeTree.TheVariants.{Small, Integer, Big, Text}
use Rattle.sql_tree.specs.declared.schema.RuleTree.{RuleTree}
use Rattle.sql_tree.specs.declared.schema.RuleTree.TheVariants.{NotNull, Unique, Primary, Check, Foreign}
use Rattle.sql_tree.specs.declared.schema.Element.{Element}
use Rattle.sql_tree.specs.declared.schema.Element.TheVariants.{Column, Rule}
use Rattle.sql_tree.specs.declared.schema.CreateTable.{CreateTable}
use Rattle.sql_parse.specs.grammar.Words.{word, called, sign, number, CHECK, CONSTRAINT, CREATE, FOREIGN, NOT, NULL, ON, PRIMARY, REFERENCES, TABLE, UNIQUE}
use Rattle.sql_parse.specs.grammar.Lists.{SpellsList}
use Rattle.sql_parse.specs.grammar.Names.{name_token, SpellsNames}
use Rattle.sql_parse.specs.grammar.Terms.{SpellsValue}
use Rattle.sql_parse.specs.grammar.Selects.{SpellsCond, Disjunction}

-- one layer of a condition, from whether its parts have no subquery
abbrev pub is_flat_step : CondTree-F Bool Bool Bool → Bool
is_flat_step (CondTree-F.And parts) = list_all (λ part. part) parts
is_flat_step (CondTree-F.Or parts) = list_all (λ part. part) parts
is_flat_step (CondTree-F.Not part) = part
is_flat_step (CondTree-F.Compare op left right span) = true
is_flat_step (CondTree-F.Scalar op left select span) = false
is_flat_step (CondTree-F.IsNull term negated span) = true
is_flat_step (CondTree-F.Between term low high negated span) = true
is_flat_step (CondTree-F.InList term values negated span) = true
is_flat_step (CondTree-F.InSelect term select negated span) = false
is_flat_step (CondTree-F.Exists select span) = false

-- the condition has no subquery
abbrev pub is_flat : CondTree → Bool
is_flat = fold-CondTree Bool Bool Bool is_flat_step (λ entry. false) (λ select. false)

-- CHAR or CHARACTER
abbrev pub IsChar : List ℕ → Type 0
IsChar text = (text ≡ codes "CHAR") ⊎ (text ≡ codes "CHARACTER")

-- type := SMALLINT | INTEGER | INT | BIGINT
--       | VARCHAR "(" number ")" | ( CHAR | CHARACTER ) VARYING "(" number ")"
--       | ( CHAR | CHARACTER ) [ "(" number ")" ]
-- without a length it is 1, and its place is that of the word
pub data SpellsType (kind : TypeTree) (tokens : List Token) : Type 0 where
  smallint : (at : Span) → kind ≡ Small → tokens ≡ called (codes "SMALLINT") at ∷ [] → SpellsType kind tokens
  integer : (at : Span) → kind ≡ Integer → tokens ≡ called (codes "INTEGER") at ∷ [] → SpellsType kind tokens
  int : (at : Span) → kind ≡ Integer → tokens ≡ called (codes "INT") at ∷ [] → SpellsType kind tokens
  bigint : (at : Span) → kind ≡ Big → tokens ≡ called (codes "BIGINT") at ∷ [] → SpellsType kind tokens
  varchar : (value : ℕ) (place at open_at close_at : Span) →
      kind ≡ Text (pos value) place →
      tokens ≡ called (codes "VARCHAR") at ∷ sign Open open_at ∷ number value place ∷ sign Close close_at ∷ [] →
      SpellsType kind tokens
  varying : (value : ℕ) (place : Span) (char : List ℕ) (at varying_at open_at close_at : Span) →
      kind ≡ Text (pos value) place →
      tokens ≡ called char at ∷ called (codes "VARYING") varying_at ∷ sign Open open_at ∷ number value place ∷ sign Close close_at ∷ [] →
      IsChar char →
      SpellsType kind tokens
  fixed : (value : ℕ) (place : Span) (char : List ℕ) (at open_at close_at : Span) →
      kind ≡ Text (pos value) place →
      tokens ≡ called char at ∷ sign Open open_at ∷ number value place ∷ sign Close close_at ∷ [] →
      IsChar char →
      SpellsType kind tokens
  single : (char : List ℕ) (at : Span) →
      kind ≡ Text (pos 1) at →
      tokens ≡ called char at ∷ [] →
      IsChar char →
      SpellsType kind tokens

-- [ DEFAULT ( literal | NULL ) ], which leaves nothing
pub data SpellsDefault (tokens : List Token) : Type 0 where
  no_default : tokens ≡ [] → SpellsDefault tokens
  «default» : (term : TermTree) (at : Span) (own : List Token) → tokens ≡ called (codes "DEFAULT") at ∷ own → SpellsValue term own → SpellsDefault tokens

-- [ CONSTRAINT name ], which leaves nothing
pub data SpellsConstraint (tokens : List Token) : Type 0 where
  unnamed : tokens ≡ [] → SpellsConstraint tokens
  named : (name : NameTree) (quoted : Bool) (at : Span) → tokens ≡ word CONSTRAINT at ∷ name_token name quoted ∷ [] → SpellsConstraint tokens

-- DELETE | UPDATE
abbrev pub IsEvent : List ℕ → Type 0
IsEvent text = (text ≡ codes "DELETE") ⊎ (text ≡ codes "UPDATE")

-- CASCADE | RESTRICT | SET NULL | SET DEFAULT | NO ACTION
pub data SpellsAction (tokens : List Token) : Type 0 where
  cascade : (at : Span) → tokens ≡ called (codes "CASCADE") at ∷ [] → SpellsAction tokens
  restrict : (at : Span) → tokens ≡ called (codes "RESTRICT") at ∷ [] → SpellsAction tokens
  set_null : (at null_at : Span) → tokens ≡ called (codes "SET") at ∷ word NULL null_at ∷ [] → SpellsAction tokens
  set_default : (at default_at : Span) → tokens ≡ called (codes "SET") at ∷ called (codes "DEFAULT") default_at ∷ [] → SpellsAction tokens
  no_action : (at action_at : Span) → tokens ≡ called (codes "NO") at ∷ called (codes "ACTION") action_at ∷ [] → SpellsAction tokens

-- actions := { ON ( DELETE | UPDATE ) action }, which leave nothing
pub data SpellsActions : List Token → Type 0 where
  no_actions : {tokens : List Token} → tokens ≡ [] → SpellsActions tokens
  more_actions : {tokens : List Token} (event : List ℕ) (on_at event_at : Span) (own rest : List Token) →
      tokens ≡ word ON on_at ∷ called event event_at ∷ own ++ rest →
      IsEvent event →
      SpellsAction own →
      SpellsActions rest →
      SpellsActions tokens

-- [ names ]
abbrev pub SpellsTarget : List NameTree → List Token → Type 0
SpellsTarget [] tokens = tokens ≡ []
SpellsTarget (name ∷ names) tokens = SpellsNames (name ∷ names) tokens

-- where the last of the names ends
abbrev pub last_end : NameTree → List NameTree → ℕ
last_end name [] = name.span.to
last_end name (next ∷ names) = last_end next names

-- REFERENCES name [ names ] actions
pub record SpellsReference (table : NameTree) (target : List NameTree) (at : Span) (tokens : List Token) : Type 0 where
  pub quoted : Bool
  pub listed : List Token
  pub rest : List Token
  pub whole : tokens ≡ word REFERENCES at ∷ name_token table quoted ∷ listed ++ rest
  pub names : SpellsTarget target listed
  pub actions : SpellsActions rest

-- CHECK "(" flat ")", where flat is a condition without a subquery
pub record SpellsCheck (tree : CondTree) (tokens : List Token) : Type 0 where
  pub check_at : Span
  pub open_at : Span
  pub own : List Token
  pub close_at : Span
  pub whole : tokens ≡ word CHECK check_at ∷ sign Open open_at ∷ own ++ sign Close close_at ∷ []
  pub condition : SpellsCond Disjunction tree own
  pub flat : is_flat tree ≡ true

-- NOT NULL | NULL | UNIQUE | PRIMARY KEY | CHECK "(" flat ")" | REFERENCES name [ "(" name ")" ] actions,
-- at a column; NULL leaves nothing. The place of a foreign key ends with its last name
pub data SpellsColumnRule (column : NameTree) (rules : List RuleTree) (tokens : List Token) : Type 0 where
  not_null : (not_at null_at : Span) → rules ≡ NotNull ∷ [] → tokens ≡ word NOT not_at ∷ word NULL null_at ∷ [] → SpellsColumnRule column rules tokens
  null : (null_at : Span) → rules ≡ [] → tokens ≡ word NULL null_at ∷ [] → SpellsColumnRule column rules tokens
  unique : (at : Span) → rules ≡ Unique (column ∷ []) ∷ [] → tokens ≡ word UNIQUE at ∷ [] → SpellsColumnRule column rules tokens
  primary : (at key_at : Span) → rules ≡ Primary (column ∷ []) at ∷ [] → tokens ≡ word PRIMARY at ∷ called (codes "KEY") key_at ∷ [] → SpellsColumnRule column rules tokens
  check : (tree : CondTree) → rules ≡ Check tree ∷ [] → SpellsCheck tree tokens → SpellsColumnRule column rules tokens
  references : (table : NameTree) (target : List NameTree) (at : Span) →
      rules ≡ Foreign (column ∷ []) table target (record { from = at.from; to = last_end table target }) ∷ [] →
      length target ≤ 1 →
      SpellsReference table target at tokens →
      SpellsColumnRule column rules tokens

-- UNIQUE names | PRIMARY KEY names | CHECK "(" flat ")" | FOREIGN KEY names REFERENCES name [ names ] actions
pub data SpellsTableRule (rule : RuleTree) (tokens : List Token) : Type 0 where
  unique_names : (columns : List NameTree) (at : Span) (listed : List Token) →
      rule ≡ Unique columns →
      tokens ≡ word UNIQUE at ∷ listed →
      SpellsNames columns listed →
      SpellsTableRule rule tokens
  primary_names : (columns : List NameTree) (at key_at : Span) (listed : List Token) →
      rule ≡ Primary columns at →
      tokens ≡ word PRIMARY at ∷ called (codes "KEY") key_at ∷ listed →
      SpellsNames columns listed →
      SpellsTableRule rule tokens
  table_check : (tree : CondTree) → rule ≡ Check tree → SpellsCheck tree tokens → SpellsTableRule rule tokens
  foreign_names : (columns : List NameTree) (table : NameTree) (target : List NameTree) (at key_at references_at : Span) (listed rest : List Token) →
      rule ≡ Foreign columns table target (record { from = at.from; to = last_end table target }) →
      tokens ≡ word FOREIGN at ∷ called (codes "KEY") key_at ∷ listed ++ rest →
      SpellsNames columns listed →
      SpellsReference table target references_at rest →
      SpellsTableRule rule tokens

-- { colrule }, where colrule is a column's rule that may have a name
pub data SpellsColumnRules : NameTree → List RuleTree → List Token → Type 0 where
  no_rules : {column : NameTree} {rules : List RuleTree} {tokens : List Token} → rules ≡ [] → tokens ≡ [] → SpellsColumnRules column rules tokens
  more_rules : {column : NameTree} {rules : List RuleTree} {tokens : List Token} (left others : List RuleTree) (constraint own rest : List Token) →
      rules ≡ left ++ others →
      tokens ≡ constraint ++ (own ++ rest) →
      SpellsConstraint constraint →
      SpellsColumnRule column left own →
      SpellsColumnRules column others rest →
      SpellsColumnRules column rules tokens

-- element := name type [ default ] { colrule } | tabrule
abbrev pub SpellsElement : Element → List Token → Type 0
SpellsElement (Column name kind rules) tokens =
    (quoted : Bool) × (type_tokens : List Token) × (default_tokens : List Token) × (rest : List Token)
    × (tokens ≡ name_token name quoted ∷ type_tokens ++ (default_tokens ++ rest))
    × SpellsType kind type_tokens × SpellsDefault default_tokens × SpellsColumnRules name rules rest
SpellsElement (Rule rule) tokens = (constraint : List Token) × (own : List Token) × (tokens ≡ constraint ++ own) × SpellsConstraint constraint × SpellsTableRule rule own

-- create := CREATE TABLE name "(" element { "," element } ")"
pub record SpellsCreate (table : CreateTable) (tokens : List Token) : Type 0 where
  pub create_at : Span
  pub table_at : Span
  pub quoted : Bool
  pub open_at : Span
  pub listed : List Token
  pub close_at : Span
  pub whole : tokens ≡ word CREATE create_at ∷ word TABLE table_at ∷ name_token table.name quoted ∷ sign Open open_at ∷ listed ++ sign Close close_at ∷ []
  pub elements : SpellsList SpellsElement table.elements listed
