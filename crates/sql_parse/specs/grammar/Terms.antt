-- Literals, values, columns and terms.
use Rattle.std.specs.Prelude.{ℕ, ℤ, pos, neg_ℤ, ◌≡◌, Bool, List, [], ◌∷◌, ◌++◌, Option, Some, None}
use Rattle.lint_base.specs.declared.place.Span.{Span}
use Rattle.sql_lex.specs.declared.token.Sign.TheVariants.{Dot, Plus, Minus}
use Rattle.sql_lex.specs.declared.token.Token.{Token}
use Rattle.sql_tree.specs.declared.term.NameTree.{NameTree}
use Rattle.sql_tree.specs.declared.term.TermTree.{TermTree}
use Rattle.sql_tree.specs.declared.term.TermTree.TheVariants.{Column, Number, Text, Null}
use Rattle.sql_parse.specs.grammar.Words.{word, sign, number, text, span_of, NULL}
use Rattle.sql_parse.specs.grammar.Names.{name_token, SpellsName}

-- ( "+" | "-" ) number
pub data SpellsSigned (value : ℤ) (tokens : List Token) : Type 0 where
  plus : (at place : Span) (n : ℕ) → value ≡ pos n → tokens ≡ sign Plus at ∷ number n place ∷ [] → SpellsSigned value tokens
  minus : (at place : Span) (n : ℕ) → value ≡ neg_ℤ (pos n) → tokens ≡ sign Minus at ∷ number n place ∷ [] → SpellsSigned value tokens

-- literal := [ "+" | "-" ] number | text
pub data SpellsLiteral (term : TermTree) (tokens : List Token) : Type 0 where
  unsigned : (value : ℕ) (at : Span) → term ≡ Number (pos value) at → tokens ≡ number value at ∷ [] → SpellsLiteral term tokens
  signed : (value : ℤ) → term ≡ Number value (span_of tokens) → SpellsSigned value tokens → SpellsLiteral term tokens
  quoted : (characters : List ℕ) (at : Span) → term ≡ Text characters at → tokens ≡ text characters at ∷ [] → SpellsLiteral term tokens

-- value := literal | NULL
pub data SpellsValue (term : TermTree) (tokens : List Token) : Type 0 where
  literal : SpellsLiteral term tokens → SpellsValue term tokens
  null : (at : Span) → term ≡ Null at → tokens ≡ word NULL at ∷ [] → SpellsValue term tokens

-- column := [ name "." ] name
abbrev pub SpellsColumn : Option NameTree → NameTree → List Token → Type 0
SpellsColumn None name tokens = SpellsName name tokens
SpellsColumn (Some table) name tokens =
    (table_quoted : Bool) × (dot : Span) × (quoted : Bool) × (tokens ≡ name_token table table_quoted ∷ sign Dot dot ∷ name_token name quoted ∷ [])

-- a column to which nothing is added
pub record SpellsBareColumn (term : TermTree) (tokens : List Token) : Type 0 where
  pub table : Option NameTree
  pub name : NameTree
  pub tree : term ≡ Column table name (pos 0) (span_of tokens)
  pub column : SpellsColumn table name tokens

-- column ( "+" | "-" ) number
pub record SpellsSum (term : TermTree) (tokens : List Token) : Type 0 where
  pub table : Option NameTree
  pub name : NameTree
  pub added : ℤ
  pub own : List Token
  pub rest : List Token
  pub tree : term ≡ Column table name added (span_of tokens)
  pub whole : tokens ≡ own ++ rest
  pub column : SpellsColumn table name own
  pub sum : SpellsSigned added rest

-- term := column [ ( "+" | "-" ) number ] | value
pub data SpellsTerm (term : TermTree) (tokens : List Token) : Type 0 where
  column : SpellsBareColumn term tokens → SpellsTerm term tokens
  sum : SpellsSum term tokens → SpellsTerm term tokens
  value : SpellsValue term tokens → SpellsTerm term tokens
