-- A schema: declarations of tables between semicolons, where some parts may be empty.
use Rattle.std.specs.Prelude.{◌≡◌, List, [], ◌∷◌, ◌++◌}
use Rattle.lint_base.specs.declared.place.Span.{Span}
use Rattle.sql_lex.specs.declared.token.Sign.TheVariants.{Semicolon}
use Rattle.sql_lex.specs.declared.token.Token.{Token}
use Rattle.sql_tree.specs.declared.schema.CreateTable.{CreateTable}
use Rattle.sql_parse.specs.grammar.Words.{sign}
use Rattle.sql_parse.specs.grammar.Tables.{SpellsCreate}

-- [ create ]
pub data SpellsStatement (tables : List CreateTable) (tokens : List Token) : Type 0 where
  empty : tables ≡ [] → tokens ≡ [] → SpellsStatement tables tokens
  create : (table : CreateTable) → tables ≡ table ∷ [] → SpellsCreate table tokens → SpellsStatement tables tokens

-- schema := [ create ] { ";" [ create ] }
pub data SpellsSchema : List CreateTable → List Token → Type 0 where
  last : {tables : List CreateTable} {tokens : List Token} → SpellsStatement tables tokens → SpellsSchema tables tokens
  more : {tables : List CreateTable} {tokens : List Token} (left others : List CreateTable) (own : List Token) (semicolon_at : Span) (rest : List Token) →
      tables ≡ left ++ others →
      tokens ≡ own ++ sign Semicolon semicolon_at ∷ rest →
      SpellsStatement left own →
      SpellsSchema others rest →
      SpellsSchema tables tokens
