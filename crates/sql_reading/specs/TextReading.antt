-- What a schema file and a query read as, and why they are refused. A text is read as its tokens, its tree and its
-- bound form; it is refused by the first of a lexical fault, too many tokens, too many open parentheses, tokens that
-- are not in the grammar, and the first rule that fails in binding.
use Rattle.std.specs.Prelude.{ℕ, ◌≡◌, List, slice_range, Ok, Err}
use Rattle.lint_base.specs.declared.place.Span.{Span}
use Rattle.lint_base.specs.declared.place.Refusal.{Refusal}
use Rattle.lint_core.specs.declared.schema.Table.{Table}
use Rattle.lint_core.specs.declared.query.Query.{Query}
use Rattle.sql_lex.specs.declared.token.Token.{Token}
use Rattle.sql_lex.specs.Faults.{IsFaulty}
use Rattle.sql_lex.specs.Tokens.{Spells}
use Rattle.sql_tree.specs.declared.schema.CreateTable.{CreateTable}
use Rattle.sql_tree.specs.declared.select.QueryTree.{QueryTree}
use Rattle.sql_parse.specs.Refusals.{IsQuery, IsNoQuery, IsSchema, IsNoSchema}
use Rattle.sql_bind.specs.Queries.{bind_query}
use Rattle.sql_bind.specs.Schemas.{bind_schema}

-- the text declares these tables
pub record ReadsSchema (text : List ℕ) (schema : List Table) : Type 0 where
  pub tokens : List Token
  pub trees : List CreateTable
  pub spelled : Spells 0 text tokens
  pub parsed : IsSchema tokens trees
  pub bound : bind_schema trees ≡ Ok schema

-- the text declares no schema, for this cause
pub data RefusesSchema (text : List ℕ) (refusal : Refusal) : Type 0 where
  lexical : IsFaulty 0 text refusal → RefusesSchema text refusal
  grammar : (tokens : List Token) → Spells 0 text tokens → IsNoSchema tokens refusal → RefusesSchema text refusal
  binding : (tokens : List Token) (trees : List CreateTable) →
      Spells 0 text tokens →
      IsSchema tokens trees →
      bind_schema trees ≡ Err refusal →
      RefusesSchema text refusal

-- the bytes of a piece
abbrev pub piece_text : List ℕ → Span → List ℕ
piece_text text piece = slice_range text piece.from piece.to

-- the piece is this query; nothing outside of it matters but where it begins
pub record ReadsQuery (schema : List Table) (text : List ℕ) (piece : Span) (query : Query) : Type 0 where
  pub tokens : List Token
  pub tree : QueryTree
  pub spelled : Spells piece.from (piece_text text piece) tokens
  pub parsed : IsQuery tokens tree
  pub bound : bind_query schema tree ≡ Ok query

-- the piece is no query, for this cause
pub data RefusesQuery (schema : List Table) (text : List ℕ) (piece : Span) (refusal : Refusal) : Type 0 where
  lexical : IsFaulty piece.from (piece_text text piece) refusal → RefusesQuery schema text piece refusal
  grammar : (tokens : List Token) → Spells piece.from (piece_text text piece) tokens → IsNoQuery tokens refusal → RefusesQuery schema text piece refusal
  binding : (tokens : List Token) (tree : QueryTree) →
      Spells piece.from (piece_text text piece) tokens →
      IsQuery tokens tree →
      bind_query schema tree ≡ Err refusal →
      RefusesQuery schema text piece refusal
