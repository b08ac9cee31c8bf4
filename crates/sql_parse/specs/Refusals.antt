-- Which tokens are read as a query and as a schema, and why others are refused: a query is too long, parentheses
-- are too deep, or the tokens are not in the grammar, in this order.
use Rattle.std.specs.Prelude.{ℕ, suc, ◌-◌, ◌≤◌, ◌≡◌, ◌⊎◌, nat_lt, if◌then◌else◌, List, [], ◌∷◌, ◌++◌, length, Option, Some, None}
use Rattle.lint_base.specs.declared.place.Span.{Span}
use Rattle.lint_base.specs.declared.place.Fault.TheVariants.{Long, Deep, Syntax}
use Rattle.lint_base.specs.declared.place.Refusal.{Refusal}
use Rattle.lint_base.specs.declared.place.TextStop.{TextStop}
use Rattle.lint_base.specs.declared.place.TextStop.TheVariants as stop
use Rattle.sql_lex.specs.declared.token.Sign.TheVariants.{Open, Close}
use Rattle.sql_lex.specs.declared.token.Kind.{Kind}
use Rattle.sql_lex.specs.declared.token.Kind.TheVariants.{Sign}
use Rattle.sql_lex.specs.declared.token.Token.{Token}
use Rattle.sql_tree.specs.declared.schema.CreateTable.{CreateTable}
use Rattle.sql_tree.specs.declared.select.QueryTree.{QueryTree}
use Rattle.sql_parse.specs.grammar.Words.{end_of}
use Rattle.sql_parse.specs.grammar.Queries.{SpellsQuery}
use Rattle.sql_parse.specs.grammar.Schemas.{SpellsSchema}

-- so many parentheses are open behind a token, by how many are before it; a right one without an open one counts
-- as nothing
abbrev pub open_after : ℕ → Kind → ℕ
open_after opened (Sign Open) = suc opened
open_after opened (Sign Close) = opened - 1
open_after opened _ = opened

-- the first token behind which more than 32 parentheses are open
unfoldable pub deep_from : ℕ → List Token → Option Span
deep_from opened [] = None
deep_from opened (t ∷ rest) = if nat_lt 32 (open_after opened t.kind) then Some t.span else deep_from (open_after opened t.kind) rest

abbrev pub too_deep : List Token → Option Span
too_deep tokens = deep_from 0 tokens

-- the place of some token, or the empty one behind the last, 0..0 where there is none
abbrev pub IsPlace : List Token → Span → Type 0
IsPlace tokens span =
    ((before : List Token) × (t : Token) × (after : List Token) × (tokens ≡ before ++ t ∷ after) × (span ≡ t.span))
    ⊎ (span ≡ record { from = end_of 0 tokens; to = end_of 0 tokens })

-- the tokens are this query
pub record IsQuery (tokens : List Token) (query : QueryTree) : Type 0 where
  pub few : length tokens ≤ 4096
  pub shallow : too_deep tokens ≡ None
  pub spelled : SpellsQuery query tokens

-- the tokens are no query, for this cause
pub data IsNoQuery (tokens : List Token) (refusal : Refusal) : Type 0 where
  long : (before : List Token) (t : Token) (after : List Token) →
      tokens ≡ before ++ t ∷ after →
      length before ≡ 4096 →
      refusal ≡ record { fault = Long; span = t.span; count = length tokens } →
      IsNoQuery tokens refusal
  deep : (at : Span) →
      length tokens ≤ 4096 →
      too_deep tokens ≡ Some at →
      refusal ≡ record { fault = Deep; span = at; count = 0 } →
      IsNoQuery tokens refusal
  syntax : (at : Span) →
      length tokens ≤ 4096 →
      too_deep tokens ≡ None →
      ((query : QueryTree) → SpellsQuery query tokens → ⊥) →
      IsPlace tokens at →
      refusal ≡ record { fault = Syntax; span = at; count = 0 } →
      IsNoQuery tokens refusal

-- unless memory ran out, the tokens are no query, for the cause that is told
abbrev pub IsRefusedQuery : List Token → TextStop → Type 0
IsRefusedQuery tokens stop.NoMemory = Unit {0}
IsRefusedQuery tokens (stop.Refused refusal) = IsNoQuery tokens refusal

-- the tokens are this schema
pub record IsSchema (tokens : List Token) (tables : List CreateTable) : Type 0 where
  pub shallow : too_deep tokens ≡ None
  pub spelled : SpellsSchema tables tokens

-- the tokens are no schema, for this cause
pub data IsNoSchema (tokens : List Token) (refusal : Refusal) : Type 0 where
  deep : (at : Span) →
      too_deep tokens ≡ Some at →
      refusal ≡ record { fault = Deep; span = at; count = 0 } →
      IsNoSchema tokens refusal
  syntax : (at : Span) →
      too_deep tokens ≡ None →
      ((tables : List CreateTable) → SpellsSchema tables tokens → ⊥) →
      IsPlace tokens at →
      refusal ≡ record { fault = Syntax; span = at; count = 0 } →
      IsNoSchema tokens refusal

abbrev pub IsRefusedSchema : List Token → TextStop → Type 0
IsRefusedSchema tokens stop.NoMemory = Unit {0}
IsRefusedSchema tokens (stop.Refused refusal) = IsNoSchema tokens refusal
