-- What a text reads as, and why it is refused, from what the steps of reading it answer.
use Rattle.std.proofs.Common.{◌≡◌, ℕ, ◌-◌, List, length, slice_range, Result, Ok, Err, IfOk, IfErr, subst, arith}
use Rattle.std.proofs.lemmas.List.{take_all}
use Rattle.lint_base.specs.declared.place.Span.{Span}
use Rattle.lint_base.specs.declared.place.TextStop.{TextStop}
use Rattle.lint_base.specs.declared.place.TextStop.TheVariants.{Refused, NoMemory}
use Rattle.lint_core.specs.declared.schema.Table.{Table}
use Rattle.lint_core.specs.declared.query.Query.{Query}
use Rattle.sql_lex.specs.declared.token.Token.{Token}
use Rattle.sql_lex.specs.Tokens.{Spells}
use Rattle.sql_tree.specs.declared.schema.CreateTable.{CreateTable}
use Rattle.sql_tree.specs.declared.select.QueryTree.{QueryTree}
use Rattle.sql_parse.specs.Refusals.{IsQuery, IsRefusedQuery, IsSchema, IsRefusedSchema}
use Rattle.sql_bind.specs.Bound.{Gives}
use Rattle.sql_bind.specs.Queries.{bind_query}
use Rattle.sql_bind.specs.Schemas.{bind_schema}
use Rattle.sql_reading.specs.Stopping.{StopsSchema, StopsQuery}
use Rattle.sql_reading.specs.TextReading.{ReadsQuery, piece_text}
use Rattle.sql_reading.specs.TextReading as reading

whole : (text : List ℕ) → slice_range text 0 (length text) ≡ text
whole text = take_all (length text - 0) text (omega arith)

abbrev SpellsWhole : List ℕ → List Token → Type 0
SpellsWhole text tokens = Spells 0 (slice_range text 0 (length text)) tokens

spells : (text : List ℕ) (tokens : List Token) → SpellsWhole text tokens → Spells 0 text tokens
spells text tokens spelled = subst (λ all. Spells 0 all tokens) (whole text) spelled

-- a schema whose tokens have no trees
pub schema_parsed : (text : List ℕ) (tokens : List Token) (stop : TextStop) → SpellsWhole text tokens → IsRefusedSchema tokens stop → StopsSchema text stop
schema_parsed text tokens NoMemory spelled refused = tt
schema_parsed text tokens (Refused refusal) spelled refused = reading.grammar tokens (spells text tokens spelled) refused

-- or whose trees were not bound
module _ (text : List ℕ) (tokens : List Token) (trees : List CreateTable) (spelled : SpellsWhole text tokens) (parsed : IsSchema tokens trees) where
  pub schema_bound : (bound : Result (List Table) TextStop) → Gives (bind_schema trees) bound → IfErr bound (λ stop. StopsSchema text stop)
  schema_bound (Ok schema) bound = tt
  schema_bound (Err NoMemory) bound = tt
  schema_bound (Err (Refused refusal)) bound = reading.binding tokens trees (spells text tokens spelled) parsed bound

-- the same of a piece
pub query_parsed : (schema : List Table) (text : List ℕ) (piece : Span) (tokens : List Token) (stop : TextStop) →
    Spells piece.from (piece_text text piece) tokens → IsRefusedQuery tokens stop → StopsQuery schema text piece stop
query_parsed schema text piece tokens NoMemory spelled refused = tt
query_parsed schema text piece tokens (Refused refusal) spelled refused = reading.grammar tokens spelled refused

module _ (schema : List Table) (text : List ℕ) (piece : Span) (tokens : List Token) (tree : QueryTree)
    (spelled : Spells piece.from (piece_text text piece) tokens) (parsed : IsQuery tokens tree) where
  pub query_read : (bound : Result Query TextStop) → Gives (bind_query schema tree) bound → IfOk bound (λ query. ReadsQuery schema text piece query)
  query_read (Ok query) bound = record { tokens = tokens; tree = tree; spelled = spelled; parsed = parsed; bound = bound }
  query_read (Err stop) bound = tt

  pub query_bound : (bound : Result Query TextStop) → Gives (bind_query schema tree) bound → IfErr bound (λ stop. StopsQuery schema text piece stop)
  query_bound (Ok query) bound = tt
  query_bound (Err NoMemory) bound = tt
  query_bound (Err (Refused refusal)) bound = reading.binding tokens tree spelled parsed bound
