-- What is read is in the grammar.
use Rattle.std.proofs.Common.{ℕ, ◌≡◌, refl, List, [], ◌∷◌, ◌++◌, length, Some, append-nil}
use Rattle.lint_base.specs.declared.place.Span.{Span}
use Rattle.sql_lex.specs.declared.token.Sign.TheVariants.{Semicolon}
use Rattle.sql_lex.specs.declared.token.Token.{Token}
use Rattle.sql_tree.specs.declared.schema.CreateTable.{CreateTable}
use Rattle.sql_tree.specs.declared.select.QueryTree.{QueryTree}
use Rattle.sql_parse.specs.grammar.Words.{sign, CREATE}
use Rattle.sql_parse.specs.grammar.Queries.{SpellsQuery}
use Rattle.sql_parse.specs.grammar.Schemas as schema
use Rattle.sql_parse.specs.grammar.Schemas.{SpellsStatement, SpellsSchema}
use Rattle.sql_parse.specs.inner.readers.Tokens.{is_word, is_semicolon, at_head, read_after}
use Rattle.sql_parse.specs.inner.readers.Queries.{read_query, query_of}
use Rattle.sql_parse.specs.inner.readers.Schemas.{read_statement, read_next_statement, read_schema, schema_of}
use Rattle.sql_parse.proofs.SoundTokens.{Reads, sound_weaker, sound_found, sound_then, sound_last, sound_if, sound_semicolon, parts_sound, all_sound}
use Rattle.sql_parse.proofs.SoundQueries.{query_reads}
use Rattle.sql_parse.proofs.SoundTables.{create_sound}

pub query_sound : (tree : QueryTree) (tokens : List Token) → query_of tokens ≡ Some tree → SpellsQuery tree tokens
unfolding query_of
query_sound tree tokens e = all_sound tokens (read_query tokens) (query_reads tokens) tree e refl

-- what follows a statement
abbrev Later : List CreateTable → List Token → Type 0
Later others tokens = (tables : List CreateTable) (own : List Token) → SpellsStatement tables own → SpellsSchema (tables ++ others) (own ++ tokens)

abbrev Next : List CreateTable → List Token → Type 0
Next tables tokens = (at : Span) × (own : List Token) × (tokens ≡ sign Semicolon at ∷ own) × SpellsStatement tables own

no_more : Later [] []
no_more tables own s = rw (append-nil tables, append-nil own) (schema.last s)

one_more : (part parts : List CreateTable) (own rest : List Token) → Next part own → Later parts rest → Later (part ++ parts) (own ++ rest)
one_more part parts own rest s later tables before t = rw s.2 (schema.more tables (part ++ parts) before s.0 (s.1 ++ rest) refl refl t (later part s.1 s.3))

module _ (depth : ℕ) where
  statement_sound : (tokens : List Token) → Reads SpellsStatement tokens (read_statement depth tokens)
  unfolding read_statement
  statement_sound tokens =
      sound_if (at_head (is_word CREATE) tokens) (λ e. sound_last _ (create_sound depth tokens) (λ table own left s. schema.create table refl s)) (λ e. sound_found (schema.empty refl refl))

  next_sound : (count : ℕ) (tokens : List Token) → Reads Next tokens (read_next_statement depth count tokens)
  unfolding read_next_statement read_after
  next_sound count tokens = sound_semicolon _ (λ at rest. sound_weaker (λ tables own left s. (at, own, refl, s)) (statement_sound rest))

  schema_reads : (tokens : List Token) → Reads SpellsSchema tokens (read_schema depth tokens)
  unfolding read_schema
  schema_reads tokens =
      sound_then (statement_sound tokens) (λ tables own left s. sound_last _
      (parts_sound (at_head is_semicolon) (read_next_statement depth) (λ count. Next) (λ count. Later) next_sound (λ count. no_more) (λ count. one_more) 0 left)
      (λ others rest after later. later tables own s))

pub schema_sound : (tables : List CreateTable) (tokens : List Token) → schema_of tokens ≡ Some tables → SpellsSchema tables tokens
unfolding schema_of
schema_sound tables tokens e = all_sound tokens (read_schema (length tokens) tokens) (schema_reads (length tokens) tokens) tables e
