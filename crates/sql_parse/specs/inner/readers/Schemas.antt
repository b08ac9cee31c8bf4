-- The reading of a schema.
use Rattle.std.specs.Prelude.{ℕ, if◌then◌else◌, List, [], ◌∷◌, ◌++◌, length, Option}
use Rattle.sql_lex.specs.declared.token.Token.{Token}
use Rattle.sql_tree.specs.declared.schema.CreateTable.{CreateTable}
use Rattle.sql_parse.specs.grammar.Words.{CREATE}
use Rattle.sql_parse.specs.inner.readers.Tokens.{Read, found, and_then, is_word, is_semicolon, at_head, all_read, read_parts, read_after}
use Rattle.sql_parse.specs.inner.readers.Tables.{read_create}

module _ (depth : ℕ) where
  -- [ create ]
  unfoldable pub read_statement : List Token → Read (List CreateTable)
  read_statement tokens = if at_head (is_word CREATE) tokens then and_then (read_create depth tokens) (λ table rest. found (table ∷ []) rest) else found [] tokens

  unfoldable pub read_next_statement : ℕ → List Token → Read (List CreateTable)
  read_next_statement count tokens = read_after is_semicolon read_statement tokens

  unfoldable pub read_schema : List Token → Read (List CreateTable)
  read_schema tokens =
      and_then (read_statement tokens) (λ first left. and_then (read_parts (at_head is_semicolon) read_next_statement 0 left) (λ others after. found (first ++ others) after))

-- the tables that all these tokens declare
unfoldable pub schema_of : List Token → Option (List CreateTable)
schema_of tokens = all_read (read_schema (length tokens) tokens)
