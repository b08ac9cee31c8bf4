-- What is in the grammar is read.
use Rattle.std.proofs.Common.{◌≡◌, List, Some}
use Rattle.sql_lex.specs.declared.token.Token.{Token}
use Rattle.sql_tree.specs.declared.schema.CreateTable.{CreateTable}
use Rattle.sql_tree.specs.declared.select.QueryTree.{QueryTree}
use Rattle.sql_parse.specs.grammar.Queries.{SpellsQuery}
use Rattle.sql_parse.specs.grammar.Schemas.{SpellsSchema}
use Rattle.sql_parse.specs.inner.readers.Queries.{query_of}
use Rattle.sql_parse.specs.inner.readers.Schemas.{schema_of}
use Rattle.sql_parse.proofs.CompleteQueries.{query_read}
use Rattle.sql_parse.proofs.CompleteSchemas.{schema_read}

pub query_complete : (tree : QueryTree) (tokens : List Token) → SpellsQuery tree tokens → query_of tokens ≡ Some tree
query_complete tree tokens s = query_read tree tokens s

pub schema_complete : (tables : List CreateTable) (tokens : List Token) → SpellsSchema tables tokens → schema_of tokens ≡ Some tables
schema_complete tables tokens s = schema_read tables tokens s
