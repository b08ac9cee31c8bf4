-- Which question a certificate names, by the number of its query and that of the question. Queries are counted from 1 in the
-- order of their file, those that were refused too, and the questions of a query from 1. A number past the last one, or 0, names
-- nothing, nor does that of a refused query.
use Rattle.std.specs.Prelude.{◌≡◌, ℕ, zero, suc, true, List, Option, Some, None, take, slice_get, option_and_then, All}
use Rattle.std.specs.Option.{option_map}
use Rattle.lint_core.specs.declared.certificate.Cert.{Cert}
use Rattle.lint_core.specs.declared.query.Query.{Query}
use Rattle.lint_core.specs.declared.query.Question.{Question}
use Rattle.lint_core.specs.declared.run.QueryResult.{QueryResult}
use Rattle.lint_core.specs.declared.run.QueryResult.TheVariants.{Refused, Answered}
use Rattle.lint_core.specs.declared.run.QueryRun.{QueryRun}
use Rattle.lint_core.specs.declared.schema.Table.{Table}
use Rattle.lint_core.specs.Asked.{questions as questions_of}
use Rattle.lint_core.specs.Fits.{query_fits}

-- a query that was read, and the questions asked of it
pub record ReadQuery : Type 0 where
  pub query : Query
  pub asked : List Question

-- a question of a query, and the questions asked of that query before it
pub record Named : Type 0 where
  pub query : Query
  pub before : List Question
  pub question : Question

abbrev pub read_query : QueryResult → Option ReadQuery
read_query (Refused refusal) = None
read_query (Answered query asked answers) = Some (record { query = query; asked = asked })

-- the read query of a number
abbrev pub query_named : List QueryRun → ℕ → Option ReadQuery
query_named queries zero = None
query_named queries (suc place) = option_and_then (λ (q : QueryRun). read_query q.result) (slice_get queries place)

-- the question of a number
abbrev pub question_at : ReadQuery → ℕ → Option Named
question_at read zero = None
question_at read (suc place) =
    option_map (λ question. record { query = read.query; before = take place read.asked; question = question }) (slice_get read.asked place)

-- the question that a certificate names
abbrev pub question_named : List QueryRun → Cert → Option Named
question_named queries cert = option_and_then (λ read. question_at read cert.question) (query_named queries cert.query)

-- ---- queries as they are read

-- a read query fits the schema, and what is asked of it are all its questions, in order
abbrev pub IsReadResult : List Table → QueryResult → Type 0
IsReadResult schema (Refused refusal) = Unit {0}
IsReadResult schema (Answered query asked answers) = (query_fits schema query ≡ true) × (asked ≡ questions_of schema query)

abbrev pub IsRead : List Table → QueryRun → Type 0
IsRead schema q = IsReadResult schema q.result

abbrev pub AreRead : List Table → List QueryRun → Type 0
AreRead schema queries = All (IsRead schema) queries
