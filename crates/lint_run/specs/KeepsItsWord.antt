-- What a run promises of what it holds, with a stop or without.
use Rattle.std.specs.Prelude.{ℕ, ◌+◌, ◌≡◌, List, Option, Some, None, slice_get}
use Rattle.cert_checks.specs.AcceptedLines.{IsProvedLine}
use Rattle.command_words.specs.Wanted.{Asked, judges, checks, Wanted}
use Rattle.lint_core.specs.declared.certificate.Cert.{Cert}
use Rattle.lint_core.specs.declared.schema.Table.{Table}
use Rattle.lint_core.specs.declared.run.Checked.TheVariants.{Accepted}
use Rattle.lint_core.specs.declared.run.CheckRun.{CheckRun}
use Rattle.lint_core.specs.declared.run.QueryResult.{QueryResult}
use Rattle.lint_core.specs.declared.run.QueryResult.TheVariants.{Refused, Answered}
use Rattle.lint_core.specs.declared.run.QueryRun.{QueryRun}
use Rattle.lint_core.specs.declared.run.Run.{Run}
use Rattle.verdict_laws.specs.Headline.{Headline}

module _ (schema : List Table) (budget : ℕ) where
  -- The answers to the questions of a query that was read keep their word; the query's number counts from 1.
  abbrev pub ResultKeeps : ℕ → QueryResult → Type 0
  ResultKeeps number (Refused refusal) = Unit {0}
  ResultKeeps number (Answered query questions answers) = Headline schema query number budget answers

  abbrev pub QueriesKeep : List QueryRun → Type 0
  QueriesKeep queries = (place : ℕ) (entry : QueryRun) → slice_get queries place ≡ Some entry → ResultKeeps (1 + place) entry.result

module _ (schema : List Table) (queries : List QueryRun) where
  -- The line is one of a certificate that names a question of a read query, and what that question means holds in every
  -- database that meets the schema.
  pub record IsKeptLine (line : CheckRun) : Type 0 where
    pub cert : Cert
    pub query : cert.query ≡ line.query
    pub question : cert.question ≡ line.question
    pub proved : IsProvedLine schema queries cert

  -- each line that says accepted keeps its word
  abbrev pub ChecksKeep : List CheckRun → Type 0
  ChecksKeep lines = (place : ℕ) (line : CheckRun) → slice_get lines place ≡ Some line → line.checked ≡ Accepted → IsKeptLine line

-- of a run that judges all answers, and of one that checks certificates all accepted lines
abbrev pub Keeps : Asked → Run → Type 0
Keeps (judges budget form) run = QueriesKeep run.schema budget run.queries
Keeps (checks certs) run = ChecksKeep run.schema run.queries run.checks

abbrev pub KeepsItsWord : Option Wanted → Run → Type 0
KeepsItsWord None run = Unit {0}
KeepsItsWord (Some wanted) run = Keeps wanted.asked run
