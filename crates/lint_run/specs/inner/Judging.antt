-- What private functions answer on the way; nothing here has to be believed.
use Rattle.std.specs.Prelude.{ℕ, ◌≡◌, List, [], Option}
use Rattle.cert_checks.specs.Checks.{checks_of}
use Rattle.command_words.specs.Wanted.{Asked, judges, checks}
use Rattle.lint_base.specs.declared.stops.ReadStop.{ReadStop}
use Rattle.lint_base.specs.declared.stops.ReadStop.TheVariants as read_stop
use Rattle.lint_core.specs.declared.certificate.Cert.{Cert}
use Rattle.lint_core.specs.declared.schema.Table.{Table}
use Rattle.lint_core.specs.declared.query.Query.{Query}
use Rattle.lint_core.specs.declared.run.CheckRun.{CheckRun}
use Rattle.lint_core.specs.declared.run.QueryResult.{QueryResult}
use Rattle.lint_core.specs.declared.run.QueryResult.TheVariants.{Refused, Answered}
use Rattle.lint_core.specs.declared.run.QueryRun.{QueryRun}
use Rattle.lint_run.specs.RightRun.{IsAnswered}
use Rattle.lint_run.specs.Stops.{Told, AreCertsRead, StopsAtCerts}
use Rattle.lint_run.specs.declared.outcome.Which.{Which}
use Rattle.lint_run.specs.declared.outcome.Stop.{Stop}
use Rattle.lint_run.specs.declared.outcome.Stop.TheVariants as stop

-- the result is this query, answered
abbrev pub IsAnsweredRun : Asked → List Table → ℕ → Query → QueryResult → Type 0
IsAnsweredRun asked schema number own (Refused refusal) = ⊥
IsAnsweredRun asked schema number own (Answered query questions answers) = (query ≡ own) × IsAnswered asked schema number query questions answers

-- a read that stops at this file stops the run there
abbrev pub stop_of : ReadStop → Which → Stop
stop_of read_stop.OpenFault file = stop.OpenFault file
stop_of read_stop.ReadFault file = stop.ReadFault file
stop_of read_stop.TooLong file = stop.TooLong file
stop_of read_stop.NoMemory file = stop.NoMemory

module _ (files : Option (List ℕ → Option (List ℕ))) (before now : Told) where
  -- the lines are those of the certificates at this path
  pub record AreChecksOf (path : List ℕ) (schema : List Table) (queries : List QueryRun) (lines : List CheckRun) : Type 0 where
    pub certs : List Cert
    pub certs_are : AreCertsRead files path before now certs
    pub lines_are : lines ≡ checks_of schema queries certs

  -- the lines that are asked for; a run that judges reads no certificates
  abbrev pub AreChecksFor : Asked → List Table → List QueryRun → List CheckRun → Type 0
  AreChecksFor (judges budget form) schema queries lines = (now ≡ before) × (lines ≡ [])
  AreChecksFor (checks path) schema queries lines = AreChecksOf path schema queries lines

  abbrev pub StopsBehind : Asked → Stop → Type 0
  StopsBehind (judges budget form) s = ⊥
  StopsBehind (checks path) s = StopsAtCerts files path before now s
