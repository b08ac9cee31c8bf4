-- The bytes that a run writes: its report, its certificates or the lines of its check; or the one line of its stop,
-- which ends with byte 10.
use Rattle.std.specs.Prelude.{ℕ, List, [], ◌∷◌, ◌++◌, Option, Some, None, codes}
use Rattle.std.specs.Fmt.{decimal}
use Rattle.std.specs.List.{flat_map}
use Rattle.cert_format.specs.CertFile.{file_text}
use Rattle.cert_format.specs.declared.fault.CertFault.{CertFault}
use Rattle.cert_format.specs.declared.fault.CertFault.TheVariants as cert_fault
use Rattle.command_words.specs.Wanted.{Asked, judges, checks, Wanted}
use Rattle.command_words.specs.declared.wanted.Form.TheVariants as form
use Rattle.lint_base.specs.declared.place.Refusal.{Refusal}
use Rattle.lint_core.specs.declared.certificate.Cert.{Cert}
use Rattle.lint_core.specs.declared.run.Answer.{Answer}
use Rattle.lint_core.specs.declared.run.Answer.TheVariants.{Always}
use Rattle.lint_core.specs.declared.run.QueryResult.{QueryResult}
use Rattle.lint_core.specs.declared.run.QueryResult.TheVariants.{Refused, Answered}
use Rattle.lint_core.specs.declared.run.QueryRun.{QueryRun}
use Rattle.lint_core.specs.declared.run.Run.{Run}
use Rattle.lint_report.specs.RefusalText.{refusal_text}
use Rattle.lint_report.specs.Text.{report_text, checks_text}
use Rattle.lint_run.specs.declared.outcome.Which.{Which}
use Rattle.lint_run.specs.declared.outcome.Which.TheVariants as which
use Rattle.lint_run.specs.declared.outcome.Stop.{Stop}
use Rattle.lint_run.specs.declared.outcome.Stop.TheVariants as stop

unfoldable pub which_text : Which → List ℕ
which_text which.Schema = codes "schema"
which_text which.Queries = codes "queries"
which_text which.Certs = codes "certs"

unfoldable pub schema_refused_text : Refusal → List ℕ
schema_refused_text refusal = codes "stop SchemaRefused " ++ refusal_text refusal ++ codes "\n"

unfoldable pub certs_refused_text : CertFault → List ℕ
certs_refused_text cert_fault.NotJson = codes "stop CertsRefused NotJson\n"
certs_refused_text (cert_fault.BadShape at) = codes "stop CertsRefused BadShape at " ++ decimal at ++ codes "\n"
certs_refused_text cert_fault.NoMemory = []

-- the line of a stop; a write fault and want of memory have none
unfoldable pub stop_text : Stop → List ℕ
stop_text stop.WordsRefused = codes "stop WordsRefused\n"
stop_text (stop.OpenFault which) = codes "stop OpenFault " ++ which_text which ++ codes "\n"
stop_text (stop.ReadFault which) = codes "stop ReadFault " ++ which_text which ++ codes "\n"
stop_text (stop.TooLong which) = codes "stop TooLong " ++ which_text which ++ codes "\n"
stop_text (stop.SchemaRefused refusal) = schema_refused_text refusal
stop_text (stop.CertsRefused fault) = certs_refused_text fault
stop_text stop.WriteFault = []
stop_text stop.NoMemory = []

-- the certificates of the answers `always`, in their order
abbrev pub cert_of : Answer → List Cert
cert_of (Always cert) = cert ∷ []
cert_of other = []

abbrev pub result_certs : QueryResult → List Cert
result_certs (Refused refusal) = []
result_certs (Answered query questions answers) = flat_map cert_of answers

abbrev pub certs_of : List QueryRun → List Cert
certs_of queries = flat_map (λ (q : QueryRun). result_certs q.result) queries

-- what a run without a stop writes
abbrev pub asked_text : Asked → Run → List ℕ
asked_text (judges budget form.Text) run = report_text run
asked_text (judges budget form.Certs) run = file_text (certs_of run.queries)
asked_text (checks certs) run = checks_text run.checks

-- what a run writes
abbrev pub run_text : Option Wanted → Option Stop → Run → List ℕ
run_text wanted (Some s) run = stop_text s
run_text (Some wanted) None run = asked_text wanted.asked run
run_text None None run = []
