-- The number that the program ends with.
use Rattle.std.specs.Prelude.{ℕ, Bool, true, false, not, List, Option, Some, None, if◌then◌else◌}
use Rattle.std.specs.List.{list_any, zip}
use Rattle.lint_core.specs.declared.query.Question.{Question}
use Rattle.lint_core.specs.declared.run.Answer.{Answer}
use Rattle.lint_core.specs.declared.run.Answer.TheVariants.{Always, NotAlways, Moot}
use Rattle.lint_core.specs.declared.run.Checked.{Checked}
use Rattle.lint_core.specs.declared.run.Checked.TheVariants.{Accepted}
use Rattle.lint_core.specs.declared.run.CheckRun.{CheckRun}
use Rattle.lint_core.specs.declared.run.QueryResult.{QueryResult}
use Rattle.lint_core.specs.declared.run.QueryResult.TheVariants.{Refused, Answered}
use Rattle.lint_core.specs.declared.run.QueryRun.{QueryRun}
use Rattle.lint_core.specs.declared.run.Run.{Run}
use Rattle.lint_report.specs.Finding.{is_finding}
use Rattle.lint_run.specs.declared.outcome.Stop.{Stop}
use Rattle.lint_run.specs.declared.outcome.Stop.TheVariants as stop

-- some question of the query has an answer that is a finding
abbrev pub any_finding : List Question → List Answer → Bool
any_finding questions answers = list_any (λ (both : Question × Answer). is_finding both.0 both.1) (zip questions answers)

abbrev pub has_finding : QueryResult → Bool
has_finding (Refused refusal) = false
has_finding (Answered query questions answers) = any_finding questions answers

-- neither a verdict nor moot: it says why there is no verdict
abbrev pub is_open : Answer → Bool
is_open (Always cert) = false
is_open (NotAlways counters) = false
is_open Moot = false
is_open other = true

-- a refused query, or one with a question that is left without a verdict
abbrev pub is_left_open : QueryResult → Bool
is_left_open (Refused refusal) = true
is_left_open (Answered query questions answers) = list_any is_open answers

abbrev pub is_accepted : Checked → Bool
is_accepted Accepted = true
is_accepted other = false

-- 1 for a finding, else 7 for a certificate that is not accepted, else 6 for a query that is refused or left open, else 0
abbrev pub run_status : Run → ℕ
run_status run =
    if list_any (λ (q : QueryRun). has_finding q.result) run.queries then 1
    else (if list_any (λ (c : CheckRun). not (is_accepted c.checked)) run.checks then 7
    else (if list_any (λ (q : QueryRun). is_left_open q.result) run.queries then 6 else 0))

-- a stop has a number of its own
abbrev pub status_of : Option Stop → Run → ℕ
status_of None run = run_status run
status_of (Some stop.WordsRefused) run = 2
status_of (Some (stop.SchemaRefused refusal)) run = 2
status_of (Some (stop.CertsRefused fault)) run = 2
status_of (Some (stop.TooLong which)) run = 2
status_of (Some (stop.OpenFault which)) run = 3
status_of (Some (stop.ReadFault which)) run = 3
status_of (Some stop.WriteFault) run = 4
status_of (Some stop.NoMemory) run = 5
