-- A run that ends right keeps its word.
use Rattle.std.proofs.Common.{◌≡◌, ◌∙◌, ◌+◌, inl, inr, refl, sym, ap, subst, ℕ, zero, suc, true, List, [], ◌∷◌, map, arith}
use Rattle.std.proofs.lemmas.Option.{same_Some}
use Rattle.std.specs.Prelude.{Option, Some, None, slice_get}
use Rattle.cert_checks.specs.AcceptedLines.{AreProvedLines}
use Rattle.cert_checks.specs.Checks.{line_of}
use Rattle.cert_checks.specs.Named.{AreRead}
use Rattle.command_words.specs.Wanted.{Asked, judges, checks, Wanted}
use Rattle.lint_core.specs.declared.certificate.Cert.{Cert}
use Rattle.lint_core.specs.declared.query.Query.{Query}
use Rattle.lint_core.specs.declared.run.Answer.{Answer}
use Rattle.lint_core.specs.declared.run.CheckRun.{CheckRun}
use Rattle.lint_core.specs.declared.run.QueryResult.{QueryResult}
use Rattle.lint_core.specs.declared.run.QueryResult.TheVariants.{Refused, Answered}
use Rattle.lint_core.specs.declared.run.QueryRun.{QueryRun}
use Rattle.lint_core.specs.declared.run.Run.{Run}
use Rattle.lint_core.specs.declared.schema.Table.{Table}
use Rattle.lint_core.specs.Schema.{is_schema}
use Rattle.lint_engine.specs.AskingAll.{AreRightAnswers}
use Rattle.verdict_laws.specs.Headline.{Headline}
use Rattle.command_words.specs.declared.wanted.Form.{Form}
use Rattle.lint_run.proofs.Entries.{are_read}
use Rattle.lint_run.specs.KeepsItsWord.{ResultKeeps, QueriesKeep, ChecksKeep, Keeps, KeepsItsWord}
use Rattle.lint_run.specs.RightRun.{IsRightResult, AreRightFrom}
use Rattle.lint_run.specs.Stops.{Told, HoldsNothing, FinishedBy, StoppedBehindBy, IsJudged, IsChecked, HasCauseFor, HasCause}
use Rattle.lint_run.specs.Written.{Sunk, EndsRight}
use Rattle.lint_run.specs.declared.outcome.Stop.{Stop}
use Rattle.lint_run.specs.declared.outcome.Stop.TheVariants as stop

-- a line of a check is that of a certificate
line_at : (lines : Cert → CheckRun) (certs : List Cert) (place : ℕ) (line : CheckRun) → slice_get (map lines certs) place ≡ Some line →
    (cert : Cert) × (slice_get certs place ≡ Some cert) × (lines cert ≡ line)
line_at lines [] place line at = cc
line_at lines (cert ∷ certs) zero line at = (cert, refl, same_Some (lines cert) line at)
line_at lines (cert ∷ certs) (suc place) line at = line_at lines certs place line at

module _
    (words : (schema : List Table) (query : Query) (number budget : ℕ) (answers : List Answer)
    → AreRightAnswers schema query number budget answers → Headline schema query number budget answers)
    (lines : (schema : List Table) → is_schema schema ≡ true → (queries : List QueryRun) → AreRead schema queries → (certs : List Cert) → AreProvedLines schema queries certs) where
  result_keeps : (budget : ℕ) (form : Form) (schema : List Table) (number : ℕ) (text : List ℕ) (run : QueryRun) (result : QueryResult) →
      IsRightResult (judges budget form) schema number text run result → ResultKeeps schema budget number result
  result_keeps budget form schema number text run (Refused refusal) right = tt
  result_keeps budget form schema number text run (Answered query list answers) right = words schema query number budget answers right.1.answers_are

  entries_keep : (budget : ℕ) (form : Form) (schema : List Table) (number : ℕ) (text : List ℕ) (queries : List QueryRun) → AreRightFrom (judges budget form) schema number text queries →
      (place : ℕ) (entry : QueryRun) → slice_get queries place ≡ Some entry → ResultKeeps schema budget (number + place) entry.result
  entries_keep budget form schema number text [] right place entry at = cc
  entries_keep budget form schema number text (q ∷ queries) right zero entry at =
      let same : number ≡ number + 0 = omega arith in
      subst (λ n. ResultKeeps schema budget n entry.result) same
      (subst (λ (e : QueryRun). ResultKeeps schema budget number e.result) (same_Some q entry at) (result_keeps budget form schema number text q q.result right.0))
  entries_keep budget form schema number text (q ∷ queries) right (suc place) entry at =
      let same : number + 1 + place ≡ number + suc place = omega arith in
      subst (λ n. ResultKeeps schema budget n entry.result) same (entries_keep budget form schema (number + 1) text queries right.1 place entry at)

  no_query : (schema : List Table) (budget : ℕ) (queries : List QueryRun) → queries ≡ [] → QueriesKeep schema budget queries
  no_query schema budget queries none place entry at = let never : None ≡ Some entry = sym (ap (λ qs. slice_get qs place) none) ∙ at in cc

  no_line : (schema : List Table) (queries : List QueryRun) (told : List CheckRun) → told ≡ [] → ChecksKeep schema queries told
  no_line schema queries told none place line at accepted = let never : None ≡ Some line = sym (ap (λ ls. slice_get ls place) none) ∙ at in cc

  nothing_keeps : (asked : Asked) (run : Run) → HoldsNothing run → Keeps asked run
  nothing_keeps (judges budget form) run nothing = no_query run.schema budget run.queries nothing.queries
  nothing_keeps (checks certs) run nothing = no_line run.schema run.queries run.checks nothing.checks

  module _ (files : Option (List ℕ → Option (List ℕ))) where
    checked_keeps : (wanted : Wanted) (before now : Told) (run : Run) (path : List ℕ) → is_schema run.schema ≡ true →
        IsChecked files wanted before now run path → ChecksKeep run.schema run.queries run.checks
    checked_keeps wanted before now run path is read place line at accepted =
        let found = line_at (line_of run.schema run.queries read.certs) read.certs place line (sym (ap (λ ls. slice_get ls place) read.checks) ∙ at) in
        record {
          cert = found.0;
          query = ap (λ (l : CheckRun). l.query) found.2;
          question = ap (λ (l : CheckRun). l.question) found.2;
          proved = lines run.schema is run.queries (are_read wanted.asked run.schema 1 read.queries.text run.queries read.queries.right.right) read.certs place found.0 line
              found.1 (sym (ap (λ ls. slice_get ls place) read.checks) ∙ at) accepted;
        }

    judged_keeps : (wanted : Wanted) (before now : Told) (run : Run) (budget : ℕ) (form : Form) → wanted.asked ≡ judges budget form →
        IsJudged files wanted before now run → QueriesKeep run.schema budget run.queries
    judged_keeps wanted before now run budget form same read =
        entries_keep budget form run.schema 1 read.queries.text run.queries
        (subst (λ asked. AreRightFrom asked run.schema 1 read.queries.text run.queries) same read.queries.right.right)

    finished_keeps : (wanted : Wanted) (before now : Told) (run : Run) → is_schema run.schema ≡ true → FinishedBy files wanted before now run wanted.asked → Keeps wanted.asked run
    finished_keeps wanted before now run is read = by wanted.asked refl read
      where
        by : (asked : Asked) → wanted.asked ≡ asked → FinishedBy files wanted before now run asked → Keeps asked run
        by (judges budget form) same read = judged_keeps wanted before now run budget form same read
        by (checks path) same read = checked_keeps wanted before now run path is read

    caused_for : (wanted : Wanted) (before now : Told) (run : Run) (s : Option Stop) → is_schema run.schema ≡ true → HasCauseFor files wanted before now run s → Keeps wanted.asked run
    caused_for wanted before now run None is cause = finished_keeps wanted before now run is cause
    caused_for wanted before now run (Some s) is (inl early) = nothing_keeps wanted.asked run early.1.nothing
    caused_for wanted before now run (Some s) is (inr (inl between)) = nothing_keeps wanted.asked run between.nothing
    caused_for wanted before now run (Some s) is (inr (inr (inl behind))) = by wanted.asked behind
      where
        by : (asked : Asked) → StoppedBehindBy files wanted before now run asked s → Keeps asked run
        by (judges budget form) behind = absurd behind
        by (checks path) behind = nothing_keeps (checks path) run behind.nothing
    caused_for wanted before now run (Some s) is (inr (inr (inr late))) = finished_keeps wanted before now run is late.1

    caused : (wanted : Option Wanted) (before now : Told) (run : Run) (s : Option Stop) → is_schema run.schema ≡ true → HasCause files wanted before now run s → KeepsItsWord wanted run
    caused None before now run s is cause = tt
    caused (Some wanted) before now run s is cause = caused_for wanted before now run s is cause

    pub ended : (wanted : Option Wanted) (before now : Told) (old new : Sunk) (run : Run) (s : Option Stop) → is_schema run.schema ≡ true →
        EndsRight files wanted before now old new run s → KeepsItsWord wanted run
    ended wanted before now old new run None is end = caused wanted before now run None is end.cause
    ended wanted before now old new run (Some stop.WordsRefused) is end = caused wanted before now run (Some stop.WordsRefused) is end.cause
    ended wanted before now old new run (Some (stop.OpenFault file)) is end = caused wanted before now run (Some (stop.OpenFault file)) is end.cause
    ended wanted before now old new run (Some (stop.ReadFault file)) is end = caused wanted before now run (Some (stop.ReadFault file)) is end.cause
    ended wanted before now old new run (Some (stop.TooLong file)) is end = caused wanted before now run (Some (stop.TooLong file)) is end.cause
    ended wanted before now old new run (Some (stop.SchemaRefused refusal)) is end = caused wanted before now run (Some (stop.SchemaRefused refusal)) is end.cause
    ended wanted before now old new run (Some (stop.CertsRefused fault)) is end = caused wanted before now run (Some (stop.CertsRefused fault)) is end.cause
    ended wanted before now old new run (Some stop.WriteFault) is end = caused wanted before now run end.before_it is end.cause
    ended wanted before now old new run (Some stop.NoMemory) is end = caused wanted before now run end.before_it is end.cause
