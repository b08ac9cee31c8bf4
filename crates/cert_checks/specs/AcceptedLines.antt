-- What the accepted lines of a check say.
use Rattle.std.specs.Prelude.{◌≡◌, ℕ, true, List, Some, slice_get}
use Rattle.lint_core.specs.declared.certificate.Cert.{Cert}
use Rattle.lint_core.specs.declared.run.Checked.TheVariants as checked
use Rattle.lint_core.specs.declared.run.CheckRun.{CheckRun}
use Rattle.lint_core.specs.declared.run.QueryRun.{QueryRun}
use Rattle.lint_core.specs.declared.schema.Table.{Table}
use Rattle.sort_formula.specs.Certificate.{accepts}
use Rattle.answer_laws.specs.AlwaysMeans.{AlwaysMeans}
use Rattle.cert_checks.specs.Named.{Named, question_named}
use Rattle.cert_checks.specs.Checks.{checks_of, sentence_of}

module _ (schema : List Table) (queries : List QueryRun) where
  -- The certificate names a question of a read query. What the question means holds in every database that meets the schema,
  -- for a constant column with the value that the certificate names; and the steps refute the counter sentence.
  pub record IsProvedLine (cert : Cert) : Type 0 where
    pub named : Named
    pub names : question_named queries cert ≡ Some named
    pub means : AlwaysMeans schema named.query named.question cert.value
    pub accepted : accepts schema (sentence_of schema cert named) cert.steps ≡ true

  -- each line that says accepted keeps its word
  abbrev pub AreProvedLines : List Cert → Type 0
  AreProvedLines certs =
      (place : ℕ) (cert : Cert) (line : CheckRun)
      → slice_get certs place ≡ Some cert → slice_get (checks_of schema queries certs) place ≡ Some line
      → line.checked ≡ checked.Accepted → IsProvedLine cert
