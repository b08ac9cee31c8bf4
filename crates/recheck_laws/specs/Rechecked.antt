-- That a check accepts all certificates of a file.
use Rattle.std.specs.Prelude.{◌≡◌, ℕ, List, Some, slice_get}
use Rattle.cert_checks.specs.Checks.{checks_of}
use Rattle.lint_core.specs.declared.certificate.Cert.{Cert}
use Rattle.lint_core.specs.declared.run.Checked.TheVariants.{Accepted}
use Rattle.lint_core.specs.declared.run.CheckRun.{CheckRun}
use Rattle.lint_core.specs.declared.run.QueryRun.{QueryRun}
use Rattle.lint_core.specs.declared.schema.Table.{Table}

-- The lines of the check, one for each certificate, all say accepted: none is refused, and none needs another certificate.
abbrev pub AreAllAccepted : List Table → List QueryRun → List Cert → Type 0
AreAllAccepted schema queries certs =
    (place : ℕ) (line : CheckRun) → slice_get (checks_of schema queries certs) place ≡ Some line → line.checked ≡ Accepted
