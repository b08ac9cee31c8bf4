-- That another run reads what a run writes: the file of certificates is read as the certificates of its answers `always`.
use Rattle.std.specs.Prelude.{Option, Some, None}
use Rattle.cert_format.specs.CertFile.{file_text, ReadsAs}
use Rattle.command_words.specs.Wanted.{Asked, judges, checks, Wanted}
use Rattle.command_words.specs.declared.wanted.Form.TheVariants as form
use Rattle.lint_core.specs.declared.run.Run.{Run}
use Rattle.lint_run.specs.Text.{certs_of}
use Rattle.lint_run.specs.declared.outcome.Stop.{Stop}

abbrev pub ReadBackBy : Asked → Run → Type 0
ReadBackBy (judges budget form.Text) run = Unit {0}
ReadBackBy (judges budget form.Certs) run = ReadsAs (file_text (certs_of run.queries)) (certs_of run.queries)
ReadBackBy (checks certs) run = Unit {0}

-- without a stop
abbrev pub IsReadBack : Option Wanted → Option Stop → Run → Type 0
IsReadBack wanted (Some s) run = Unit {0}
IsReadBack None None run = Unit {0}
IsReadBack (Some wanted) None run = ReadBackBy wanted.asked run
