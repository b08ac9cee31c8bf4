-- Runs whose text is known by hand: a schema that is refused, and files of certificates that are.
use Rattle.std.specs.Prelude.{◌≡◌, Option, Some, codes}
use Rattle.command_words.specs.Wanted.{Wanted}
use Rattle.cert_format.specs.declared.fault.CertFault.TheVariants as cert_fault
use Rattle.lint_base.specs.declared.place.Fault.TheVariants.{NotAKey}
use Rattle.lint_core.specs.declared.run.Run.{Run}
use Rattle.lint_run.specs.declared.outcome.Stop.TheVariants as stop
use Rattle.lint_run.specs.Text.{run_text}

module _ (wanted : Option Wanted) (run : Run) where
  abbrev pub SchemaRefusedText : Type 0
  SchemaRefusedText =
      run_text wanted (Some (stop.SchemaRefused (record { fault = NotAKey; span = record { from = 26; to = 38 }; count = 0 }))) run ≡ codes "stop SchemaRefused 26 NotAKey at 26..38\n"

  abbrev pub NoJsonText : Type 0
  NoJsonText = run_text wanted (Some (stop.CertsRefused cert_fault.NotJson)) run ≡ codes "stop CertsRefused NotJson\n"

  abbrev pub BadShapeText : Type 0
  BadShapeText = run_text wanted (Some (stop.CertsRefused (cert_fault.BadShape 3))) run ≡ codes "stop CertsRefused BadShape at 3\n"
