-- the texts compute
use Rattle.std.proofs.Common.{refl}
use Rattle.std.specs.Fmt.{digits}
use Rattle.lint_report.specs.RefusalText.{span_text, refusal_text, fault_text}
use Rattle.lint_run.specs.Text.{certs_refused_text, schema_refused_text, stop_text}
use Rattle.lint_run.proofs.laws.worked_texts.Goals as goal

pub returns : goal.returns
unfolding digits span_text refusal_text fault_text certs_refused_text schema_refused_text stop_text
returns c = record {
  schema = λ wanted run. refl;
  not_json = λ wanted run. refl;
  bad_shape = λ wanted run. refl;
}
