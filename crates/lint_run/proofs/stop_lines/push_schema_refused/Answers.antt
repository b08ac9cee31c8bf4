use Rattle.std.proofs.Common.{codes, string_bytes}
use Rattle.std.proofs.lemmas.Result.{on_ok_weaker}
use Rattle.lint_report.specs.RefusalText.{refusal_text}
use Rattle.lint_run.specs.Text.{schema_refused_text}
use Rattle.insert_lines.proofs.Appends.{then_three}
use Rattle.lint_run.proofs.stop_lines.push_schema_refused.Goals as goal

pub returns : goal.returns
unfolding schema_refused_text
returns c = on_ok_weaker c.push_text-2.result (λ e.
    then_three (string_bytes c.args.out.now) (string_bytes c.push_text.new.out) (string_bytes c.push_refusal.new.out) (string_bytes c.push_text-2.new.out)
    (codes "stop SchemaRefused ") (refusal_text c.args.refusal) (codes "\n")
    c.in_ok-push_text.ensures c.in_ok-push_refusal.ensures e) c.push_text-2.ensures
