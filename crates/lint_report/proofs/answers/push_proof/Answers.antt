use Rattle.std.proofs.Common.{codes, string_bytes}
use Rattle.std.proofs.lemmas.Result.{on_ok_weaker}
use Rattle.insert_lines.proofs.Appends.{then_three}
use Rattle.lint_report.specs.StepText.{steps_text}
use Rattle.lint_report.specs.Text.{proof_line}
use Rattle.lint_report.proofs.answers.push_proof.Goals as goal

pub returns : goal.returns
unfolding proof_line
returns c = on_ok_weaker c.push_text-2.result (λ e.
    then_three (string_bytes c.args.out.now) (string_bytes c.push_text.new.out) (string_bytes c.push_steps.new.out) (string_bytes c.push_text-2.new.out)
    (codes "    proof ") (steps_text c.args.steps.now) (codes "\n")
    c.in_ok-push_text.ensures c.in_ok-push_steps.ensures e) c.push_text-2.ensures
