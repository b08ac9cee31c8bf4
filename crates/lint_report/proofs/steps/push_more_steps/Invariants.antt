use Rattle.std.proofs.Common.{◌≡◌, ◌++◌, drop, codes, string_bytes}
use Rattle.insert_lines.specs.InsertText.{texts}
use Rattle.lint_report.specs.StepText.{step_text}
use Rattle.lint_report.proofs.steps.push_more_steps.Given as goal

abbrev pub invariant-loop-step : goal.invariant-loop-step
invariant-loop-step l = string_bytes l.out ++ texts (λ s. codes "," ++ step_text s) (drop l.step-index l.steps) ≡ string_bytes l.fn.out ++ texts (λ s. codes "," ++ step_text s) l.steps
