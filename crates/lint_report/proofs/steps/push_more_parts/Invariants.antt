use Rattle.std.proofs.Common.{◌≡◌, ◌++◌, drop, codes, string_bytes}
use Rattle.insert_lines.specs.InsertText.{texts}
use Rattle.lint_report.specs.StepText.{part_text}
use Rattle.lint_report.proofs.steps.push_more_parts.Given as goal

abbrev pub invariant-loop-part : goal.invariant-loop-part
invariant-loop-part l = string_bytes l.out ++ texts (λ e. codes "," ++ part_text e) (drop l.part-index l.parts) ≡ string_bytes l.fn.out ++ texts (λ e. codes "," ++ part_text e) l.parts
