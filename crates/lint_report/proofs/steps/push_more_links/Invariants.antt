use Rattle.std.proofs.Common.{◌≡◌, ◌++◌, drop, codes, string_bytes}
use Rattle.insert_lines.specs.InsertText.{texts}
use Rattle.lint_report.specs.StepText.{link_text}
use Rattle.lint_report.proofs.steps.push_more_links.Given as goal

abbrev pub invariant-loop-edge : goal.invariant-loop-edge
invariant-loop-edge l = string_bytes l.out ++ texts (λ e. codes "," ++ link_text e) (drop l.edge-index l.edges) ≡ string_bytes l.fn.out ++ texts (λ e. codes "," ++ link_text e) l.edges
