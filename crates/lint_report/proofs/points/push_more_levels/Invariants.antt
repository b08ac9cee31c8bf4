use Rattle.std.proofs.Common.{◌≡◌, ◌++◌, drop, codes, string_bytes}
use Rattle.insert_lines.specs.InsertText.{texts}
use Rattle.lint_report.specs.Text.{level_text}
use Rattle.lint_report.proofs.points.push_more_levels.Given as goal

abbrev pub invariant-loop-level : goal.invariant-loop-level
invariant-loop-level l = string_bytes l.out ++ texts (λ p. codes "/" ++ level_text p) (drop l.level-index l.levels) ≡ string_bytes l.fn.out ++ texts (λ p. codes "/" ++ level_text p) l.levels
