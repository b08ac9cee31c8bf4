use Rattle.std.proofs.Common.{◌≡◌, ◌++◌, ◌+◌, drop, string_bytes}
use Rattle.lint_report.specs.Text.{check_lines}
use Rattle.lint_report.proofs.checks.push_checks.Given as goal

abbrev pub invariant-loop-check : goal.invariant-loop-check
invariant-loop-check l = record {
  told : string_bytes l.out ++ check_lines l.number (drop l.check-index l.checks) ≡ string_bytes l.fn.out ++ check_lines 1 l.checks;
  count : l.number ≡ 1 + l.check-index;
}
