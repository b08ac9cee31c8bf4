-- the text computes
use Rattle.std.proofs.Common.{refl}
use Rattle.std.specs.Fmt.{digits}
use Rattle.lint_report.specs.Text.{checked_text, check_line}
use Rattle.lint_report.proofs.laws.worked_checks.Goals as goal

pub returns : goal.returns
unfolding digits checked_text check_line
returns c = refl
