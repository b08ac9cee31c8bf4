use Rattle.std.proofs.Common.{◌≡◌, false, map}
use Rattle.std.specs.List.{list_any}
use Rattle.lint_core.specs.Database.{below}
use Rattle.lint_core.specs.Meets.{agree}
use Rattle.sql_meaning.specs.Violations.{place}
use Rattle.sql_meaning.proofs.violation.some_target.Given as goal

abbrev pub invariant-loop-row : goal.invariant-loop-row
invariant-loop-row l =
    list_any (λ target. agree l.database (place l.database l.spot.table l.spot.row) l.key.columns target l.key.target_columns) (map (place l.database l.key.target) (below l.row)) ≡ false
