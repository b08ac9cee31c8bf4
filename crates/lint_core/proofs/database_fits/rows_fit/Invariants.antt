use Rattle.std.proofs.Common.{◌≡◌, drop}
use Rattle.lint_core.specs.DatabaseFits.{rows_fit}
use Rattle.lint_core.proofs.database_fits.rows_fit.Given as goal

-- all so far fit
abbrev pub invariant-loop-row : goal.invariant-loop-row
invariant-loop-row l = rows_fit l.table (drop l.row-index l.rows) ≡ rows_fit l.table l.rows
