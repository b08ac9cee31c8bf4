use Rattle.std.proofs.Common.{◌≡◌, drop, length}
use Rattle.lint_core.specs.DatabaseFits.{tables_fit}
use Rattle.lint_core.proofs.database_fits.tables_fit.Given as goal

-- all so far fit
abbrev pub invariant-loop-table : goal.invariant-loop-table
invariant-loop-table l = tables_fit (drop (length l.yielded) l.tables) (drop (length l.yielded) l.rows) ≡ tables_fit l.tables l.rows
