use Rattle.std.proofs.Common.{◌≡◌, take}
use Rattle.lint_core.proofs.copies.copy_tables.Given as goal

abbrev pub invariant-loop-rows : goal.invariant-loop-rows
invariant-loop-rows l = l.copies ≡ take l.rows-index l.tables
