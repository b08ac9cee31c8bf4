use Rattle.std.proofs.Common.{◌≡◌, take}
use Rattle.lint_core.specs.Fits.{tables_of}
use Rattle.witness_db.proofs.points.own_tables.Given as goal

abbrev pub invariant-loop-entry : goal.invariant-loop-entry
invariant-loop-entry l = l.tables ≡ tables_of (take l.entry-index l.entry-items)
