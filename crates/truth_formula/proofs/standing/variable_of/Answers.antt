use Rattle.std.proofs.Common.{sym, arith, length}
use Rattle.lint_core.specs.Fits.{tables_of}
use Rattle.truth_formula.proofs.Variables.{length_tables, number_within, number_past}
use Rattle.truth_formula.proofs.standing.variable_of.Goals as goal

pub returns-then-entry-entries : goal.returns-then-entry-entries
returns-then-entry-entries c =
    sym (number_within c.args.first (length (tables_of c.args.entries.now)) c.args.entry (omega (arith, length_tables c.args.entries.now)))

pub returns-else-entry-entries : goal.returns-else-entry-entries
returns-else-entry-entries c =
    sym (number_past c.args.first (length (tables_of c.args.entries.now)) c.args.entry (omega (arith, length_tables c.args.entries.now)))
