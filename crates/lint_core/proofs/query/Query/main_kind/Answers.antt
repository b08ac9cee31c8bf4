use Rattle.lint_core.proofs.LevelTables.{tables_inside, tables_outside}
use Rattle.lint_core.proofs.query.Query.main_kind.Goals as goal

pub returns : goal.returns
returns c = rw (tables_inside, tables_outside, c.as_slice.ensures) at c.kind.ensures
