use Rattle.lint_core.specs.Levels.{tables_of_levels}
use Rattle.lint_core.proofs.Fitting.{fits_parts}
use Rattle.lint_core.proofs.+fits.Goals as goal

pub condition::Cond::fits-returns-in-And : goal.condition::Cond::fits-returns-in-And
condition::Cond::fits-returns-in-And t c =
    let whole = fits_parts c.args.tables.now (tables_of_levels c.args.levels.now) c.args.self.now c.in-And.parts c.in-And.is in
    cc
