use Rattle.sort_formula.specs.inner.Standing.{tables_outside}
use Rattle.sort_formula.proofs.Fitting.{fits_parts}
use Rattle.sort_formula.proofs.+fits.Goals as goal

pub formula::Formula::fits-returns-in-And : goal.formula::Formula::fits-returns-in-And
formula::Formula::fits-returns-in-And t c =
    let whole = fits_parts c.args.tables.now c.args.self.now c.in-And.parts (tables_outside c.args.outside.now) c.in-And.is in
    cc
