use Rattle.sort_formula.specs.inner.Standing.{tables_outside}
use Rattle.sort_formula.proofs.Fitting.{bound_parts}
use Rattle.sort_formula.proofs.+bound.Goals as goal

pub formula::Formula::is_bound-returns-in-And : goal.formula::Formula::is_bound-returns-in-And
formula::Formula::is_bound-returns-in-And t c =
    let whole = bound_parts c.args.self.now c.in-And.parts (tables_outside c.args.outside.now) c.in-And.is in
    cc
