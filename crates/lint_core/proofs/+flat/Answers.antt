use Rattle.lint_core.proofs.Fitting.{flat_parts}
use Rattle.lint_core.proofs.+flat.Goals as goal

pub condition::Cond::is_flat-returns-in-And : goal.condition::Cond::is_flat-returns-in-And
condition::Cond::is_flat-returns-in-And t c =
    let whole = flat_parts c.args.self.now c.in-And.parts c.in-And.is in
    cc
