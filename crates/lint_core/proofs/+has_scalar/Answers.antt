use Rattle.lint_core.proofs.NamedEntries.{scalar_parts}
use Rattle.lint_core.proofs.+has_scalar.Goals as goal

pub condition::Cond::has_scalar-returns-in-And : goal.condition::Cond::has_scalar-returns-in-And
condition::Cond::has_scalar-returns-in-And t c =
    let whole = scalar_parts c.args.self.now c.in-And.parts c.in-And.is in
    cc
