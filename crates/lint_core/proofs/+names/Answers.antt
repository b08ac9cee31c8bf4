use Rattle.lint_core.proofs.NamedEntries.{names_parts}
use Rattle.lint_core.proofs.+names.Goals as goal

pub condition::Cond::names-returns-in-And : goal.condition::Cond::names-returns-in-And
condition::Cond::names-returns-in-And t c =
    let whole = names_parts c.args.entry c.args.self.now c.in-And.parts c.in-And.is in
    cc
