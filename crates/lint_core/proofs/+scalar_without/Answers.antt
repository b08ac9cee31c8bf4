use Rattle.std.proofs.Common.{◌∙◌, sym}
use Rattle.lint_core.proofs.Alone.{without_and, without_alone, alone}
use Rattle.lint_core.proofs.+scalar_without.Goals as goal

pub condition::Cond::has_scalar_without-returns-in-And :
    goal.condition::Cond::has_scalar_without-returns-in-And
condition::Cond::has_scalar_without-returns-in-And t c =
    let is = c.in-And.is in
    let whole = without_and c.args.entry c.in-And.parts in
    rw is (cc)

pub condition::Cond::has_scalar_without-returns-in_default :
    goal.condition::Cond::has_scalar_without-returns-in_default
condition::Cond::has_scalar_without-returns-in_default t c =
    let self = c.args.self.now in
    c.has_scalar_and_not.ensures ∙ sym (without_alone c.args.entry self (alone self c.in_default.not-And))
