use Rattle.lint_core.specs.declared.certificate.Step.TheVariants as step
use Rattle.cert_checker.proofs.Growing.{grown_runs, grown_steps}
use Rattle.cert_checker.proofs.run.Run.step.Goals as goal

pub returns-in-And-clause-run : goal.returns-in-And-clause-run
returns-in-And-clause-run c =
    grown_runs c.args.tables.now c.args.step.now c.args.self.now c.if-self.false c.requires c.take_apart.new.self c.take_apart.result c.take_apart.ensures.extends

pub returns-in-And-clause-stepped : goal.returns-in-And-clause-stepped
returns-in-And-clause-stepped c =
    rw c.in-And.is
    (grown_steps c.args.tables.now (step.And c.in-And.fact) c.args.self.now c.if-self.false c.requires c.take_apart.new.self c.take_apart.result
    c.take_apart.ensures.opened c.take_apart.ensures.extends)

pub returns-in-Ex-clause-run : goal.returns-in-Ex-clause-run
returns-in-Ex-clause-run c =
    grown_runs c.args.tables.now c.args.step.now c.args.self.now c.if-self.false c.requires c.take_row.new.self c.take_row.result c.take_row.ensures.extends

pub returns-in-Ex-clause-stepped : goal.returns-in-Ex-clause-stepped
returns-in-Ex-clause-stepped c =
    rw c.in-Ex.is
    (grown_steps c.args.tables.now (step.Ex c.in-Ex.fact) c.args.self.now c.if-self.false c.requires c.take_row.new.self c.take_row.result
    c.take_row.ensures.opened c.take_row.ensures.extends)

pub returns-in-All-clause-run : goal.returns-in-All-clause-run
returns-in-All-clause-run c =
    grown_runs c.args.tables.now c.args.step.now c.args.self.now c.if-self.false c.requires c.say_of_row.new.self c.say_of_row.result c.say_of_row.ensures.extends

pub returns-in-All-clause-stepped : goal.returns-in-All-clause-stepped
returns-in-All-clause-stepped c =
    rw c.in-All.is
    (grown_steps c.args.tables.now (step.All c.in-All.fact c.in-All.row) c.args.self.now c.if-self.false c.requires c.say_of_row.new.self c.say_of_row.result
    c.say_of_row.ensures.opened c.say_of_row.ensures.extends)
