use Rattle.command_words.specs.Said.{asked_by}
use Rattle.lint_run.proofs.Entries.{read_run}
use Rattle.lint_run.proofs.judging.result_of.Goals as goal

pub returns-in-Ok : goal.returns-in-Ok
returns-in-Ok c = read_run (asked_by c.args.task) c.args.schema.now c.args.number c.args.text.now c.args.piece c.in-Ok.query c.answered.result c.in-Ok.ensures.read c.answered.ensures
