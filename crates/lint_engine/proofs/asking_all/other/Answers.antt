use Rattle.lint_core.specs.declared.database.Value.TheVariants.{Null}
use Rattle.lint_engine.specs.Earlier.{answered}
use Rattle.lint_engine.proofs.Turns.{given_other, next_is_asked, own_of}
use Rattle.lint_engine.proofs.asking_all.other.Goals as goal

pub ask-requires-clause-asked : goal.ask-requires-clause-asked
ask-requires-clause-asked c =
    let task = c.args.task.now in
    next_is_asked task.schema.now task.query.now task.number task.budget c.args.asked.now c.args.answers.now c.args.question.now c.requires.turn

pub returns : goal.returns
returns c =
    let task = c.args.task.now in
    let asked = c.args.asked.now in
    let answers = c.args.answers.now in
    let q = c.args.question.now in
    own_of task.schema.now task.query.now task.number task.budget asked answers q c.requires.turn c.requires.unblocked Null
    (given_other task.query.now (answered 1 asked answers) q c.requires.other) c.in_ok-answer.answer c.in_ok-answer.ensures
