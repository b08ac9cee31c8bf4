use Rattle.std.proofs.Common.{◌∙◌, sym, subst, ◌+◌, length, List}
use Rattle.lint_core.specs.declared.database.Counter.{Counter}
use Rattle.lint_core.specs.declared.database.Value.{Value}
use Rattle.lint_core.specs.declared.query.Question.{Question}
use Rattle.lint_core.specs.declared.query.Question.TheVariants.{Constant}
use Rattle.lint_core.specs.declared.run.Answer.{Answer}
use Rattle.lint_core.specs.declared.run.Answer.TheVariants.{NotAlways}
use Rattle.lint_engine.specs.Asking.{Numbers}
use Rattle.lint_engine.specs.AskingAll.{IsConstantAnswer, IsOwnAnswer}
use Rattle.lint_engine.specs.Earlier.{answered, empty_counter, given_for}
use Rattle.lint_engine.proofs.Plain.{items_are_plain}
use Rattle.lint_engine.proofs.Turns.{constant_else, constant_two, first_there, given_is, next_is_asked, own_of}
use Rattle.lint_engine.proofs.asking_all.constant.Goals as goal

pub unreachable-requires : goal.unreachable-requires
unreachable-requires c =
    let task = c.args.task.now in
    first_there task.schema.now task.query.now task.number task.budget c.args.asked.now c.args.answers.now c.args.item c.requires.turn c.requires.unblocked c.requires.worth c.in_default.ensures

pub value_there-requires : goal.value_there-requires
value_there-requires c = items_are_plain c.args.task.now.schema.now c.args.task.now.query.now c.requires.fits

pub ask-requires-clause-asked : goal.ask-requires-clause-asked
ask-requires-clause-asked c =
    let task = c.args.task.now in
    next_is_asked task.schema.now task.query.now task.number task.budget c.args.asked.now c.args.answers.now (Constant c.args.item) c.requires.turn

pub returns-in-NotAlways : goal.returns-in-NotAlways
returns-in-NotAlways c =
    let task = c.args.task.now in
    let asked = c.args.asked.now in
    let answers = c.args.answers.now in
    let q : Question = Constant c.args.item in
    let first : Counter = c.in-Some.first.now in
    let given : Value = given_for task.query.now (answered 1 asked answers) q in
    let numbers : Numbers = record { query = task.number; question = 1 + length asked } in
    let own = own_of task.schema.now task.query.now task.number task.budget asked answers q c.requires.turn c.requires.unblocked c.in_ok-given.given
    (c.in_ok-given.ensures ∙ given_is task.query.now (answered 1 asked answers) c.args.item first c.in-Some.ensures) c.in_ok-answer.answer c.in_ok-answer.ensures in
    subst (λ (cs : List Counter). IsConstantAnswer task.schema.now task.query.now q given (empty_counter (answered 1 asked answers)) numbers task.budget (NotAlways cs)) (sym c.in_ok-with_first.ensures)
    (constant_two task.schema.now task.query.now q given numbers task.budget (empty_counter (answered 1 asked answers)) first c.in-Some.ensures c.in-NotAlways.counters
    (subst (λ (a : Answer). IsOwnAnswer task.schema.now task.query.now q given numbers task.budget a) c.in-NotAlways.is own))

pub returns : goal.returns
returns c =
    let task = c.args.task.now in
    let asked = c.args.asked.now in
    let answers = c.args.answers.now in
    let q : Question = Constant c.args.item in
    let first : Counter = c.in-Some.first.now in
    let given : Value = given_for task.query.now (answered 1 asked answers) q in
    let numbers : Numbers = record { query = task.number; question = 1 + length asked } in
    let own = own_of task.schema.now task.query.now task.number task.budget asked answers q c.requires.turn c.requires.unblocked c.in_ok-given.given
    (c.in_ok-given.ensures ∙ given_is task.query.now (answered 1 asked answers) c.args.item first c.in-Some.ensures) c.in_ok-answer.answer c.in_ok-answer.ensures in
    constant_else task.schema.now task.query.now q given numbers task.budget (empty_counter (answered 1 asked answers)) c.in_ok-answer.answer c.in_default-answer.not-NotAlways own
