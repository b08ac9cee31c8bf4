use Rattle.std.proofs.Common.{◌≡◌, ◌∙◌, ap, sym, subst, List, [], ◌∷◌, ◌++◌}
use Rattle.lint_core.specs.declared.database.Counter.{Counter}
use Rattle.lint_core.specs.declared.run.Answer.TheVariants.{NotAlways}
use Rattle.lint_engine.specs.Asking.{Numbers, IsAskAnswer}
use Rattle.case_split.specs.Answers.{IsAnswer}
use Rattle.lint_engine.proofs.Judged.{limits, spent}
use Rattle.lint_engine.proofs.asking.judged.Goals as goal

pub returns-in-Spent : goal.returns-in-Spent
returns-in-Spent c =
    let task = c.args.task.now in
    let problem = c.args.problem.now in
    spent task.schema.now task.query.now task.question.now task.given.now problem c.requires.ready c.args.budget c.in-Spent.tried
    (subst (IsAnswer problem.clauses problem.frame c.args.budget) c.in-Spent.is c.in_ok-tried.ensures)

pub returns-in_ok-certified-in-Closed : goal.returns-in_ok-certified-in-Closed
returns-in_ok-certified-in-Closed c =
    let task = c.args.task.now in
    record {
      limits = limits task.schema.now task.query.now task.question.now task.given.now c.args.problem.now c.requires.ready;
      certificate = c.in_ok-certified-in-Closed.ensures.certificate;
      holds = c.in_ok-certified-in-Closed.ensures.holds;
    }

pub returns-in_ok-push-in-Open : goal.returns-in_ok-push-in-Open
returns-in_ok-push-in-Open c =
    let task = c.args.task.now in
    let numbers : Numbers = record { query = task.numbers.0; question = task.numbers.1 } in
    let counter : Counter = c.in_ok-refuted-in-Open.field-0 in
    let is : c.push.new.self ≡ counter ∷ [] = c.in_ok-push-in-Open.ensures.ok ∙ ap (λ (xs : List Counter). xs ++ counter ∷ []) c.new-counters.ensures in
    subst (λ (xs : List Counter). IsAskAnswer task.schema.now task.query.now task.question.now task.given.now numbers c.args.budget (NotAlways xs)) (sym is)
    (record {
      limits = limits task.schema.now task.query.now task.question.now task.given.now c.args.problem.now c.requires.ready;
      counter_is = c.in_ok-refuted-in-Open.ensures.counter;
      fails = c.in_ok-refuted-in-Open.ensures.fails;
    })
