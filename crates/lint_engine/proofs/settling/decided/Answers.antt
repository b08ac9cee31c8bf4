use Rattle.std.proofs.Common.{subst}
use Rattle.case_split.specs.Answers.{IsAnswer}
use Rattle.lint_engine.proofs.Judged.{parts_spent}
use Rattle.lint_engine.proofs.settling.decided.Goals as goal

pub returns-in-Spent : goal.returns-in-Spent
returns-in-Spent c =
    let problem = c.args.problem.now in
    parts_spent c.args.schema.now c.args.parts.now problem c.requires.ready c.args.budget c.in-Spent.tried
    (subst (IsAnswer problem.clauses problem.frame c.args.budget) c.in-Spent.is c.in_ok-tried.ensures)

pub returns-in-Open : goal.returns-in-Open
returns-in-Open c = c.satisfied.ensures c.args.budget
