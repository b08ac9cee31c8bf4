use Rattle.std.proofs.Common.{◌∙◌}
use Rattle.lint_engine.proofs.Judged.{accepted}
use Rattle.lint_engine.proofs.asking.certificate_of.Goals as goal

pub from_tree-requires : goal.from_tree-requires
from_tree-requires c =
    let task = c.args.task.now in
    let ready = c.requires.ready in
    record {
      problem = (task.schema.now, ready.grounded.problem_is);
      sentences = ready.grounded.closed;
      rows = ready.grounded.few_rows;
      clauses = ready.few_clauses;
      nodes = ready.grounded.few_nodes;
      closed = c.requires.closed;
    }

pub returns-clause-certificate : goal.returns-clause-certificate
returns-clause-certificate c =
    let task = c.args.task.now in
    record {
      names_query = c.in_ok-cert.ensures.query;
      names_question = c.in_ok-cert.ensures.question;
      names_value = c.in_ok-cert.ensures.value ∙ c.in_ok-value.ensures;
      accepted = accepted task.schema.now task.query.now task.question.now task.given.now c.args.problem.now c.requires.ready c.in_ok-cert.cert.steps c.in_ok-cert.ensures.steps;
    }

pub returns-clause-holds : goal.returns-clause-holds
returns-clause-holds c =
    let task = c.args.task.now in
    c.accepted_questions_hold.ensures task.schema.now c.tables.ensures.schema task.query.now c.requires.fits task.question.now c.requires.asked task.given.now c.in_ok-cert.cert.steps
    (accepted task.schema.now task.query.now task.question.now task.given.now c.args.problem.now c.requires.ready c.in_ok-cert.cert.steps c.in_ok-cert.ensures.steps)
