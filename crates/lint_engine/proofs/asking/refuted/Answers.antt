use Rattle.lint_engine.proofs.Judged.{axioms_there, counter_first}
use Rattle.lint_engine.specs.Asking.{IsCounter}
use Rattle.lint_engine.proofs.asking.refuted.Goals as goal

pub build-requires : goal.build-requires
build-requires c =
    let task = c.args.task.now in
    let ready = c.requires.ready in
    record {
      query = c.requires.fits;
      asked = c.requires.asked;
      counter = counter_first task.schema.now task.query.now task.question.now task.given.now c.args.problem.now ready;
      full = record {
        problem_is = ready.grounded.problem_is;
        closed = ready.grounded.closed;
        full = c.requires.first.first.full;
        assigned = c.requires.first.settled.is;
        satisfied = c.requires.first.settled.satisfied;
      };
      limits = record {
        few_rows = ready.grounded.few_rows;
        few_clauses = ready.few_clauses;
        few_nodes = ready.grounded.few_nodes;
        frame_is = c.problems_can_be_searched.ensures.frame task.schema.now c.args.problem.now ready.grounded;
      };
    }

pub returns-clause-counter : goal.returns-clause-counter
returns-clause-counter c =
    let task = c.args.task.now in
    record {
      fits = c.in_ok-counter.ensures.fits;
      meets_schema = c.in_ok-counter.ensures.meets (axioms_there task.schema.now task.query.now task.question.now task.given.now c.args.problem.now c.requires.ready);
      refuted = c.in_ok-counter.ensures.refutes;
    }

pub returns-clause-fails : goal.returns-clause-fails
returns-clause-fails c =
    let task = c.args.task.now in
    let is : IsCounter task.schema.now task.query.now task.question.now task.given.now c.in_ok-counter.counter =
    record {
      fits = c.in_ok-counter.ensures.fits;
      meets_schema = c.in_ok-counter.ensures.meets (axioms_there task.schema.now task.query.now task.question.now task.given.now c.args.problem.now c.requires.ready);
      refuted = c.in_ok-counter.ensures.refutes;
    } in
    c.loose_points_refute.ensures task.schema.now task.query.now c.requires.fits task.question.now c.requires.asked task.given.now c.in_ok-counter.counter is
