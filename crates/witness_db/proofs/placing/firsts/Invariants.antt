use Rattle.std.proofs.Common.{◌≡◌, map}
use Rattle.lint_core.specs.Database.{below}
use Rattle.ground_theory.specs.Assignments.{are_one}
use Rattle.witness_db.specs.inner.Placing.{is_there, first_at}
use Rattle.witness_db.proofs.placing.firsts.Given as goal

abbrev pub invariant-loop-row : goal.invariant-loop-row
invariant-loop-row l = l.firsts ≡ map (first_at (is_there l.present) (are_one l.assignment)) (below l.row)
