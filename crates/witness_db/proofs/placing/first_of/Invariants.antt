use Rattle.std.proofs.Common.{◌≡◌, []}
use Rattle.std.specs.List.{filter}
use Rattle.lint_core.specs.Database.{below}
use Rattle.ground_theory.specs.Assignments.{are_one}
use Rattle.witness_db.specs.inner.Placing.{is_there, is_alike}
use Rattle.witness_db.proofs.placing.first_of.Given as goal

-- none so far
abbrev pub invariant-loop-other : goal.invariant-loop-other
invariant-loop-other l = filter (is_alike (is_there l.present) (are_one l.assignment) l.row) (below l.other) ≡ []
