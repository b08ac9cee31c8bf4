use Rattle.std.proofs.Common.{◌≡◌, map, take}
use Rattle.witness_db.specs.inner.Placing.{is_chosen_at}
use Rattle.witness_db.proofs.placing.are_chosen.Given as goal

abbrev pub invariant-loop-clause : goal.invariant-loop-clause
invariant-loop-clause l = l.chosen ≡ map (is_chosen_at l.choices) (take l.clause-index l.clauses)
