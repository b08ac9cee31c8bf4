use Rattle.std.proofs.Common.{◌≡◌, map}
use Rattle.lint_core.specs.Database.{below}
use Rattle.witness_db.specs.inner.Placing.{place_at}
use Rattle.witness_db.proofs.placing.places_of.Given as goal

abbrev pub invariant-loop-row : goal.invariant-loop-row
invariant-loop-row l = l.places ≡ map (place_at l.tables l.firsts) (below l.row)
