use Rattle.std.proofs.Common.{◌≡◌}
use Rattle.witness_db.specs.Parts.{places_from}
use Rattle.lint_engine.proofs.parts.places_from.Given as goal

abbrev pub invariant-loop-number : goal.invariant-loop-number
invariant-loop-number l = l.rows ≡ places_from l.terms l.places l.node l.number
