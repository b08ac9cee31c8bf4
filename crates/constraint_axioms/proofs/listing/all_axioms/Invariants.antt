use Rattle.std.proofs.Common.{◌≡◌, ◌++◌, map, drop, true}
use Rattle.lint_core.specs.Schema.{are_tables}
use Rattle.sort_formula.specs.Axioms.{axioms, axioms_from}
use Rattle.constraint_axioms.specs.Spoken.{spoken}
use Rattle.constraint_axioms.proofs.listing.all_axioms.Given as goal

abbrev pub invariant-loop-number : goal.invariant-loop-number
invariant-loop-number l = record {
  right : are_tables l.schema l.number (drop l.number l.schema) ≡ true;
  listed : map spoken l.axioms.items ++ axioms_from l.schema l.number (drop l.number l.schema) ≡ axioms l.schema;
}
