use Rattle.std.proofs.Common.{◌≡◌, ◌≤◌, ◌++◌, [], length, map, take, drop}
use Rattle.instantiate.specs.Ground.{rows_along}
use Rattle.instantiate.specs.inner.Flat.{quantifier_of}
use Rattle.instantiate.proofs.clauses.variables.Given as goal

-- those of the quantifiers so far
abbrev pub invariant-loop-binder : goal.invariant-loop-binder
invariant-loop-binder l = record {
  within : l.used ≤ length l.rows;
  made : l.variables ++ rows_along l.terms l.sentence (take l.used l.rows) (drop l.used l.rows) (map quantifier_of (drop l.binder-index l.around))
      ≡ rows_along l.terms l.sentence [] l.rows (map quantifier_of l.around);
}
