use Rattle.std.proofs.Common.{◌≡◌, take}
use Rattle.instantiate.specs.inner.Flat.{tables_around}
use Rattle.instantiate.proofs.spots.tables_around.Given as goal

abbrev pub invariant-loop-binder : goal.invariant-loop-binder
invariant-loop-binder l = l.tables ≡ tables_around (take l.binder-index l.around)
