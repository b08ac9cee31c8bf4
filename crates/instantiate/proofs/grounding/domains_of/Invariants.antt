use Rattle.std.proofs.Common.{◌≡◌, take}
use Rattle.instantiate.specs.Ground.{domains_of}
use Rattle.instantiate.proofs.grounding.domains_of.Given as goal

abbrev pub invariant-loop-table : goal.invariant-loop-table
invariant-loop-table l = l.domains ≡ domains_of (take l.table-index l.tables)
