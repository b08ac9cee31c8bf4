use Rattle.std.proofs.Common.{◌≡◌, take}
use Rattle.sorted_skolem.specs.Terms.{term_lists}
use Rattle.instantiate.proofs.rows.term_lists.Given as goal

abbrev pub invariant-loop-table : goal.invariant-loop-table
invariant-loop-table l = l.lists ≡ term_lists l.terms (take l.table-index l.tables)
