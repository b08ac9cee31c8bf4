use Rattle.std.proofs.Common.{◌≡◌, [], length, take}
use Rattle.sorted_skolem.specs.inner.Listing.{capped, terms_by}
use Rattle.sorted_skolem.proofs.Tallying.{AreTallied}
use Rattle.sorted_skolem.proofs.count.count_terms.Given as goal

abbrev pub invariant-loop-table : goal.invariant-loop-table
invariant-loop-table l = record {
  tallied : AreTallied l.tallies.items (terms_by l.asks [] (take l.table-index l.tables));
  total : l.total ≡ capped (length (terms_by l.asks [] (take l.table-index l.tables)));
}
