use Rattle.std.proofs.Common.{◌≡◌, [], drop}
use Rattle.sorted_skolem.specs.inner.Listing.{terms_by}
use Rattle.sorted_skolem.proofs.rows.rows_of.Given as goal

-- the terms so far, and those of the tables that are left
abbrev pub invariant-loop-table : goal.invariant-loop-table
invariant-loop-table l = terms_by l.asks.items l.terms.items (drop l.table-index l.tables) ≡ terms_by l.asks.items [] l.tables
