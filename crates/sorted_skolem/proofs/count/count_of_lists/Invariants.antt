use Rattle.std.proofs.Common.{◌≡◌, ◌*◌, ◌-◌, ◌^◌, ◌≤◌, drop}
use Rattle.sorted_skolem.specs.inner.Listing.{capped, lists_tallied}
use Rattle.sorted_skolem.proofs.count.count_of_lists.Given as goal

-- what is counted, times what is left
abbrev pub invariant-loop-table : goal.invariant-loop-table
invariant-loop-table l = record {
  within : l.count ≤ 2 ^ 64 - 1;
  total : capped (l.count * lists_tallied l.tallies (drop l.table-index l.tables)) ≡ capped (lists_tallied l.tallies l.tables);
}
