use Rattle.std.proofs.Common.{◌≡◌, ◌+◌, ◌-◌, ◌^◌, ◌≤◌, drop}
use Rattle.sorted_skolem.specs.inner.Listing.{capped, asks_tallied}
use Rattle.sorted_skolem.proofs.count.count_of_table.Given as goal

-- what is counted, and what is left
abbrev pub invariant-loop-ask : goal.invariant-loop-ask
invariant-loop-ask l = record {
  within : l.count ≤ 2 ^ 64 - 1;
  total : capped (l.count + asks_tallied l.tallies l.table (drop l.ask-index l.asks)) ≡ capped (asks_tallied l.tallies l.table l.asks);
}
