use Rattle.std.proofs.Common.{◌≡◌, ◌+◌, ◌-◌, ◌^◌, ◌≤◌, drop}
use Rattle.sorted_skolem.specs.inner.Listing.{capped, tallied}
use Rattle.sorted_skolem.proofs.count.count_so_far.Given as goal

-- what is counted, and what is left
abbrev pub invariant-loop-tally : goal.invariant-loop-tally
invariant-loop-tally l = record {
  within : l.count ≤ 2 ^ 64 - 1;
  total : capped (l.count + tallied (drop l.tally-index l.tallies) l.table) ≡ capped (tallied l.tallies l.table);
}
