use Rattle.std.proofs.Common.{◌≡◌, ◌≤◌, length, drop}
use Rattle.sorted_skolem.specs.Terms.{term_lists}
use Rattle.sorted_skolem.proofs.rows.lists_of.Given as goal

-- the lists of the last tables
abbrev pub invariant-loop-index : goal.invariant-loop-index
invariant-loop-index l = record {
  within : l.index ≤ length l.tables;
  lists : l.lists.items ≡ term_lists l.terms (drop l.index l.tables);
}

abbrev pub decreases-loop-index : goal.decreases-loop-index
decreases-loop-index l = l.index
