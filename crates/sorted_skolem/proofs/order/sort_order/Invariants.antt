use Rattle.std.proofs.Common.{length}
use Rattle.sorted_skolem.proofs.Sorting.{AreKnown, IsSorting}
use Rattle.sorted_skolem.proofs.order.sort_order.Given as goal

abbrev pub invariant-loop-alloc : goal.invariant-loop-alloc
invariant-loop-alloc l = record {
  known : AreKnown l.sentences l.initial.waiting.items l.edges.items;
  sorting : IsSorting l.sentences l.tables.items l.waiting.items;
}

-- each turn takes a layer away
abbrev pub decreases-loop-alloc : goal.decreases-loop-alloc
decreases-loop-alloc l = length l.waiting.items
