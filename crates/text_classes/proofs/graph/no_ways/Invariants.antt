use Rattle.std.proofs.Common.{◌≡◌, [], replicate}
use Rattle.text_classes.proofs.graph.no_ways.Given as goal

abbrev pub invariant-loop : goal.invariant-loop
invariant-loop l = l.ways.items ≡ replicate l.counter []
