use Rattle.std.proofs.Common.{◌≡◌, ◌++◌, take, map}
use Rattle.sorted_skolem.proofs.edges.push_edges.Given as goal

abbrev pub invariant-loop-from : goal.invariant-loop-from
invariant-loop-from l = l.edges.items ≡ l.initial.edges.items ++ map (λ from. record { from = from; to = l.to }) (take l.from-index l.tables)
