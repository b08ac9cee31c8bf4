use Rattle.std.proofs.Common.{◌≡◌, ◌++◌, map, take}
use Rattle.instantiate.specs.inner.Listings.{clauses_at}
use Rattle.instantiate.proofs.clauses.add_node.Given as goal

-- those of the lists so far
abbrev pub invariant-loop-rows : goal.invariant-loop-rows
invariant-loop-rows l =
    l.clauses ≡ l.initial.clauses ++ clauses_at l.listing (map (λ rows. record { sentence = l.sentence; node = l.number; rows = rows }) (take l.rows-index l.rows-items))
