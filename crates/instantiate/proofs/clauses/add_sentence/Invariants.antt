use Rattle.std.proofs.Common.{◌≡◌, ◌++◌, map, take}
use Rattle.instantiate.specs.inner.Flat.{node_of}
use Rattle.instantiate.specs.inner.Listings.{sentence_clauses}
use Rattle.instantiate.proofs.clauses.add_sentence.Given as goal

-- those of the nodes so far
abbrev pub invariant-loop-number : goal.invariant-loop-number
invariant-loop-number l =
    l.clauses ≡ l.initial.clauses ++ sentence_clauses l.listing l.stage l.sentence (map node_of (take l.number l.nodes))
