use Rattle.std.proofs.Common.{◌≡◌, length}
use Rattle.sql_bind.specs.Names.{places_named}
use Rattle.sql_bind.specs.inner.Found.{found_among, found_after}
use Rattle.sql_bind.proofs.terms.found_among.Given as goal

-- what was found, with what the rest has, is what all have
abbrev pub invariant-loop-entry : goal.invariant-loop-entry
invariant-loop-entry l =
    found_after l.found (places_named l.tables l.name l.number l.rest) ≡ found_among (places_named l.tables l.name l.first l.entries)

abbrev pub decreases-loop-entry : goal.decreases-loop-entry
decreases-loop-entry l = length l.rest
