use Rattle.std.proofs.Common.{◌≡◌, ◌+◌, drop}
use Rattle.instantiate.specs.Ground.{term_number}
use Rattle.instantiate.proofs.listing.term_number.Given as goal

abbrev pub invariant-loop-number : goal.invariant-loop-number
invariant-loop-number l =
    term_number l.terms (record { sentence = l.sentence; node = l.node; rows = l.rows })
    ≡ l.number + term_number (drop l.number l.terms) (record { sentence = l.sentence; node = l.node; rows = l.rows })
