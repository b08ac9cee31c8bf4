use Rattle.std.proofs.Common.{◌≡◌, map, take}
use Rattle.sorted_skolem.specs.declared.term.RowTerm.{RowTerm}
use Rattle.instantiate.specs.Ground.{maker_of}
use Rattle.instantiate.specs.Keys.{number_of}
use Rattle.instantiate.specs.inner.Listings.{keys_for}
use Rattle.instantiate.proofs.numbers.maker_numbers_in.Given as goal

abbrev pub invariant-loop-term : goal.invariant-loop-term
invariant-loop-term l = l.numbers ≡ map (λ (t : RowTerm). number_of (keys_for l.listing) (maker_of t)) (take l.term-index l.terms)
