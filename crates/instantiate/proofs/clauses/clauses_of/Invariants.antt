use Rattle.std.proofs.Common.{◌≡◌}
use Rattle.std.specs.List.{flat_map}
use Rattle.lint_core.specs.Database.{below}
use Rattle.instantiate.specs.Keys.{keys_of_stage}
use Rattle.instantiate.specs.inner.Listings.{clauses_at, outlines_in}
use Rattle.instantiate.proofs.clauses.clauses_of.Given as goal

-- those of the stages so far
abbrev pub invariant-loop-stage : goal.invariant-loop-stage
invariant-loop-stage l =
    l.clauses ≡ clauses_at l.listing (flat_map (keys_of_stage l.listing.order.now l.listing.terms.now (outlines_in l.listing)) (below l.stage))
