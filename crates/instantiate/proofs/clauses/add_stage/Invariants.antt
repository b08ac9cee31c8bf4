use Rattle.std.proofs.Common.{◌≡◌, ◌++◌, take}
use Rattle.instantiate.specs.inner.Listings.{outlines_in, stage_clauses}
use Rattle.instantiate.proofs.clauses.add_stage.Given as goal

-- those of the sentences so far
abbrev pub invariant-loop-sentence : goal.invariant-loop-sentence
invariant-loop-sentence l = l.clauses ≡ l.initial.clauses ++ stage_clauses l.listing l.stage (take l.sentence (outlines_in l.listing))
