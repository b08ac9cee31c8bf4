use Rattle.std.proofs.Common.{◌≡◌, length, map}
use Rattle.proof_cert.specs.inner.Sizes.{size_of_all}
use Rattle.proof_cert.specs.inner.Paths.{IsIndexed}
use Rattle.proof_cert.specs.inner.Writing.{IsWork, tree_of, waits_of}
use Rattle.proof_cert.proofs.writing.steps_of.Given as goal

abbrev pub invariant-loop-next : goal.invariant-loop-next
invariant-loop-next l = record {
  indexed : IsIndexed l.path;
  places : length l.path.places.items ≡ length l.source.problem.now.clauses;
  work : IsWork l.source.problem.now l.source.makers l.path.splits.items l.waiting.items l.steps;
}

abbrev pub decreases-loop-next : goal.decreases-loop-next
decreases-loop-next l = size_of_all (map tree_of (waits_of l.waiting.items))
