use Rattle.std.proofs.Common.{◌≡◌, map}
use Rattle.lint_core.specs.Database.{below}
use Rattle.instantiate.specs.inner.Spots.{saturated, size_before}
use Rattle.instantiate.proofs.counts.starts.Given as goal

abbrev pub invariant-loop-stage : goal.invariant-loop-stage
invariant-loop-stage l = record {
  starts : l.starts ≡ map (λ stage. saturated (size_before l.all stage)) (below l.stage);
  total : l.total ≡ saturated (size_before l.all l.stage);
}
