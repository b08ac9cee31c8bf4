use Rattle.std.proofs.Common.{◌≡◌, length}
use Rattle.case_split.specs.inner.Steps.{IsPart}
use Rattle.case_split.proofs.taking.choices_at.Given as goal

abbrev pub invariant-loop-fact : goal.invariant-loop-fact
invariant-loop-fact l = record {
  long : length l.part.items ≡ length l.chosen;
  part : IsPart l.part.items l.chosen;
}
