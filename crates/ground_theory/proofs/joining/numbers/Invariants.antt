use Rattle.std.proofs.Common.{◌≡◌, ◌<◌, ℕ, length}
use Rattle.ground_theory.specs.inner.Joining.{label_at}
use Rattle.ground_theory.proofs.joining.numbers.Given as goal

abbrev pub invariant-loop-number : goal.invariant-loop-number
invariant-loop-number l = record {
  count : length l.all.items ≡ l.number;
  each : (k : ℕ) → k < l.number → label_at l.all.items k ≡ k;
}
