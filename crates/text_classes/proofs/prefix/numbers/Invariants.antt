use Rattle.std.proofs.Common.{◌≡◌, ◌<◌, ℕ, length, slice_index_or}
use Rattle.text_classes.proofs.prefix.numbers.Given as goal

abbrev pub invariant-loop-number : goal.invariant-loop-number
invariant-loop-number l = record {
  count : length l.all.items ≡ l.number;
  each : (k : ℕ) → k < l.number → slice_index_or l.all.items k 0 ≡ k;
}
