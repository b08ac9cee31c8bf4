use Rattle.std.proofs.Common.{◌≡◌, ◌<◌, ℕ, length}
use Rattle.text_classes.specs.inner.Nodes.{text_at}
use Rattle.text_classes.specs.inner.Fresh.{held_text, held_at}
use Rattle.text_classes.proofs.labels.texts.Given as goal

abbrev pub invariant-loop-class : goal.invariant-loop-class
invariant-loop-class l = record {
  count : length l.texts.items ≡ l.class;
  each : (k : ℕ) → k < l.class → text_at l.texts.items k ≡ held_text l.vars l.constants l.prefix k (held_at l.held k);
}
