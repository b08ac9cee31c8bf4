use Rattle.std.proofs.Common.{◌<◌, ℕ, length, string_bytes}
use Rattle.std.specs.Str.{IsAscii}
use Rattle.text_classes.specs.inner.Nodes.{text_at}
use Rattle.text_classes.specs.inner.Fresh.{AreListed, Begins, IsListed}
use Rattle.text_classes.proofs.prefix.unused.Given as goal

abbrev pub invariant-loop-alloc : goal.invariant-loop-alloc
invariant-loop-alloc l = record {
  within : AreListed l.rest.items l.texts;
  whole : (k : ℕ) → k < length l.texts → Begins (string_bytes l.prefix) (text_at l.texts k) → IsListed l.rest.items k;
  ascii : IsAscii (string_bytes l.prefix);
}

-- fewer texts each time
abbrev pub decreases-loop-alloc : goal.decreases-loop-alloc
decreases-loop-alloc l = length l.rest.items
