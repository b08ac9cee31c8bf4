use Rattle.std.proofs.Common.{◌≡◌, map, drop, string_bytes}
use Rattle.command_words.specs.inner.Progress.{progress, comes_to}
use Rattle.command_words.proofs.reading.Progress.with_words.Given as goal

abbrev pub invariant-loop-word : goal.invariant-loop-word
invariant-loop-word l = comes_to (progress l.fn.self) (map string_bytes l.words) ≡ comes_to (progress l.progress) (map string_bytes (drop l.word-index l.words))
