use Rattle.std.proofs.Common.{◌≡◌, ◌++◌, [], drop}
use Rattle.sorted_skolem.specs.inner.Asks.{asks_from}
use Rattle.sorted_skolem.proofs.asks.asks_of.Given as goal

abbrev pub invariant-loop-number : goal.invariant-loop-number
invariant-loop-number l = record {
  asks : l.walk.asks.items ++ asks_from l.number (drop l.number l.sentences) ≡ asks_from 0 l.sentences;
  foralls : l.walk.foralls.items ≡ [];
}
