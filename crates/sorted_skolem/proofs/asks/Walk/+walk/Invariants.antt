use Rattle.std.proofs.Common.{◌≡◌, ◌+◌, ◌++◌, drop, map}
use Rattle.sorted_skolem.specs.inner.Asks.{told, sizes, parts_asks}
use Rattle.sorted_skolem.proofs.asks.Walk.+walk.Given as goal

-- what was met, and what is left
abbrev pub invariant-parts-loop-part : goal.invariant-parts-loop-part
invariant-parts-loop-part l = record {
  asks : l.self.asks.items ++ parts_asks l.self.node l.self.foralls.items (map (told l.self.sentence) (drop l.part-index l.parts))
      ≡ l.initial.self.asks.items ++ parts_asks l.initial.self.node l.initial.self.foralls.items (map (told l.initial.self.sentence) l.parts);
  node : l.self.node + sizes (map (told l.self.sentence) (drop l.part-index l.parts)) ≡ l.initial.self.node + sizes (map (told l.initial.self.sentence) l.parts);
  sentence : l.self.sentence ≡ l.initial.self.sentence;
  foralls : l.self.foralls.items ≡ l.initial.self.foralls.items;
}
