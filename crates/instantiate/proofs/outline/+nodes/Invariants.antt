use Rattle.std.proofs.Common.{◌≡◌, ◌+◌, ◌≤◌, ◌<◌, ◌^◌, ◌++◌, length, drop, map}
use Rattle.std.specs.Prelude.{sum}
use Rattle.sort_formula.specs.Nodes.{nodes}
use Rattle.sorted_skolem.specs.Preorder.{laid, laid_parts}
use Rattle.instantiate.specs.inner.Flat.{node_of, quantifier_of}
use Rattle.instantiate.proofs.outline.+nodes.Given as goal

-- those of the parts so far
abbrev pub invariant-add_parts-loop-part : goal.invariant-add_parts-loop-part
invariant-add_parts-loop-part l = record {
  room : length l.found + sum (map nodes (drop l.part-index l.parts)) < 2 ^ 32;
  ways : l.way ≤ length l.found;
  made : map node_of l.found ++ laid_parts l.is_or l.node l.way (length l.found) (map quantifier_of l.around) (map laid (drop l.part-index l.parts))
      ≡ map node_of l.initial.found ++ laid_parts l.is_or l.node 0 (length l.initial.found) (map quantifier_of l.around) (map laid l.parts);
}
