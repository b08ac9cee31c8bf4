use Rattle.std.proofs.Common.{◌≡◌, ◌+◌, ◌-◌, ◌^◌, ◌≤◌, drop, map, min}
use Rattle.std.specs.Prelude.{sum}
use Rattle.sort_formula.specs.Nodes.{nodes}
use Rattle.sort_formula.proofs.+nodes.Given as goal

-- what is counted, and those that are left
abbrev pub invariant-sentence::nodes_of_all-loop-part : goal.invariant-sentence::nodes_of_all-loop-part
invariant-sentence::nodes_of_all-loop-part l = record {
  within : l.count ≤ 2 ^ 64 - 1;
  total : min (l.count + sum (map nodes (drop l.part-index l.parts))) (2 ^ 64 - 1) ≡ min (sum (map nodes l.parts)) (2 ^ 64 - 1);
}
