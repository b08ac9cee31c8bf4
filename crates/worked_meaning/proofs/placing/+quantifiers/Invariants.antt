use Rattle.std.proofs.Common.{◌≡◌, ◌+◌, ◌-◌, ◌^◌, ◌≤◌, drop, map, min}
use Rattle.std.specs.Prelude.{sum}
use Rattle.sort_formula.specs.Nodes.{quantifiers}
use Rattle.worked_meaning.proofs.placing.+quantifiers.Given as goal

-- what is counted, and those that are left
abbrev pub invariant-quantifiers_of_all-loop-part : goal.invariant-quantifiers_of_all-loop-part
invariant-quantifiers_of_all-loop-part l = record {
  within : l.count ≤ 2 ^ 64 - 1;
  total : min (l.count + sum (map quantifiers (drop l.part-index l.parts))) (2 ^ 64 - 1) ≡ min (sum (map quantifiers l.parts)) (2 ^ 64 - 1);
}
