use Rattle.std.proofs.Common.{◌≡◌, ◌+◌, ◌-◌, ◌^◌, length, true, take, drop, map}
use Rattle.std.specs.List.{list_all}
use Rattle.sort_formula.specs.Placed.{placed}
use Rattle.sort_formula.specs.Variables.{is_below}
use Rattle.sort_formula.proofs.placing.+place.Given as goal

abbrev pub invariant-place_parts-loop-part : goal.invariant-place_parts-loop-part
invariant-place_parts-loop-part l = record {
  made : l.copies ≡ map (placed l.numbers l.depth) (take l.part-index l.parts);
  below : list_all (is_below (length l.numbers + (2 ^ 32 - l.depth))) (drop l.part-index l.parts) ≡ true;
}
