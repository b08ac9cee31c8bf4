use Rattle.std.proofs.Common.{◌≡◌, take}
use Rattle.sort_formula.proofs.+copy.Given as goal

abbrev pub invariant-copies::copy_parts-loop-part : goal.invariant-copies::copy_parts-loop-part
invariant-copies::copy_parts-loop-part l = l.copies ≡ take l.part-index l.parts
