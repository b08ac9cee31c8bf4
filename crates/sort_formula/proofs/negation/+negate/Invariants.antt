use Rattle.std.proofs.Common.{◌≡◌, take, map}
use Rattle.sort_formula.specs.Negated.{negated}
use Rattle.sort_formula.proofs.negation.+negate.Given as goal

abbrev pub invariant-negate_parts-loop-part : goal.invariant-negate_parts-loop-part
invariant-negate_parts-loop-part l = l.negations ≡ map negated (take l.part-index l.parts)
