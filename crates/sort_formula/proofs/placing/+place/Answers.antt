use Rattle.std.proofs.Common.{rules, ◌+◌, ◌-◌, ◌^◌, length}
use Rattle.sort_formula.specs.declared.formula.Formula.TheViews.{sized-And, sized-Or}
use Rattle.sort_formula.proofs.Below.{below_and, below_or}
use Rattle.sort_formula.proofs.placing.+place.Goals as goal

pub place_formula-place_parts-requires : goal.place_formula-place_parts-requires
place_formula-place_parts-requires t c = (
  search (rules, sized-And),
  (let whole = below_and (length c.args.numbers.now + (2 ^ 32 - c.args.depth)) c.in-And.parts in
      cc),
)

pub place_formula-place_parts-requires-in-Or : goal.place_formula-place_parts-requires-in-Or
place_formula-place_parts-requires-in-Or t c = (
  search (rules, sized-Or),
  (let whole = below_or (length c.args.numbers.now + (2 ^ 32 - c.args.depth)) c.in-Or.parts in
      cc),
)
