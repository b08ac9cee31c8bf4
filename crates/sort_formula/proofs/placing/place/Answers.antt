use Rattle.std.proofs.Common.{◌+◌, ◌-◌, ◌^◌, length, arith}
use Rattle.sort_formula.proofs.Below.{variables_below}
use Rattle.sort_formula.proofs.placing.place.Goals as goal

pub place_formula-requires : goal.place_formula-requires
place_formula-requires c =
    variables_below c.args.formula.now (length c.args.map.now) (length c.args.map.now + (2 ^ 32 - c.args.depth)) c.requires.variables (omega arith)
