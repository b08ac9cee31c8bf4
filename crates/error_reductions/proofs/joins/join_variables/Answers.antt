use Rattle.std.proofs.Common.{◌≡◌, ◌∙◌, ◌-◌, ap, length, arith}
use Rattle.sort_formula.specs.Sides.{from_number}
use Rattle.error_reductions.proofs.Variables.{length_from}
use Rattle.error_reductions.proofs.joins.join_variables.Goals as goal

pub insert-requires : goal.insert-requires
insert-requires c =
    let long : length c.into_vec-variables.result.items ≡ length (from_number 0 (c.args.count - 1)) = ap length (c.into_vec-variables.ensures ∙ c.in_ok-from_number.ensures) in
    omega (arith, long, length_from 0 (c.args.count - 1))
