use Rattle.std.proofs.Common.{◌-ℤ◌, to_z, of_z, arith}
use Rattle.std.proofs.lemmas.Int.{ints}
use Rattle.std.specs.Int.{w128}
use Rattle.truth_formula.proofs.Nearness.{near_between}
use Rattle.truth_formula.proofs.sides.difference.Goals as goal

pub returns-clause-near : goal.returns-clause-near
returns-clause-near c =
    let greater = to_z w128 (of_z w128 c.from.result) in
    let lesser = to_z w128 (of_z w128 c.from-2.result) in
    let less = to_z w128 (of_z w128 c.from-3.result) in
    near_between (to_z w128 (of_z w128 (to_z w128 (of_z w128 (greater -ℤ lesser)) -ℤ less))) (omega (arith, ints)) (omega (arith, ints))
