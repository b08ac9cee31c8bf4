use Rattle.std.proofs.Common.{◌≡◌, ◌∷◌, ◌++◌, [], length, arith}
use Rattle.std.proofs.lemmas.Grind.{common_steps}
use Rattle.std.specs.Prelude.{not}
use Rattle.lint_core.specs.Points.{are_same_rows}
use Rattle.sql_meaning.proofs.Places.{differ_second, differ_ends, not_first, as_second}
use Rattle.sql_meaning.proofs.points.differ_in_last_level.Goals as goal

pub returns-in_default-split_last : goal.returns-in_default-split_last
returns-in_default-split_last c =
    let none : length c.args.other.now ≡ 0 = grind (arith, common_steps) in
    differ_second c.args.binding.now c.args.other.now none

pub returns-then-not-is_same_binding : goal.returns-then-not-is_same_binding
returns-then-not-is_same_binding c =
    let is : c.args.binding.now ≡ c.in-Some.outer.now ++ c.in-Some.rows.now ∷ [] = grind (arith, common_steps) in
    let other_is : c.args.other.now ≡ c.in-Some-split_last.other_outer.now ++ c.in-Some-split_last.others.now ∷ [] = grind (arith, common_steps) in
    not_first _ _ _ c.is_same_binding.result (differ_ends c.args.binding.now c.args.other.now c.in-Some.outer.now c.in-Some-split_last.other_outer.now c.in-Some.rows.now c.in-Some-split_last.others.now is other_is) c.is_same_binding.ensures c.if-not-is_same_binding.true

pub returns : goal.returns
returns c =
    let is : c.args.binding.now ≡ c.in-Some.outer.now ++ c.in-Some.rows.now ∷ [] = grind (arith, common_steps) in
    let other_is : c.args.other.now ≡ c.in-Some-split_last.other_outer.now ++ c.in-Some-split_last.others.now ∷ [] = grind (arith, common_steps) in
    let last : not c.are_same_rows.result ≡ not (are_same_rows c.in-Some.rows.now c.in-Some-split_last.others.now) = rw (← c.as_slice.ensures, ← c.as_slice-2.ensures, c.are_same_rows.ensures) in
    as_second _ _ _ c.is_same_binding.result (not c.are_same_rows.result) (differ_ends c.args.binding.now c.args.other.now c.in-Some.outer.now c.in-Some-split_last.other_outer.now c.in-Some.rows.now c.in-Some-split_last.others.now is other_is) c.is_same_binding.ensures c.if-not-is_same_binding.false last
