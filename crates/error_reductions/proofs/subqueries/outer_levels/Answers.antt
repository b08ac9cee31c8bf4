use Rattle.std.proofs.Common.{◌≡◌, ◌∙◌, sym, ap, [], ◌∷◌, ◌++◌, arith}
use Rattle.std.proofs.lemmas.Grind.{common_steps}
use Rattle.sort_formula.specs.Counters.{outer_levels}
use Rattle.error_reductions.proofs.SubqueryRows.{outer_of}
use Rattle.error_reductions.proofs.subqueries.outer_levels.Goals as goal

pub returns-in-Some : goal.returns-in-Some
returns-in-Some c =
    let is : c.args.tables.now ≡ c.in-Some.outer.now ++ c.in-Some.field-0-0.now ∷ [] = grind (arith, common_steps) in
    sym (ap outer_levels is ∙ outer_of c.in-Some.outer.now c.in-Some.field-0-0.now)
