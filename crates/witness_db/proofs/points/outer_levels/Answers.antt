use Rattle.std.proofs.Common.{◌≡◌, ◌∙◌, ◌∷◌, ◌++◌, [], sym, ap, arith}
use Rattle.std.proofs.lemmas.Grind.{common_steps}
use Rattle.sort_formula.specs.Counters.{outer_levels}
use Rattle.witness_db.proofs.Walks.{outer_is}
use Rattle.witness_db.proofs.points.outer_levels.Goals as goal

pub returns-in-Some : goal.returns-in-Some
returns-in-Some c =
    let is : c.args.levels.now ≡ c.in-Some.outer.now ++ c.in-Some.field-0-0.now ∷ [] = grind (arith, common_steps) in
    sym (outer_is c.in-Some.outer.now c.in-Some.field-0-0.now) ∙ ap outer_levels (sym is)
