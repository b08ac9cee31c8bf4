use Rattle.std.proofs.Common.{◌≡◌, ◌∙◌, ◌∷◌, ◌++◌, [], sym, ap, arith}
use Rattle.std.proofs.lemmas.Grind.{common_steps}
use Rattle.sort_formula.specs.Counters.{last_level}
use Rattle.witness_db.proofs.Walks.{last_is}
use Rattle.witness_db.proofs.points.last_level.Goals as goal

pub returns-in-Some : goal.returns-in-Some
returns-in-Some c =
    let is : c.args.levels.now ≡ c.in-Some.field-0-1.now ++ c.in-Some.last.now ∷ [] = grind (arith, common_steps) in
    c.as_slice.ensures ∙ (sym (last_is c.in-Some.field-0-1.now c.in-Some.last.now) ∙ ap last_level (sym is))
