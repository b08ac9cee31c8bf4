use Rattle.std.proofs.Common.{◌≡◌, ◌∙◌, sym, ap, [], ◌∷◌, ◌++◌, arith}
use Rattle.std.proofs.lemmas.Grind.{common_steps}
use Rattle.sort_formula.specs.Counters.{last_level}
use Rattle.counter_forms.proofs.Outside.{last_of}
use Rattle.error_reductions.proofs.subqueries.last_level.Goals as goal

pub returns-in-Some : goal.returns-in-Some
returns-in-Some c =
    let is : c.args.tables.now ≡ c.in-Some.field-0-1.now ++ c.in-Some.own.now ∷ [] = grind (arith, common_steps) in
    c.as_slice.ensures ∙ sym (ap last_level is ∙ last_of c.in-Some.field-0-1.now c.in-Some.own.now)
