use Rattle.std.proofs.Common.{◌≡◌, ◌∙◌, ◌<◌, sym, arith, length}
use Rattle.std.proofs.lemmas.Grind.{common_steps}
use Rattle.lint_core.proofs.LevelTables.{length_inside, at_outer, at_own}
use Rattle.sql_meaning.proofs.Standing.{binding_inside}
use Rattle.sql_meaning.proofs.levels.Levels.+look_up_row.Goals as goal
use Rattle.sql_meaning.specs.inner.Standing.{binding_of_levels}

pub returns-in-Ok-clause-there : goal.returns-in-Ok-clause-there
returns-in-Ok-clause-there t c =
    let outer = binding_of_levels c.in-Inside.outer.now in
    let own = c.in-Inside.rows.now in
    let low : c.args.level < length outer = c.in-Ok.ensures.there.0 in
    rw (c.in-Inside.is, binding_inside c.in-Inside.entries c.in-Inside.rows c.in-Inside.outer, length_inside)
    (omega arith, c.in-Ok.ensures.there.1 ∙ sym (at_outer outer own c.args.level c.args.entry low))

pub returns-in-Err-eq0-clause-there : goal.returns-in-Err-eq0-clause-there
returns-in-Err-eq0-clause-there t c =
    let outer = binding_of_levels c.in-Inside.outer.now in
    let own = c.in-Inside.rows.now in
    let same : c.args.level ≡ length outer = grind (arith, common_steps) in
    rw (c.in-Inside.is, binding_inside c.in-Inside.entries c.in-Inside.rows c.in-Inside.outer, length_inside)
    (omega arith, c.row_of.ensures ∙ sym (at_own outer own c.args.level c.args.entry same))

pub returns-in-Err-clause-further : goal.returns-in-Err-clause-further
returns-in-Err-clause-further t c =
    rw (c.in-Inside.is, binding_inside c.in-Inside.entries c.in-Inside.rows c.in-Inside.outer, length_inside)
    (grind (arith, common_steps))
