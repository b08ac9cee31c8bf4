use Rattle.std.proofs.Common.{◌≡◌, ◌∙◌, ◌<◌, sym, arith, length}
use Rattle.std.proofs.lemmas.Grind.{common_steps}
use Rattle.lint_core.specs.Fits.{tables_of}
use Rattle.sql_bind.specs.Names.{level_tables}
use Rattle.sql_bind.specs.inner.Levels.{levels_seen}
use Rattle.lint_core.proofs.LevelTables.{length_inside, at_outer, at_own}
use Rattle.sql_bind.proofs.LevelTables.{tables_inside}
use Rattle.sql_bind.proofs.levels.Levels.+look_up.Goals as goal

pub returns-in-Ok-clause-there : goal.returns-in-Ok-clause-there
returns-in-Ok-clause-there t c =
    let tables = level_tables (levels_seen c.in-Inside.outer.now) in
    let own = tables_of c.in-Inside.entries.now in
    let low : c.args.level < length tables = c.in-Ok.ensures.there.0 in
    rw (c.in-Inside.is, tables_inside c.in-Inside.entries c.in-Inside.first c.in-Inside.end c.in-Inside.outer, length_inside)
    (omega arith, c.in-Ok.ensures.there.1 ∙ sym (at_outer tables own c.args.level c.args.entry low))

pub returns-in-Err-eq0-clause-there : goal.returns-in-Err-eq0-clause-there
returns-in-Err-eq0-clause-there t c =
    let tables = level_tables (levels_seen c.in-Inside.outer.now) in
    let own = tables_of c.in-Inside.entries.now in
    let same : c.args.level ≡ length tables = grind (arith, common_steps) in
    rw (c.in-Inside.is, tables_inside c.in-Inside.entries c.in-Inside.first c.in-Inside.end c.in-Inside.outer, length_inside)
    (omega arith, c.table_of.ensures ∙ sym (at_own tables own c.args.level c.args.entry same))

pub returns-in-Err-clause-further : goal.returns-in-Err-clause-further
returns-in-Err-clause-further t c =
    rw (c.in-Inside.is, tables_inside c.in-Inside.entries c.in-Inside.first c.in-Inside.end c.in-Inside.outer, length_inside)
    (grind (arith, common_steps))
