use Rattle.std.proofs.Common.{◌≡◌, ◌∙◌, ap, sym, subst}
use Rattle.sql_bind.specs.Bound.{Gives}
use Rattle.sql_bind.specs.Names.{find_qualified}
use Rattle.sql_bind.specs.inner.Levels.{levels_seen}
use Rattle.sql_bind.proofs.LevelTables.{seen_inside}
use Rattle.sql_bind.proofs.ColumnsFound.{qualified_in}
use Rattle.sql_bind.proofs.terms.+find_qualified.Goals as goal

pub returns-in-Some : goal.returns-in-Some
returns-in-Some t c =
    let here = ap levels_seen c.in-Inside.is ∙ seen_inside c.in-Inside.entries c.in-Inside.first c.in-Inside.end c.in-Inside.outer in
    let whole = ap (find_qualified c.args.tables.now c.args.table.now.text c.args.name.now.text c.args.at) here
    ∙ qualified_in c.args.tables.now c.args.table.now.text c.args.name.now.text c.args.at c.in-Inside.entries.now c.in-Inside.first c.in-Inside.end (levels_seen c.in-Inside.outer.now) c.seen-seen.result.now c.in-Some.place c.seen-seen.ensures (sym c.entry_place.ensures ∙ c.in-Some.is) in
    subst (λ bound. Gives bound c.in_entry.result) (sym whole) c.in_entry.ensures
