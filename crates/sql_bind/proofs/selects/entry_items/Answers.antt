use Rattle.std.proofs.Common.{◌≡◌, ◌∙◌, ap, sym, subst}
use Rattle.sql_bind.specs.Bound.{Gives}
use Rattle.sql_bind.specs.Names.{columns_at}
use Rattle.sql_bind.specs.Selects.{column_items, at_most_256, entry_items}
use Rattle.sql_bind.specs.inner.Levels.{levels_seen}
use Rattle.sql_bind.proofs.selects.entry_items.Goals as goal

pub returns : goal.returns
returns c =
    let tables = c.args.tables.now in
    let entries = c.args.entries.now in
    let is = c.in_ok-items.ensures ∙ ap (λ level. column_items tables level c.in-Some.number c.args.at 0 (columns_at tables entries c.in-Some.number)) c.in_ok-depth.ensures in
    let there = sym c.entry_place.ensures ∙ c.in-Some.is in
    let items = subst (λ items. Gives (at_most_256 tables c.args.count c.args.at items) c.at_most_256.result) is (c.at_most_256.ensures tables) in
    subst (λ place. Gives (entry_items tables entries (levels_seen c.args.outer.now) c.args.count c.args.table.now c.args.at place) c.at_most_256.result) (sym there) items
