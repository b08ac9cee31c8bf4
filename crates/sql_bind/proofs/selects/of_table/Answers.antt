use Rattle.std.proofs.Common.{rules, ◌≡◌, ◌∙◌, ap, sym, true, false, is_some, subst, Ok, Err}
use Rattle.lint_base.specs.declared.place.Fault.TheVariants.{DuplicateName}
use Rattle.sql_tree.specs.declared.select.EntryTree.{out-EntryTree}
use Rattle.sql_bind.specs.Bound.{Gives, refused}
use Rattle.sql_bind.specs.Names.{entry_place, table_place}
use Rattle.sql_bind.specs.Selects.{visible_name, of_table}
use Rattle.sql_bind.specs.inner.Meanings.{entry_meaning}
use Rattle.sql_bind.proofs.Entries.{of_table_there, entry_made}
use Rattle.sql_bind.proofs.TreeMeanings.{entry_is}
use Rattle.sql_bind.proofs.selects.of_table.Goals as goal

pub returns-then-is_some : goal.returns-then-is_some
returns-then-is_some c =
    let entry = entry_meaning c.args.tables.now c.args.tree.now in
    let name : c.visible_name-name.result.now ≡ visible_name entry = c.visible_name-name.ensures ∙ ap visible_name (sym (entry_is c.args.tables.now c.args.tree.now)) in
    let is : is_some (entry_place c.args.earlier.now (visible_name entry).text) ≡ true =
    ap (λ n. is_some (entry_place c.args.earlier.now n.text)) (sym name) ∙ ap is_some (sym c.entry_place.ensures) ∙ sym c.is_some.ensures ∙ c.if-is_some.true in
    let whole = ap (of_table c.args.tables.now c.args.earlier.now entry) (sym c.table_place.ensures)
    ∙ of_table_there c.args.tables.now c.args.earlier.now entry c.table_place.result c.in-Some.table true c.in-Some.is is
    ∙ ap (λ n. refused DuplicateName n.span) (sym name) in
    subst (λ stop. Gives (of_table c.args.tables.now c.args.earlier.now entry (table_place c.args.tables.now (out-EntryTree c.args.tree.now).table.text)) (Err stop)) (sym c.refused-then-is_some.ensures) whole

pub returns : goal.returns
returns c =
    let entry = entry_meaning c.args.tables.now c.args.tree.now in
    let name : c.visible_name-name.result.now ≡ visible_name entry = c.visible_name-name.ensures ∙ ap visible_name (sym (entry_is c.args.tables.now c.args.tree.now)) in
    let is : is_some (entry_place c.args.earlier.now (visible_name entry).text) ≡ false =
    ap (λ n. is_some (entry_place c.args.earlier.now n.text)) (sym name) ∙ ap is_some (sym c.entry_place.ensures) ∙ sym c.is_some.ensures ∙ c.if-is_some.false in
    ap (of_table c.args.tables.now c.args.earlier.now entry) (sym c.table_place.ensures)
    ∙ of_table_there c.args.tables.now c.args.earlier.now entry c.table_place.result c.in-Some.table false c.in-Some.is is
    ∙ ap Ok (entry_made (sym c.in_ok-counted.ensures) (sym (c.in_ok-copy.ensures ∙ ap (λ n. n.text) name)) (sym c.requires))
