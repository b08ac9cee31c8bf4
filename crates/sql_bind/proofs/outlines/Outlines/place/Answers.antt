use Rattle.std.proofs.Common.{ap, ◌∙◌}
use Rattle.lint_core.specs.declared.schema.Table.{Table}
use Rattle.sql_bind.specs.Names.{table_place}
use Rattle.sql_bind.specs.inner.NameTables.{name_place}
use Rattle.sql_bind.proofs.NameTables.{name_place-map}
use Rattle.sql_bind.proofs.outlines.Outlines.place.Goals as goal

pub returns : goal.returns
returns c =
    c.place.ensures ∙ ap (λ names. name_place names c.args.name.now) c.self.invariant ∙ name_place-map (λ (t : Table). t.name) c.self.inside.tables c.args.name.now
    ∙ ap (λ tables. table_place tables c.args.name.now) c.self.view_is
