use Rattle.std.proofs.Common.{◌∙◌, ap}
use Rattle.sql_bind.specs.inner.NameTables.{name_place}
use Rattle.sql_bind.proofs.NameTables.{position_text}
use Rattle.sql_bind.proofs.names.NameTable.place.Goals as goal

-- src/names.rt:52:5
pub returns : goal.returns
returns c =
    let same = position_text c.as_str.result.now c.args.name.now c.as_str.ensures.characters c.as_str.ensures.bytes c.self.inside.names.keys c.self.invariant in
    c.get_index_of.ensures.index ∙ same ∙ ap (λ names. name_place names c.args.name.now) c.self.view_is
