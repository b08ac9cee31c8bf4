use Rattle.std.proofs.Common.{◌≡◌, not, is_some, map, ap, ◌∙◌}
use Rattle.sql_bind.specs.inner.NameTables.{name_place, with_name}
use Rattle.sql_bind.proofs.NameTables.{characters_of, any_text, names_added}
use Rattle.sql_bind.proofs.names.NameTable.add.Goals as goal

pub returns-clause-added : goal.returns-clause-added
returns-clause-added c =
    let same = any_text c.as_str.result.now c.args.name.now c.as_str.ensures.characters c.as_str.ensures.bytes c.self.inside.names.keys c.self.invariant in
    c.in_ok-new.ensures.added ∙ ap not same ∙ ap (λ names. not (is_some (name_place names c.args.name.now))) c.self.view_is

pub returns-clause-names : goal.returns-clause-names
returns-clause-names c =
    let same = any_text c.as_str.result.now c.args.name.now c.as_str.ensures.characters c.as_str.ensures.bytes c.self.inside.names.keys c.self.invariant in
    let place = name_place (map characters_of c.self.inside.names.keys) c.args.name.now in
    ap (map characters_of) c.in_ok-new.ensures.keys
    ∙ names_added _ place c.self.inside.names.keys c.as_str.result c.args.name.now same c.as_str.ensures.characters
    ∙ ap (λ names. with_name (name_place names c.args.name.now) names c.args.name.now) c.self.view_is
