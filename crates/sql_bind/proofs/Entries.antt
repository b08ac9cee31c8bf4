-- An entry of a table that is there.
use Rattle.std.proofs.Common.{◌≡◌, ◌∙◌, ap, refl, ℕ, Bool, true, false, List, [], ◌∷◌, Option, Some, None, is_some, if◌then◌else◌, Ok}
use Rattle.lint_base.specs.declared.place.Span.{Span}
use Rattle.lint_base.specs.declared.place.Fault.TheVariants.{DuplicateName}
use Rattle.lint_core.specs.declared.condition.Entry.{Entry}
use Rattle.lint_core.specs.declared.schema.Table.{Table}
use Rattle.sql_tree.specs.declared.term.NameTree.{NameTree}
use Rattle.sql_bind.specs.Bound.{Bound, refused}
use Rattle.sql_bind.specs.Names.{entry_place}
use Rattle.sql_bind.specs.Conditions.{EntryMeaning}
use Rattle.sql_bind.specs.Selects.{of_table, visible_name, entry_span}

-- what is bound where the table is there, as the name is taken or not
abbrev pub named : Bool → EntryMeaning → ℕ → Bound Entry
named taken entry table = if taken then refused DuplicateName (visible_name entry).span else Ok (record { table = table; name = (visible_name entry).text; span = entry_span entry })

pub of_table_there : (schema : List Table) (earlier : List Entry) (entry : EntryMeaning) (place : Option ℕ) (table : ℕ) (taken : Bool) →
    place ≡ Some table → is_some (entry_place earlier (visible_name entry).text) ≡ taken → of_table schema earlier entry place ≡ named taken entry table
of_table_there schema earlier entry place table taken there is = ap (of_table schema earlier entry) there ∙ ap (λ t. named t entry table) is

pub entry_made : {table counted : ℕ} {name copy : List ℕ} {span at : Span} → table ≡ counted → name ≡ copy → span ≡ at →
    let one : Entry = record { table = table; name = name; span = span } in let other : Entry = record { table = counted; name = copy; span = at } in one ≡ other
entry_made a b c = λ j. record { table = a j; name = b j; span = c j }
