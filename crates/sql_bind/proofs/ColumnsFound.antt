-- What is found among entries, one entry after the other.
use Rattle.std.proofs.Common.{◌≡◌, ◌∙◌, ap, sym, refl, ℕ, ◌+◌, ◌-◌, List, [], ◌∷◌, length, take, drop, Option, Some, None}
use Rattle.lint_base.specs.declared.place.Span.{Span}
use Rattle.lint_core.specs.declared.condition.Entry.{Entry}
use Rattle.lint_core.specs.declared.schema.Table.{Table}
use Rattle.sql_bind.specs.declared.terms.Found.{Found}
use Rattle.sql_bind.specs.declared.terms.Found.TheVariants.{Nowhere, Once, Twice}
use Rattle.sql_bind.specs.Names.{Level, Place, with_place, column_place, entry_place, columns_at, in_entry, at_entry, find_qualified}
use Rattle.sql_bind.specs.inner.Found.{found_among, found_after, found_with}

pub found_step : (schema : List Table) (found : Found) (entry : ℕ) (column : Option ℕ) (places : List (Place schema)) → found_after (found_with found entry column) places ≡ found_after found (with_place schema entry column places)
found_step schema found entry None places = refl
found_step schema Nowhere entry (Some column) places = refl
found_step schema (Once other another) entry (Some column) [] = refl
found_step schema (Once other another) entry (Some column) (place ∷ places) = refl
found_step schema Twice entry (Some column) places = refl

pub found_end : (schema : List Table) (found : Found) → found_after {schema = schema} found [] ≡ found
found_end schema Nowhere = refl
found_end schema (Once entry column) = refl
found_end schema Twice = refl

-- the level that has an entry of the table's name is the one that counts
pub qualified_in : (schema : List Table) (table name : List ℕ) (at : Span) (entries : List Entry) (first end : ℕ) (outer : List Level) (seen : List Entry) (place : ℕ) →
    seen ≡ take (end - first) (drop first entries) → entry_place seen table ≡ Some place →
    find_qualified schema table name at (record { entries = entries; first = first; end = end } ∷ outer) ≡ in_entry schema (length outer) (first + place) at (column_place (columns_at schema seen place) name)
unfolding find_qualified
qualified_in schema table name at entries first end outer seen place is found =
    let level : Level = record { entries = entries; first = first; end = end } in
    ap (λ some. at_entry schema (length outer) level name at (entry_place some table) (find_qualified schema table name at outer)) (sym is)
    ∙ ap (λ some. at_entry schema (length outer) level name at some (find_qualified schema table name at outer)) found
    ∙ ap (λ some. in_entry schema (length outer) (first + place) at (column_place (columns_at schema some place) name)) (sym is)
