-- What is found of the columns of a name: none, one, or more.
use Rattle.std.specs.Prelude.{ℕ, List, [], ◌∷◌, Option, Some, None}
use Rattle.lint_core.specs.declared.schema.Table.{Table}
use Rattle.sql_bind.specs.declared.terms.Found.{Found}
use Rattle.sql_bind.specs.declared.terms.Found.TheVariants.{Nowhere, Once, Twice}
use Rattle.sql_bind.specs.Names.{Place}

abbrev pub found_among : {schema : List Table} → List (Place schema) → Found
found_among [] = Nowhere
found_among (place ∷ []) = Once place.entry place.column
found_among (place ∷ other ∷ places) = Twice

-- with what was found before
abbrev pub found_after : {schema : List Table} → Found → List (Place schema) → Found
found_after Nowhere places = found_among places
found_after (Once entry column) places = found_among (record { entry = entry; column = column } ∷ places)
found_after Twice places = Twice

-- with a column of the next entry
abbrev pub found_with : Found → ℕ → Option ℕ → Found
found_with found entry None = found
found_with Nowhere entry (Some column) = Once entry column
found_with (Once entry column) other (Some another) = Twice
found_with Twice entry (Some column) = Twice
