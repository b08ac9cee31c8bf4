-- Which rows a database of a full case has, and in which order: those of a table by the first present row term of each class.
use Rattle.std.specs.Prelude.{ℕ, Bool, false, ◌&&◌, nat_eq, List, length, map, Option, Some, None, slice_get, unwrap_or, option_and_then, is_some, if◌then◌else◌}
use Rattle.std.specs.List.{filter}
use Rattle.std.specs.Option.{option_map, option_map_or}
use Rattle.lint_core.specs.declared.database.Row.{Row}
use Rattle.lint_core.specs.Database.{below}
use Rattle.ground_theory.specs.declared.literal.Assignment.{Assignment}
use Rattle.ground_theory.specs.Assignments.{cells_at}

-- a way of the clause is chosen
abbrev pub is_chosen_at : List (Option ℕ) → ℕ → Bool
is_chosen_at choices clause = unwrap_or (option_and_then (λ (c : Option ℕ). Some (is_some c)) (slice_get choices clause)) false

-- a row term that is present
abbrev pub is_there : List Bool → ℕ → Bool
is_there present row = unwrap_or (slice_get present row) false

module _ (there : ℕ → Bool) (one : ℕ → ℕ → Bool) where
  -- the other is present, and of the class
  abbrev pub is_alike : ℕ → ℕ → Bool
  is_alike row other = there other && one row other

  -- the first one of the class
  abbrev pub first_of : ℕ → ℕ
  first_of row = unwrap_or (slice_get (filter (is_alike row) (below row)) 0) row

  -- none of a row term that is not present
  abbrev pub first_at : ℕ → Option ℕ
  first_at row = if there row then Some (first_of row) else None

abbrev pub row_of : Assignment → ℕ → Row
row_of a row = record { values = cells_at a row }

module _ (tables : List ℕ) (firsts : List (Option ℕ)) where
  -- a row term of the table that is itself the first one of its class
  abbrev pub leads : ℕ → ℕ → Bool
  leads table row =
      option_map_or (λ (t : ℕ). nat_eq t table) (slice_get tables row) false
      && option_map_or (λ (o : Option ℕ). option_map_or (λ (first : ℕ). nat_eq first row) o false) (slice_get firsts row) false

  -- how many of them stand before
  abbrev pub rank : ℕ → ℕ → ℕ
  rank table end = length (filter (leads table) (below end))

  -- behind the first ones before the first one of its class
  abbrev pub place_at : ℕ → Option ℕ
  place_at row =
      option_and_then (λ (table : ℕ). option_and_then (λ (o : Option ℕ). option_map (rank table) o) (slice_get firsts row)) (slice_get tables row)

  -- the rows of a table
  abbrev pub rows_in : Assignment → ℕ → List Row
  rows_in a table = map (row_of a) (filter (leads table) (below (length tables)))
