-- The place of a list of row terms among the lists of its tables.
use Rattle.std.specs.Prelude.{ℕ, ◌+◌, ◌*◌, List, [], ◌∷◌, length, slice_get}
use Rattle.std.specs.List.{filter}
use Rattle.std.specs.Option.{option_map_or}
use Rattle.lint_core.specs.Database.{below}
use Rattle.sorted_skolem.specs.declared.term.RowTerm.{RowTerm}
use Rattle.sorted_skolem.specs.Terms.{is_of_table, terms_of}
use Rattle.instantiate.specs.declared.rows.Step.{Step}

abbrev pub table_at : List RowTerm → ℕ → ℕ
table_at terms row = option_map_or (λ (t : RowTerm). t.table) (slice_get terms row) 0

-- how many terms of its table stand before the row term, and how many there are
abbrev pub step_of : List RowTerm → ℕ → Step
step_of terms row = record {
  place = length (filter (is_of_table terms (table_at terms row)) (below row));
  size = length (terms_of terms (table_at terms row));
}

-- behind row terms at this place
abbrev pub index_along : List Step → ℕ → List ℕ → ℕ
index_along steps at [] = at
index_along steps at (row ∷ rows) = index_along steps (option_map_or (λ (s : Step). at * s.size + s.place) (slice_get steps row) 0) rows
