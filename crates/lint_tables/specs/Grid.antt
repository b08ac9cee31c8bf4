-- A grid of numbers: rows of cells.
use Rattle.std.specs.Prelude.{ℕ, List, slice_index, slice_index_or, []}

-- the number in a row and a column
abbrev pub cell_at : List (List ℕ) → ℕ → ℕ → ℕ
cell_at rows r c = slice_index (slice_index_or rows r []) c
