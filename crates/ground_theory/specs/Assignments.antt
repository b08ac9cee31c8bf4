-- What literals say of row terms. An assignment gives each row term a class, and each of its cells a value. Terms of one
-- class are of one table and have the same cells.
use Rattle.std.specs.Prelude.{◌≡◌, ℕ, pos, Bool, true, false, ◌&&◌, ◌||◌, not, nat_eq, List, [], ◌∷◌, length, Some, slice_get, option_and_then, unwrap_or}
use Rattle.std.specs.List.{list_any, list_all}
use Rattle.std.specs.Option.{option_map_or}
use Rattle.lint_core.specs.declared.database.Value.{Value}
use Rattle.lint_core.specs.declared.database.Value.TheVariants.{Null, Int, Text}
use Rattle.lint_core.specs.declared.schema.Domain.{Domain}
use Rattle.lint_core.specs.Comparison.{is_null}
use Rattle.lint_core.specs.Domain.{is_in_domain}
use Rattle.sort_formula.specs.declared.formula.Side.{Side}
use Rattle.sort_formula.specs.declared.formula.Side.TheVariants as side
use Rattle.sort_formula.specs.declared.formula.Atom.{Atom}
use Rattle.sort_formula.specs.declared.formula.Atom.TheVariants as atom
use Rattle.sort_formula.specs.Holds.{differ_by_at_most, are_texts}
use Rattle.ground_theory.specs.declared.literal.Assignment.{Assignment}
use Rattle.ground_theory.specs.declared.literal.Frame.{Frame}
use Rattle.ground_theory.specs.declared.literal.Literal.{Literal}

-- the domains of the columns of a row term's table
abbrev pub domains_at : Frame → ℕ → List Domain
domains_at frame row = unwrap_or (option_and_then (slice_get frame.domains) (slice_get frame.tables row)) []

abbrev pub are_in : List Domain → List Value → Bool
are_in [] [] = true
are_in [] (v ∷ vs) = false
are_in (d ∷ ds) [] = false
are_in (d ∷ ds) (v ∷ vs) = is_in_domain d v && are_in ds vs

module _ (a : Assignment) where
  -- the cells of a row term
  abbrev pub cells_at : ℕ → List Value
  cells_at row = unwrap_or (slice_get a.cells row) []

  abbrev pub cell_at : ℕ → ℕ → Value
  cell_at row column = unwrap_or (slice_get (cells_at row) column) Null

  abbrev pub side_at : Side → Value
  side_at (side.Cell row column) = cell_at row column
  side_at side.Zero = Int (pos 0)
  side_at (side.Text text) = Text text

  -- the two terms are of one class
  abbrev pub are_one : ℕ → ℕ → Bool
  are_one row other = option_map_or (λ c. option_map_or (nat_eq c) (slice_get a.same other) false) (slice_get a.same row) false

  abbrev pub satisfies : Atom → Bool
  satisfies (atom.Le left right most) = differ_by_at_most (side_at left) (side_at right) most
  satisfies (atom.TextEq left right) = are_texts (λ same. same) (side_at left) (side_at right)
  satisfies (atom.TextNe left right) = are_texts not (side_at left) (side_at right)
  satisfies (atom.IsNull row column) = is_null (cell_at row column)
  satisfies (atom.NotNull row column) = not (is_null (cell_at row column))
  satisfies (atom.Same row other) = are_one row other
  satisfies (atom.Other row other) = not (are_one row other)

  abbrev pub satisfies_all : List Literal → Bool
  satisfies_all literals = list_all (λ (l : Literal). satisfies l.atom) literals

-- every value of its column's domain; terms of one class of one table and with the same cells
pub record IsAssignment (frame : Frame) (a : Assignment) : Type 0 where
  pub classes : length a.same ≡ length frame.tables
  pub rows : length a.cells ≡ length frame.tables
  pub domains : (row table : ℕ) → slice_get frame.tables row ≡ Some table → are_in (domains_at frame row) (cells_at a row) ≡ true
  pub tables : (row other : ℕ) → are_one a row other ≡ true → slice_get frame.tables row ≡ slice_get frame.tables other
  pub cells : (row other : ℕ) → are_one a row other ≡ true → cells_at a row ≡ cells_at a other

-- some assignment satisfies the literals
pub record HasAssignment (frame : Frame) (literals : List Literal) : Type 0 where
  pub assignment : Assignment
  pub is : IsAssignment frame assignment
  pub satisfied : satisfies_all assignment literals ≡ true

-- ---- plain assignments

abbrev pub side_names : ℕ → (ℕ → Bool) → Side → Bool
side_names column of_class (side.Cell row other) = of_class row && nat_eq column other
side_names column of_class side.Zero = false
side_names column of_class (side.Text text) = false

-- the atom names the cell of this column in a row of the class
abbrev pub names_cell : ℕ → (ℕ → Bool) → Atom → Bool
names_cell column of_class (atom.Le left right most) = side_names column of_class left || side_names column of_class right
names_cell column of_class (atom.TextEq left right) = side_names column of_class left || side_names column of_class right
names_cell column of_class (atom.TextNe left right) = side_names column of_class left || side_names column of_class right
names_cell column of_class (atom.IsNull row other) = of_class row && nat_eq column other
names_cell column of_class (atom.NotNull row other) = of_class row && nat_eq column other
names_cell column of_class (atom.Same row other) = false
names_cell column of_class (atom.Other row other) = false

abbrev pub is_named : Assignment → List Literal → ℕ → ℕ → Bool
is_named a literals row column = list_any (λ (l : Literal). names_cell column (are_one a row) l.atom) literals

-- a cell that no literal names in any row of its class is NULL
abbrev pub IsPlain : List Literal → Assignment → Type 0
IsPlain literals a = (row column : ℕ) → is_named a literals row column ≡ false → cell_at a row column ≡ Null
