-- When a formula holds at rows of a database: ordinary two-valued truth of first-order logic. The rows are those of
-- its variables, from 0; a quantifier ranges over the places of its table and appends one.
use Rattle.std.specs.Prelude.{ℕ, ℤ, pos, ◌-ℤ◌, Bool, false, ◌&&◌, not, nat_eq, List, [], ◌∷◌, ◌++◌, Option, Some, slice_get, option_and_then, unwrap_or}
use Rattle.std.specs.List.{list_any, list_all}
use Rattle.lint_core.specs.declared.database.Value.{Value}
use Rattle.lint_core.specs.declared.database.Value.TheVariants.{Null, Int, Text}
use Rattle.lint_core.specs.declared.database.Database.{Database}
use Rattle.lint_core.specs.Comparison.{is_null, is_same_text}
use Rattle.lint_core.specs.Database.{Place, value_at, places_of}
use Rattle.lint_core.specs.Domain.{int_le}
use Rattle.sort_formula.specs.declared.formula.Side.{Side}
use Rattle.sort_formula.specs.declared.formula.Side.TheVariants as side
use Rattle.sort_formula.specs.declared.formula.Atom.{Atom}
use Rattle.sort_formula.specs.declared.formula.Atom.TheVariants as atom
use Rattle.sort_formula.specs.declared.formula.Formula.{Formula, fold-Formula}
use Rattle.sort_formula.specs.declared.formula.Formula.TheOpen.{Formula-F}

-- the difference of two numbers is at most the bound; not so where one is no number
abbrev pub differ_by_at_most : Value → Value → ℤ → Bool
differ_by_at_most (Int a) (Int b) most = int_le (a -ℤ b) most
differ_by_at_most other value most = false

-- two texts, of which the test says yes; not so where one is no text
abbrev pub are_texts : (Bool → Bool) → Value → Value → Bool
are_texts test (Text a) (Text b) = test (is_same_text a b)
are_texts test other value = false

abbrev pub is_same_place : Option Place → Option Place → Bool
is_same_place (Some a) (Some b) = nat_eq a.table b.table && nat_eq a.row b.row
is_same_place other place = false

module _ (db : Database) where
  -- the value of a column in the row of a variable (NULL where there is none)
  abbrev pub cell_value : List Place → ℕ → ℕ → Value
  cell_value rows row column = unwrap_or (option_and_then (λ place. value_at db place column) (slice_get rows row)) Null

  abbrev pub side_value : List Place → Side → Value
  side_value rows (side.Cell row column) = cell_value rows row column
  side_value rows side.Zero = Int (pos 0)
  side_value rows (side.Text text) = Text text

  abbrev pub atom_holds : List Place → Atom → Bool
  atom_holds rows (atom.Le left right most) = differ_by_at_most (side_value rows left) (side_value rows right) most
  atom_holds rows (atom.TextEq left right) = are_texts (λ same. same) (side_value rows left) (side_value rows right)
  atom_holds rows (atom.TextNe left right) = are_texts not (side_value rows left) (side_value rows right)
  atom_holds rows (atom.IsNull row column) = is_null (cell_value rows row column)
  atom_holds rows (atom.NotNull row column) = not (is_null (cell_value rows row column))
  atom_holds rows (atom.Same row other) = is_same_place (slice_get rows row) (slice_get rows other)
  atom_holds rows (atom.Other row other) = not (is_same_place (slice_get rows row) (slice_get rows other))

  abbrev pub Meaning : Type 0
  Meaning = List Place → Bool

  -- one layer of a formula, from the meanings of its parts
  abbrev pub formula_step : Formula-F Meaning → Meaning
  formula_step (Formula-F.Atom a) rows = atom_holds rows a
  formula_step (Formula-F.And parts) rows = list_all (λ part. part rows) parts
  formula_step (Formula-F.Or parts) rows = list_any (λ part. part rows) parts
  formula_step (Formula-F.Exists table body) rows = list_any (λ place. body (rows ++ place ∷ [])) (places_of db table)
  formula_step (Formula-F.Forall table body) rows = list_all (λ place. body (rows ++ place ∷ [])) (places_of db table)

  abbrev pub holds : Formula → Meaning
  holds = fold-Formula Meaning formula_step
