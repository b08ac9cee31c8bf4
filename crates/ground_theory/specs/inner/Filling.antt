-- The values of cells that the solvers' answers come to.
use Rattle.std.specs.Prelude.{◌≡◌, ◌<◌, ◌≤◌, ◌+◌, ◌*◌, ◌^◌, ℕ, ℤ, pos, neg_ℤ, ◌-ℤ◌, ◌≤ℤ◌, ◌<ℤ◌, List, [], ◌∷◌, length, Option, Some, None, ⊤, slice_get}
use Rattle.diff_bounds.specs.System.{value_in}
use Rattle.lint_core.specs.declared.database.Value.{Value}
use Rattle.lint_core.specs.declared.database.Value.TheVariants as value
use Rattle.lint_core.specs.declared.schema.Domain.{Domain}
use Rattle.lint_core.specs.declared.schema.Domain.TheVariants as domain
use Rattle.text_classes.specs.Answer.{label_in, text_in}
use Rattle.ground_theory.specs.declared.assignment.Solution.{Solution}
use Rattle.ground_theory.specs.declared.literal.Frame.{Frame}
use Rattle.ground_theory.specs.Assignments.{domains_at}
use Rattle.ground_theory.specs.inner.Joining.{label_at}
use Rattle.ground_theory.specs.inner.Numbering.{number_at}
use Rattle.ground_theory.specs.inner.Sums.{told}

module _ (s : Solution) where
  -- the value of a variable above that of zero
  abbrev pub number_of : ℕ → ℤ
  number_of n = value_in s.numbers.items (n + 1) -ℤ value_in s.numbers.items 0

  -- NULL where there is no variable
  abbrev pub filled : Option ℕ → Domain → Value
  filled None d = value.Null
  filled (Some n) (domain.Number least greatest unit) = value.Int (number_of n)
  filled (Some n) (domain.Text size) = value.Text (text_in s.labels.items s.texts.items n)

  -- the variable has a number of 64 bits, or a text
  abbrev pub IsFit : Option ℕ → Domain → Type 0
  IsFit None d = ⊤
  IsFit (Some n) (domain.Number least greatest unit) =
      (n + 1 < length s.numbers.items) × (neg_ℤ (pos (2 ^ 63)) ≤ℤ number_of n) × (number_of n <ℤ pos (2 ^ 63))
  IsFit (Some n) (domain.Text size) = (n < length s.labels.items) × (label_in s.labels.items n < length s.texts.items)

  abbrev pub HasRowRoom : ℕ → Type 0
  HasRowRoom row = row * 64 + 64 ≤ length s.numbering.places.items

  abbrev pub HaveRowRoom : List ℕ → Type 0
  HaveRowRoom rows = (k : ℕ) → k < length rows → HasRowRoom (label_at rows k)

-- each cell of the row terms that the table has room for has a value
abbrev pub IsSolution : Frame → Solution → Type 0
IsSolution frame s =
    (row column : ℕ) (d : Domain) → HasRowRoom s row → slice_get (domains_at frame row) column ≡ Some d → IsFit s (number_at s.numbering.places.items row column) d

abbrev pub cell_of_column : Solution → ℕ → ℕ → Domain → List Value
cell_of_column s row column d = filled s (number_at s.numbering.places.items row column) d ∷ []

-- the values of a row term
abbrev pub row_cells : Frame → Solution → ℕ → List Value
row_cells frame s row = told (cell_of_column s row) 0 (domains_at frame row)

abbrev pub class_cells : Frame → Solution → ℕ → ℕ → List (List Value)
class_cells frame s number class = row_cells frame s class ∷ []
