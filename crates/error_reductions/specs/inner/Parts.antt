-- Parts of the counter sentences, by what the code knows of a column. Nothing here has to be believed: no public
-- contract says it.
use Rattle.std.specs.Prelude.{ℤ, pos, neg_ℤ, ◌-ℤ◌, ℕ, ◌+◌, Bool, not, List, [], ◌∷◌, map, Option, Some, None, if◌then◌else◌}
use Rattle.lint_core.specs.declared.condition.Cond.{Cond}
use Rattle.lint_core.specs.declared.database.Value.{Value}
use Rattle.lint_core.specs.declared.database.Value.TheVariants as value
use Rattle.sort_formula.specs.declared.building.Cell.{Cell}
use Rattle.sort_formula.specs.declared.formula.Atom.TheVariants as atom
use Rattle.sort_formula.specs.declared.formula.Formula.{Formula}
use Rattle.sort_formula.specs.declared.formula.Formula.TheVariants as f
use Rattle.sort_formula.specs.declared.formula.Side.{Side}
use Rattle.sort_formula.specs.declared.formula.Side.TheVariants as side
use Rattle.lint_core.specs.declared.query.Query.{Query}
use Rattle.lint_core.specs.declared.schema.Table.{Table}
use Rattle.sort_formula.specs.Cells.{le, not_distinct_cells}
use Rattle.std.specs.List.{filter}
use Rattle.lint_core.specs.declared.query.Item.{Item}
use Rattle.lint_core.specs.declared.scope.Scope.{Scope}
use Rattle.lint_core.specs.Asked.{main_condition}
use Rattle.lint_core.specs.Naming.{names}
use Rattle.lint_core.specs.Subqueries.{is_column}
use Rattle.sort_formula.specs.Counters.{not_distinct, some_other}
use Rattle.sort_formula.specs.Negated.{negated}
use Rattle.sort_formula.specs.Sides.{from_number}
use Rattle.sort_formula.specs.Translation.{is_true_formula}
use Rattle.error_reductions.specs.declared.columns.Column.{Column}

abbrev pub null_of : Cell → Formula
null_of cell = f.Atom (atom.IsNull cell.row cell.column)

abbrev pub side_of_cell : Cell → Side
side_of_cell cell = side.Cell cell.row cell.column

-- the two columns are not distinct
abbrev pub alike : Column → Column → Formula
alike one other = not_distinct_cells one.texts (null_of one.cell) (null_of other.cell) (side_of_cell one.cell) (side_of_cell other.cell)

-- the cell is NULL, or has another number, or another text
abbrev pub another_number : Cell → ℤ → Formula
another_number cell v = f.Or (null_of cell ∷ le (side_of_cell cell) side.Zero (v -ℤ pos 1) ∷ le side.Zero (side_of_cell cell) (neg_ℤ v -ℤ pos 1) ∷ [])

abbrev pub another_text : Cell → List ℕ → Formula
another_text cell text = f.Or (null_of cell ∷ f.Atom (atom.TextNe (side_of_cell cell) (side.Text text)) ∷ [])

-- that the column has another value, where that is not sure
abbrev pub another_value : Column → Value → Option Formula
another_value column value.Null = Some (f.Atom (atom.NotNull column.cell.row column.cell.column))
another_value column (value.Int v) = if column.texts then None else Some (another_number column.cell v)
another_value column (value.Text text) = if column.texts then Some (another_text column.cell text) else None

-- WHERE is true in both scopes, two rows of the variables from 0 and from n on differ, and no item is distinct
abbrev pub twice_at : List Table → Query → Scope → Scope → ℕ → Formula
twice_at schema query one two n =
    f.And (
    is_true_formula schema (main_condition query) one
    ∷ is_true_formula schema (main_condition query) two
    ∷ some_other (from_number 0 n) (from_number n n)
    ∷ map (λ (i : Item). not_distinct schema one i.term two i.term) (filter (λ (i : Item). is_column i.term) query.items)
    )

-- one of the two holds, and the other does not
abbrev pub exactly_one : Formula → Formula → Formula
exactly_one one other = f.Or (f.And (one ∷ negated other ∷ []) ∷ f.And (other ∷ negated one ∷ []) ∷ [])

-- the condition names the entry, or it does not
abbrev pub is_chosen : ℕ → Bool → Cond → Bool
is_chosen entry named c = if named then names entry c else not (names entry c)

-- the condition is true in both scopes, and some two rows differ: of the variables from a number on, and of as many
-- behind them
abbrev pub two_at : List Table → Cond → Scope → Scope → ℕ → ℕ → Formula
two_at schema cond one two first n =
    f.And (is_true_formula schema cond one ∷ is_true_formula schema cond two ∷ some_other (from_number first n) (from_number (first + n) n) ∷ [])
