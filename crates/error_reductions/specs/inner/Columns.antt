-- A term that is a column, as formulas see it in a scope.
use Rattle.std.specs.Prelude.{◌≡◌, true, List}
use Rattle.lint_core.specs.declared.condition.Term.{Term}
use Rattle.lint_core.specs.declared.schema.Table.{Table}
use Rattle.lint_core.specs.declared.scope.Scope.{Scope}
use Rattle.lint_core.specs.Subqueries.{is_column}
use Rattle.sort_formula.specs.declared.formula.Atom.TheVariants as atom
use Rattle.sort_formula.specs.declared.formula.Formula.TheVariants as f
use Rattle.sort_formula.specs.declared.formula.Side.TheVariants as side
use Rattle.sort_formula.specs.Sides.{is_null_formula, is_text_term, not_null_formula, side_of}
use Rattle.error_reductions.specs.declared.columns.Column.{Column}

pub record IsColumn (schema : List Table) (scope : Scope) (t : Term) (column : Column) : Type 0 where
  pub is : is_column t ≡ true
  pub side : side_of schema scope t ≡ side.Cell column.cell.row column.cell.column
  pub null : is_null_formula schema scope t ≡ f.Atom (atom.IsNull column.cell.row column.cell.column)
  pub filled : not_null_formula schema scope t ≡ f.Atom (atom.NotNull column.cell.row column.cell.column)
  pub texts : is_text_term schema scope t ≡ column.texts
