-- The formula of a comparison holds exactly where it is true, that of its negation exactly where it is false; so with
-- IS NULL and IS NOT NULL.
use Rattle.std.proofs.Common.{◌≡◌, ◌∙◌, sym, ap, refl, ℕ, ℤ, true, not, List, [], length, map}
use Rattle.std.specs.Prelude.{Option, Some, None, unwrap_or, is_some}
use Rattle.lint_tables.specs.declared.op.Op.{Op}
use Rattle.lint_tables.specs.Operators.{negation}
use Rattle.lint_tables.specs.Ways.{ways_of}
use Rattle.lint_core.specs.declared.condition.Term.{Term}
use Rattle.lint_core.specs.declared.condition.Term.TheVariants as term
use Rattle.lint_core.specs.declared.database.Database.{Database}
use Rattle.lint_core.specs.declared.database.Value.{Value}
use Rattle.lint_core.specs.declared.database.Value.TheVariants.{Null, Int, Text}
use Rattle.lint_core.specs.declared.schema.Table.{Table}
use Rattle.lint_core.specs.Comparison.{compare, plus, is_null}
use Rattle.lint_core.specs.Condition.{cell_value, term_value}
use Rattle.lint_core.specs.Fits.{at_entry}
use Rattle.lint_core.specs.Database.{Place}
use Rattle.lint_core.specs.Fits.{cell_kind, term_kind, term_fits}
use Rattle.lint_core.specs.Kind.{compares_both}
use Rattle.lint_core.specs.Meets.{is_of_domains}
use Rattle.lint_core.specs.Truth.{is_true, is_false}
use Rattle.sort_formula.specs.declared.formula.Atom.TheVariants as atom
use Rattle.sort_formula.specs.Holds as holds
use Rattle.lint_core.specs.declared.scope.Scope.{Scope}
use Rattle.sort_formula.specs.Sides.{side_of, added_to, is_null_term, texts_formula, ways_formula, compare_formula, compare_false_formula, is_null_formula, not_null_formula}
use Rattle.sort_formula.specs.Standpoint.{IsRowOf}
use Rattle.sort_formula.proofs.Holding.{holds_atom, holds_and, holds_or}
use Rattle.truth_laws.proofs.Cells.{Stands, says, side_same}
use Rattle.truth_laws.proofs.Comparing.{by_kinds, ways_are, texts_are, negated_compares, negation_compares}

null_of_sum : (v : Value) (added : ℤ) → is_null v ≡ is_null (plus v added)
null_of_sum Null added = refl
null_of_sum (Int n) added = refl
null_of_sum (Text text) added = refl

module _ (schema : List Table) (db : Database) (domains : is_of_domains schema db ≡ true) (scope : Scope) (binding : List (List ℕ)) (rows : List Place) where
  abbrev pub TermStands : Term → Type 0
  TermStands = Stands schema db domains scope binding rows

  abbrev value : Term → Value
  value = term_value db scope.tables binding

  pub compare_true : (op : Op) (a b : Term) → TermStands a → TermStands b → map length scope.levels ≡ map length scope.tables →
      compares_both op (term_kind schema scope.tables a) (term_kind schema scope.tables b) ≡ true →
      holds.holds db (compare_formula schema scope op a b) rows ≡ is_true (compare op (value a) (value b))
  compare_true op a b left right lengths fits =
      by_kinds db rows op (term_kind schema scope.tables a) (term_kind schema scope.tables b) (is_null_term schema scope a) (is_null_term schema scope b)
      (value a) (value b) (holds.side_value db rows (side_of schema scope a)) (holds.side_value db rows (side_of schema scope b)) (added_to schema scope a) (added_to schema scope b)
      (texts_formula schema scope op (side_of schema scope a) (side_of schema scope b)) (ways_formula schema scope a b (ways_of op))
      (texts_are db rows schema scope op (side_of schema scope a) (side_of schema scope b)) (ways_are db rows schema scope op a b)
      (says schema db domains scope binding rows lengths a left) (says schema db domains scope binding rows lengths b right) fits

  pub compare_false : (op : Op) (a b : Term) → TermStands a → TermStands b → map length scope.levels ≡ map length scope.tables →
      compares_both op (term_kind schema scope.tables a) (term_kind schema scope.tables b) ≡ true →
      holds.holds db (compare_false_formula schema scope op a b) rows ≡ is_false (compare op (value a) (value b))
  compare_false op a b left right lengths fits =
      compare_true (negation op) a b left right lengths (negation_compares op (term_kind schema scope.tables a) (term_kind schema scope.tables b) ∙ fits)
      ∙ negated_compares op (value a) (value b)

  -- the side of a cell that fits is NULL where the cell is
  null_cell : map length scope.levels ≡ map length scope.tables → (level entry column : ℕ) (added : ℤ) → IsRowOf db scope binding rows level entry →
      (table : Option ℕ) → at_entry scope.tables level entry ≡ table → is_some (cell_kind schema table column added) ≡ true →
      is_null (holds.cell_value db rows (unwrap_or (at_entry scope.levels level entry) 0) column) ≡ is_null (plus (cell_value db scope.tables binding level entry column) added)
  null_cell lengths level entry column added stands None at fits = cc
  null_cell lengths level entry column added stands (Some table) at fits =
      ap is_null (sym (side_same schema db domains scope binding rows lengths level entry column table stands at))
      ∙ null_of_sum (cell_value db scope.tables binding level entry column) added

  pub null_says : (t : Term) → TermStands t → map length scope.levels ≡ map length scope.tables → term_fits schema scope.tables t ≡ true →
      (holds.holds db (is_null_formula schema scope t) rows ≡ is_null (value t)) × (holds.holds db (not_null_formula schema scope t) rows ≡ not (is_null (value t)))
  null_says (term.Cell level entry column added) stands lengths fits =
      let row = unwrap_or (at_entry scope.levels level entry) 0 in
      let same = null_cell lengths level entry column added stands (at_entry scope.tables level entry) refl fits in
      (holds_atom db (atom.IsNull row column) rows ∙ same, holds_atom db (atom.NotNull row column) rows ∙ ap not same)
  null_says (term.Number n unit) stands lengths fits = (holds_or db [] rows, holds_and db [] rows)
  null_says (term.Text text) stands lengths fits = (holds_or db [] rows, holds_and db [] rows)
  null_says term.Null stands lengths fits = (holds_and db [] rows, holds_or db [] rows)
