-- The formula that two columns are not distinct fits the schema, so that its negation holds where they are distinct.
use Rattle.std.proofs.Common.{◌≡◌, ◌∙◌, sym, ap, ℕ, ℤ, pos, Bool, true, false, ◌&&◌, ◌||◌, not, List, [], ◌∷◌, if◌then◌else◌}
use Rattle.std.specs.List.{list_all}
use Rattle.std.specs.Prelude.{Option, Some, None}
use Rattle.lint_tables.specs.declared.op.Op.TheVariants.{Eq}
use Rattle.lint_base.proofs.Lists.{and_true, both_left, both_right}
use Rattle.lint_core.specs.declared.condition.Term.{Term}
use Rattle.lint_core.specs.declared.condition.Term.TheVariants as term
use Rattle.lint_core.specs.declared.database.Database.{Database}
use Rattle.lint_core.specs.declared.schema.Kind.{Kind}
use Rattle.lint_core.specs.declared.schema.Table.{Table}
use Rattle.lint_core.specs.declared.scope.Scope.{Scope}
use Rattle.lint_core.specs.Condition.{term_value}
use Rattle.lint_core.specs.Comparison.{are_not_distinct}
use Rattle.lint_core.specs.Database.{Place}
use Rattle.lint_core.specs.Fits.{term_kind}
use Rattle.lint_core.specs.Kind.{are_of_one_kind, compares_both, goes_with}
use Rattle.lint_core.specs.Meets.{is_of_domains}
use Rattle.sort_formula.specs.declared.formula.Atom.TheVariants as atom
use Rattle.sort_formula.specs.declared.formula.Formula.{Formula}
use Rattle.sort_formula.specs.declared.formula.Formula.TheVariants as f
use Rattle.sort_formula.specs.declared.formula.Side.{Side}
use Rattle.sort_formula.specs.Cells.{le, equal_cells}
use Rattle.sort_formula.specs.Counters.{not_distinct}
use Rattle.sort_formula.specs.Holds.{holds, side_value}
use Rattle.sort_formula.specs.Negated.{negated}
use Rattle.sort_formula.specs.Rows.{tables_of_rows}
use Rattle.sort_formula.specs.Sentences.{formula_fits}
use Rattle.sort_formula.specs.Sides.{side_of, is_text_term, is_null_formula}
use Rattle.sort_formula.proofs.Fitting.{fits_atom, fits_and, fits_or}
use Rattle.formula_laws.proofs.Complements.{complements}
use Rattle.truth_laws.proofs.Cells.{says}
use Rattle.truth_laws.proofs.Fitting.{both_are, IsOutside, compare_fits, null_fits, one_and}
use Rattle.counter_laws.proofs.Columns.{IsColumn, distinct_says, same_text}

compares : (a b : Option Kind) → are_of_one_kind a b ≡ true → compares_both Eq a b ≡ true
compares None b one = cc
compares (Some a) None one = cc
compares (Some a) (Some b) one = and_true (goes_with a b) ∙ one

module _ (schema : List Table) (outside : List ℕ) where
  abbrev fits : Formula → Bool
  fits g = formula_fits schema g outside

  any_bound : (x y : Side) (most : ℤ) → fits (le x y most) ≡ true → fits (le x y (pos 0)) ≡ true
  any_bound x y most fit = fits_atom schema (atom.Le x y (pos 0)) outside ∙ (sym (fits_atom schema (atom.Le x y most) outside) ∙ fit)

  cells_fit : (text other : Bool) → other ≡ text → (x y : Side) (most more : ℤ) →
      fits (if text || other then f.Atom (atom.TextEq x y) else f.And (le x y most ∷ le y x more ∷ [])) ≡ true → list_all fits (equal_cells text x y) ≡ true
  cells_fit true other same x y most more fit = ap (λ b. b && true) fit
  cells_fit false true same x y most more fit = cc
  cells_fit false false same x y most more fit =
      let both : (fits (le x y most) && (fits (le y x more) && true)) ≡ true = sym (fits_and schema (le x y most ∷ le y x more ∷ []) outside) ∙ fit in
      let first = any_bound x y most (both_left (fits (le x y most)) (fits (le y x more) && true) both) in
      let second = any_bound y x more (both_left (fits (le y x more)) true (both_right (fits (le x y most)) (fits (le y x more) && true) both)) in
      ap (λ b. b && true) (one_and schema outside (le x y (pos 0)) (le y x (pos 0)) first second)

module _ (schema : List Table) (db : Database) (domains : is_of_domains schema db ≡ true) (scope : Scope) (binding : List (List ℕ)) (rows : List Place) where
  abbrev Column : Term → Type 0
  Column = IsColumn schema db domains scope binding rows

  text_same : (t u : Term) → Column t → Column u → are_of_one_kind (term_kind schema scope.tables t) (term_kind schema scope.tables u) ≡ true →
      is_text_term schema scope u ≡ is_text_term schema scope t
  text_same (term.Cell level entry column added) (term.Cell others at number more) is also one =
      let t = term.Cell level entry column added in
      let u = term.Cell others at number more in
      same_text (term_kind schema scope.tables t) (term_kind schema scope.tables u)
      (term_value db scope.tables binding t) (side_value db rows (side_of schema scope t)) (term_value db scope.tables binding u) (side_value db rows (side_of schema scope u)) added more
      (says schema db domains scope binding rows is.lengths t is.stands) (says schema db domains scope binding rows is.lengths u also.stands) one
  text_same (term.Cell level entry column added) (term.Number n unit) is also one = cc also.column
  text_same (term.Cell level entry column added) (term.Text text) is also one = cc also.column
  text_same (term.Cell level entry column added) term.Null is also one = cc also.column
  text_same (term.Number n unit) u is also one = cc is.column
  text_same (term.Text text) u is also one = cc is.column
  text_same term.Null u is also one = cc is.column

  abbrev outside : List ℕ
  outside = tables_of_rows rows

  equal_fits : (t u : Term) → Column t → Column u → IsOutside schema outside scope t → IsOutside schema outside scope u →
      are_of_one_kind (term_kind schema scope.tables t) (term_kind schema scope.tables u) ≡ true →
      list_all (λ g. formula_fits schema g outside) (equal_cells (is_text_term schema scope t) (side_of schema scope t) (side_of schema scope u)) ≡ true
  equal_fits (term.Cell level entry column added) (term.Cell others at number more) is also first second one =
      let t = term.Cell level entry column added in
      let u = term.Cell others at number more in
      cells_fit schema outside (is_text_term schema scope t) (is_text_term schema scope u) (text_same t u is also one) (side_of schema scope t) (side_of schema scope u) _ _
      (compare_fits schema outside scope Eq t u first second is.lengths (compares (term_kind schema scope.tables t) (term_kind schema scope.tables u) one))
  equal_fits (term.Cell level entry column added) (term.Number n unit) is also first second one = cc also.column
  equal_fits (term.Cell level entry column added) (term.Text text) is also first second one = cc also.column
  equal_fits (term.Cell level entry column added) term.Null is also first second one = cc also.column
  equal_fits (term.Number n unit) u is also first second one = cc is.column
  equal_fits (term.Text text) u is also first second one = cc is.column
  equal_fits term.Null u is also first second one = cc is.column

  -- the two are distinct
  pub negated_says : (t u : Term) → Column t → Column u → IsOutside schema outside scope t → IsOutside schema outside scope u →
      are_of_one_kind (term_kind schema scope.tables t) (term_kind schema scope.tables u) ≡ true →
      holds db (negated (not_distinct schema scope t scope u)) rows ≡ not (are_not_distinct (term_value db scope.tables binding t) (term_value db scope.tables binding u))
  negated_says t u is also first second one =
      let xn = is_null_formula schema scope t in
      let yn = is_null_formula schema scope u in
      let cells = equal_cells (is_text_term schema scope t) (side_of schema scope t) (side_of schema scope u) in
      let nulls = one_and schema outside xn yn (null_fits schema outside scope t first is.lengths is.fits).0 (null_fits schema outside scope u second also.lengths also.fits).0 in
      let whole : formula_fits schema (not_distinct schema scope t scope u) outside ≡ true =
      fits_or schema (f.And (xn ∷ yn ∷ []) ∷ cells) outside
      ∙ both_are (formula_fits schema (f.And (xn ∷ yn ∷ [])) outside) (list_all (λ g. formula_fits schema g outside) cells) nulls (equal_fits t u is also first second one) in
      complements schema db domains (not_distinct schema scope t scope u) rows whole
      ∙ ap not (distinct_says schema db domains rows scope binding scope binding t u is also (text_same t u is also one))
