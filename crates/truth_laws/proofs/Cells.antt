-- The value of a term is that of its side with what is added to it, where the variables have the rows of the binding.
use Rattle.std.proofs.Common.{◌≡◌, ◌∙◌, sym, ap, refl, subst, ℕ, zero, suc, ℤ, pos, ◌+ℤ◌, Bool, true, false, List, [], ◌∷◌, length, map, if◌then◌else◌, arith}
use Rattle.std.proofs.lemmas.Int.{ints}
use Rattle.std.specs.Prelude.{Option, Some, None, slice_get, option_and_then, unwrap_or}
use Rattle.std.specs.Ordering.{int_eq}
use Rattle.lint_core.specs.declared.condition.Term.{Term}
use Rattle.lint_core.specs.declared.condition.Term.TheVariants as term
use Rattle.lint_core.specs.declared.database.Database.{Database}
use Rattle.lint_core.specs.declared.database.Value.{Value}
use Rattle.lint_core.specs.declared.database.Value.TheVariants.{Null, Int}
use Rattle.lint_core.specs.declared.schema.Column.{Column}
use Rattle.lint_core.specs.declared.schema.Domain.{Domain}
use Rattle.lint_core.specs.declared.schema.Domain.TheVariants as domain
use Rattle.lint_core.specs.declared.schema.Kind.{Kind}
use Rattle.lint_core.specs.declared.schema.Kind.TheVariants as kind
use Rattle.lint_core.specs.declared.schema.Table.{Table}
use Rattle.lint_core.specs.Comparison.{plus}
use Rattle.lint_core.specs.Condition.{place_of, cell_value, term_value}
use Rattle.lint_core.specs.Fits.{at_entry}
use Rattle.lint_core.specs.Database.{Place, value_at}
use Rattle.lint_core.specs.Fits.{cell_kind, term_kind}
use Rattle.lint_core.specs.Kind.{column_kind, kind_of, with_added}
use Rattle.lint_core.specs.Meets.{is_of_domains}
use Rattle.sort_formula.specs.declared.formula.Side.TheVariants as side
use Rattle.sort_formula.specs.Holds as holds
use Rattle.lint_core.specs.declared.scope.Scope.{Scope}
use Rattle.sort_formula.specs.Sides.{side_of, added_to, is_null_term}
use Rattle.sort_formula.specs.Standpoint.{IsRowOf}
use Rattle.formula_laws.proofs.Cells.{may_be_number, may_be_text, number_side, text_side}
use Rattle.truth_laws.proofs.Comparing.{Says}

-- a level of one list has the entries that the level of the other has
entry_too : (levels tables : List ℕ) → length levels ≡ length tables → (entry t : ℕ) → slice_get tables entry ≡ Some t → (row : ℕ) × (slice_get levels entry ≡ Some row)
entry_too levels [] same entry t at = cc
entry_too [] (x ∷ tables) same entry t at = absurd (omega arith)
entry_too (row ∷ levels) (x ∷ tables) same zero t at = (row, refl)
entry_too (row ∷ levels) (x ∷ tables) same (suc entry) t at = entry_too levels tables (omega arith) entry t at

pub variable_too : (levels tables : List (List ℕ)) → map length levels ≡ map length tables → (level entry t : ℕ) → at_entry tables level entry ≡ Some t →
    (row : ℕ) × (at_entry levels level entry ≡ Some row)
variable_too levels [] same level entry t at = cc
variable_too [] (x ∷ tables) same level entry t at = cc
variable_too (l ∷ levels) (x ∷ tables) same zero entry t at =
    let lengths : length l ≡ length x = cc in
    entry_too l x lengths entry t at
variable_too (l ∷ levels) (x ∷ tables) same (suc level) entry t at =
    let others : map length levels ≡ map length tables = cc in
    variable_too levels tables others level entry t at

-- a column has no NULL for its kind
no_null_column : (columns : List Column) (i : ℕ) → option_and_then (λ (c : Column). Some (kind_of c.domain)) (slice_get columns i) ≡ Some kind.Null → ⊥
no_null_column [] i at = cc
no_null_column (c ∷ columns) zero at = no_null_domain c.domain at
  where
    no_null_domain : (d : Domain) → Some (kind_of d) ≡ Some kind.Null → ⊥
    no_null_domain (domain.Number least greatest unit) at = cc
    no_null_domain (domain.Text length) at = cc
no_null_column (c ∷ columns) (suc i) at = no_null_column columns i at

abbrev pub table_kind : Option Table → ℕ → Option Kind
table_kind table column = option_and_then (λ (t : Table). column_kind t column) table

pub no_null_kind : (table : Option Table) (column : ℕ) → table_kind table column ≡ Some kind.Null → ⊥
no_null_kind None column at = cc
no_null_kind (Some table) column at = no_null_column table.columns column at

-- the value in a row of a place that may be missing
abbrev value_in : Database → Option Place → ℕ → Value
value_in db place column = unwrap_or (option_and_then (λ place. value_at db place column) place) Null

abbrev place_at : ℕ → Option ℕ → Option Place
place_at table row = option_and_then (λ row. Some (record { table = table; row = row })) row

module _ (schema : List Table) (db : Database) (domains : is_of_domains schema db ≡ true) where
  number_at : (table : ℕ) (row : Option ℕ) (column : ℕ) (unit : _) → table_kind (slice_get schema table) column ≡ Some (kind.Number unit) → may_be_number (value_in db (place_at table row) column) ≡ true
  number_at table None column unit at = refl
  number_at table (Some row) column unit at = number_side schema db domains (record { table = table; row = row } ∷ []) (side.Cell 0 column) (rw at refl)

  text_at : (table : ℕ) (row : Option ℕ) (column : ℕ) → table_kind (slice_get schema table) column ≡ Some kind.Text → may_be_text (value_in db (place_at table row) column) ≡ true
  text_at table None column at = refl
  text_at table (Some row) column at = text_side schema db domains (record { table = table; row = row } ∷ []) (side.Cell 0 column) (rw at refl)

  -- a cell of this kind, of which the side has the same value
  text_says : (b : Bool) (v s : Value) (added : ℤ) → may_be_text s ≡ true → v ≡ s → Says (if b then Some kind.Text else None) false (plus v added) s added
  text_says true v s added text same = (refl, text, ap (λ v. plus v added) same)
  text_says false v s added text same = tt

  cell_says : (table : ℕ) (row : Option ℕ) (column : ℕ) (added : ℤ) (s : Value) → value_in db (place_at table row) column ≡ s →
      (k : Option Kind) → table_kind (slice_get schema table) column ≡ k →
      Says (option_and_then (with_added added) k) false (plus (value_in db (place_at table row) column) added) s added
  cell_says table row column added s same None is = tt
  cell_says table row column added s same (Some kind.Null) is = absurd (no_null_kind (slice_get schema table) column is)
  cell_says table row column added s same (Some (kind.Number unit)) is =
      (refl, subst (λ s. may_be_number s ≡ true) same (number_at table row column unit is), ap (λ v. plus v added) same)
  cell_says table row column added s same (Some kind.Text) is =
      text_says (int_eq added (pos 0)) (value_in db (place_at table row) column) s added (subst (λ s. may_be_text s ≡ true) same (text_at table row column is)) same

  module _ (scope : Scope) (binding : List (List ℕ)) (rows : List Place) where
    -- the variable of a cell has the row of its entry
    abbrev pub Stands : Term → Type 0
    Stands (term.Cell level entry column added) = IsRowOf db scope binding rows level entry
    Stands (term.Number value unit) = Unit {0}
    Stands (term.Text text) = Unit {0}
    Stands term.Null = Unit {0}

    -- the side's value, where its entry is there
    pub side_same : map length scope.levels ≡ map length scope.tables → (level entry column table : ℕ) → IsRowOf db scope binding rows level entry →
        at_entry scope.tables level entry ≡ Some table →
        cell_value db scope.tables binding level entry column ≡ holds.cell_value db rows (unwrap_or (at_entry scope.levels level entry) 0) column
    side_same lengths level entry column table stands at =
        let variable = variable_too scope.levels scope.tables lengths level entry table at in
        let place : slice_get rows variable.0 ≡ place_of db scope.tables binding level entry = ap (option_and_then (slice_get rows)) (sym variable.1) ∙ stands in
        ap (λ p. value_in db p column) (sym place)
        ∙ ap (λ o. holds.cell_value db rows (unwrap_or o 0) column) (sym variable.1)

    zero_plus : (n : ℤ) → n ≡ (pos 0 +ℤ n)
    zero_plus n = omega (arith, ints)

    cell_stands : map length scope.levels ≡ map length scope.tables → (level entry column : ℕ) (added : ℤ) → IsRowOf db scope binding rows level entry →
        (table : Option ℕ) → at_entry scope.tables level entry ≡ table →
        Says (cell_kind schema table column added) false (plus (cell_value db scope.tables binding level entry column) added)
        (holds.cell_value db rows (unwrap_or (at_entry scope.levels level entry) 0) column) added
    cell_stands lengths level entry column added stands None at = tt
    cell_stands lengths level entry column added stands (Some table) at =
        let same = side_same lengths level entry column table stands at in
        let here : cell_value db scope.tables binding level entry column ≡ value_in db (place_at table (at_entry binding level entry)) column =
        ap (λ t. value_in db (option_and_then (λ table. place_at table (at_entry binding level entry)) t) column) at in
        subst (λ v. Says (cell_kind schema (Some table) column added) false (plus v added) (holds.cell_value db rows (unwrap_or (at_entry scope.levels level entry) 0) column) added) (sym here)
        (cell_says table (at_entry binding level entry) column added (holds.cell_value db rows (unwrap_or (at_entry scope.levels level entry) 0) column) (sym here ∙ same) (table_kind (slice_get schema table) column) refl)

    pub says : map length scope.levels ≡ map length scope.tables → (t : Term) → Stands t →
        Says (term_kind schema scope.tables t) (is_null_term schema scope t) (term_value db scope.tables binding t) (holds.side_value db rows (side_of schema scope t)) (added_to schema scope t)
    says lengths (term.Cell level entry column added) stands = cell_stands lengths level entry column added stands (at_entry scope.tables level entry) refl
    says lengths (term.Number value unit) stands = (refl, refl, ap Int (zero_plus value))
    says lengths (term.Text text) stands = (refl, refl, refl)
    says lengths term.Null stands = (refl, refl)
