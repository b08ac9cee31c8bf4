-- In a database of the domains, a number cell is NULL or a number, and a text cell NULL or a text.
use Rattle.std.proofs.Common.{◌≡◌, refl, subst, ℕ, zero, suc, Bool, true, false, List, [], ◌∷◌}
use Rattle.std.proofs.lemmas.Option.{same_Some}
use Rattle.std.specs.Option.{option_and_then, option_map_or}
use Rattle.std.specs.Prelude.{Option, Some, None, slice_get, unwrap_or}
use Rattle.lint_core.specs.declared.database.Database.{Database}
use Rattle.lint_core.specs.declared.database.Row.{Row}
use Rattle.lint_core.specs.declared.database.Value.{Value}
use Rattle.lint_core.specs.declared.database.Value.TheVariants.{Null, Int, Text}
use Rattle.lint_core.specs.declared.schema.Column.{Column}
use Rattle.lint_core.specs.declared.schema.Domain.{Domain}
use Rattle.lint_core.specs.declared.schema.Domain.TheVariants as domain
use Rattle.lint_core.specs.declared.schema.Kind.{Kind}
use Rattle.lint_core.specs.declared.schema.Kind.TheVariants as kind
use Rattle.lint_core.specs.declared.schema.Table.{Table}
use Rattle.lint_core.specs.Database.{Place}
use Rattle.lint_core.specs.Domain.{is_in_domain}
use Rattle.lint_core.specs.Kind.{column_kind, kind_of, is_text}
use Rattle.lint_core.specs.Meets.{values_meet, rows_meet, tables_meet, is_of_domains}
use Rattle.sort_formula.specs.declared.formula.Side.{Side}
use Rattle.sort_formula.specs.declared.formula.Side.TheVariants as side
use Rattle.sort_formula.specs.Holds.{cell_value, side_value}
use Rattle.sort_formula.specs.Rows.{tables_of_rows}
use Rattle.sort_formula.specs.Sentences.{kind_at, is_number_kind, is_number_side, is_text_side}
use Rattle.lint_base.proofs.Lists.{both_left, both_right}

-- NULL or a number
abbrev pub may_be_number : Value → Bool
may_be_number Null = true
may_be_number (Int n) = true
may_be_number (Text text) = false

-- NULL or a text
abbrev pub may_be_text : Value → Bool
may_be_text Null = true
may_be_text (Int n) = false
may_be_text (Text text) = true

abbrev pub is_of_kind : Kind → Value → Bool
is_of_kind kind.Null v = true
is_of_kind (kind.Number unit) v = may_be_number v
is_of_kind kind.Text v = may_be_text v

null_is : (k : Kind) → is_of_kind k Null ≡ true
null_is kind.Null = refl
null_is (kind.Number unit) = refl
null_is kind.Text = refl

in_domain : (d : Domain) (v : Value) → is_in_domain d v ≡ true → is_of_kind (kind_of d) v ≡ true
in_domain (domain.Number least greatest unit) Null inside = refl
in_domain (domain.Number least greatest unit) (Int n) inside = refl
in_domain (domain.Number least greatest unit) (Text text) inside = inside
in_domain (domain.Text length) Null inside = refl
in_domain (domain.Text length) (Int n) inside = inside
in_domain (domain.Text length) (Text text) inside = refl

value_in_row : (cs : List Column) (vs : List Value) → values_meet cs vs ≡ true → (i : ℕ) (k : Kind) →
    option_and_then (λ (c : Column). Some (kind_of c.domain)) (slice_get cs i) ≡ Some k → is_of_kind k (unwrap_or (slice_get vs i) Null) ≡ true
value_in_row [] vs meet i k at = cc
value_in_row (c ∷ cs) [] meet i k at = cc
value_in_row (c ∷ cs) (v ∷ vs) meet zero k at =
    subst (λ (k : Kind). is_of_kind k v ≡ true) (same_Some (kind_of c.domain) k at) (in_domain c.domain v (both_left (is_in_domain c.domain v) (values_meet cs vs) meet))
value_in_row (c ∷ cs) (v ∷ vs) meet (suc i) k at = value_in_row cs vs (both_right (is_in_domain c.domain v) (values_meet cs vs) meet) i k at

abbrev value_of : Option Row → ℕ → Value
value_of row column = unwrap_or (option_and_then (λ (r : Row). slice_get r.values column) row) Null

value_in_rows : (table : Table) (rows : List Row) → rows_meet table rows ≡ true → (i column : ℕ) (k : Kind) →
    column_kind table column ≡ Some k → is_of_kind k (value_of (slice_get rows i) column) ≡ true
value_in_rows table [] meet i column k at = null_is k
value_in_rows table (r ∷ rs) meet zero column k at =
    value_in_row table.columns r.values (both_left (values_meet table.columns r.values) (rows_meet table rs) meet) column k at
value_in_rows table (r ∷ rs) meet (suc i) column k at =
    value_in_rows table rs (both_right (values_meet table.columns r.values) (rows_meet table rs) meet) i column k at

value_in_tables : (schema : List Table) (tables : List (List Row)) → tables_meet schema tables ≡ true → (t i column : ℕ) (k : Kind) →
    option_and_then (λ table. column_kind table column) (slice_get schema t) ≡ Some k →
    is_of_kind k (value_of (slice_get (unwrap_or (slice_get tables t) []) i) column) ≡ true
value_in_tables [] tables meet t i column k at = cc
value_in_tables (t' ∷ ts) [] meet t i column k at = cc
value_in_tables (t' ∷ ts) (r ∷ rs) meet zero i column k at = value_in_rows t' r (both_left (rows_meet t' r) (tables_meet ts rs) meet) i column k at
value_in_tables (t' ∷ ts) (r ∷ rs) meet (suc t) i column k at = value_in_tables ts rs (both_right (rows_meet t' r) (tables_meet ts rs) meet) t i column k at

number_of_kind : (schema : List Table) (kind : Option Kind) (v : Value) → option_map_or (is_number_kind schema) kind false ≡ true → ((k : Kind) → kind ≡ Some k → is_of_kind k v ≡ true) → may_be_number v ≡ true
number_of_kind schema None v fits of_kind = cc
number_of_kind schema (Some kind.Null) v fits of_kind = cc
number_of_kind schema (Some (kind.Number unit)) v fits of_kind = of_kind (kind.Number unit) refl
number_of_kind schema (Some kind.Text) v fits of_kind = cc

text_of_kind : (kind : Option Kind) (v : Value) → option_map_or is_text kind false ≡ true → ((k : Kind) → kind ≡ Some k → is_of_kind k v ≡ true) → may_be_text v ≡ true
text_of_kind None v fits of_kind = cc
text_of_kind (Some kind.Null) v fits of_kind = cc
text_of_kind (Some (kind.Number unit)) v fits of_kind = cc
text_of_kind (Some kind.Text) v fits of_kind = of_kind kind.Text refl

module _ (schema : List Table) (db : Database) (domains : is_of_domains schema db ≡ true) where
  value_of_cell : (rows : List Place) (row column : ℕ) (k : Kind) → kind_at schema (tables_of_rows rows) row column ≡ Some k → is_of_kind k (cell_value db rows row column) ≡ true
  value_of_cell [] row column k at = cc
  value_of_cell (place ∷ rows) zero column k at = value_in_tables schema db.tables domains place.table place.row column k at
  value_of_cell (place ∷ rows) (suc row) column k at = value_of_cell rows row column k at

  pub number_side : (rows : List Place) (s : Side) → is_number_side schema (tables_of_rows rows) s ≡ true → may_be_number (side_value db rows s) ≡ true
  number_side rows (side.Cell row column) fits =
      number_of_kind schema (kind_at schema (tables_of_rows rows) row column) (cell_value db rows row column) fits (value_of_cell rows row column)
  number_side rows side.Zero fits = refl
  number_side rows (side.Text text) fits = cc

  pub text_side : (rows : List Place) (s : Side) → is_text_side schema (tables_of_rows rows) s ≡ true → may_be_text (side_value db rows s) ≡ true
  text_side rows (side.Cell row column) fits =
      text_of_kind (kind_at schema (tables_of_rows rows) row column) (cell_value db rows row column) fits (value_of_cell rows row column)
  text_side rows side.Zero fits = cc
  text_side rows (side.Text text) fits = refl
