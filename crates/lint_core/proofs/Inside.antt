-- In a database of the schema's domains each value lies in the domain of its column.
use Rattle.std.proofs.Common.{◌≡◌, ◌∙◌, sym, ap, ℕ, zero, suc, true, List, [], ◌∷◌}
use Rattle.std.proofs.lemmas.Bool.{and_parts}
use Rattle.std.proofs.lemmas.Option.{option_and_then_some, same_Some}
use Rattle.std.specs.Prelude.{Some, slice_get, unwrap_or}
use Rattle.lint_base.proofs.Lists.{all_at}
use Rattle.lint_core.specs.declared.database.Value.{Value}
use Rattle.lint_core.specs.declared.database.Row.{Row}
use Rattle.lint_core.specs.declared.database.Database.{Database}
use Rattle.lint_core.specs.declared.schema.Column.{Column}
use Rattle.lint_core.specs.declared.schema.Table.{Table}
use Rattle.lint_core.specs.Database.{Place, value_at, rows_of}
use Rattle.lint_core.specs.Domain.{is_in_domain}
use Rattle.lint_core.specs.Meets.{values_meet, rows_meet, tables_meet, is_of_domains}

value_inside : (cs : List Column) (vs : List Value) (i : ℕ) (c : Column) (v : Value) → values_meet cs vs ≡ true →
    slice_get cs i ≡ Some c → slice_get vs i ≡ Some v → is_in_domain c.domain v ≡ true
value_inside [] vs i c v all column value = cc
value_inside (c' ∷ cs) [] i c v all column value = cc
value_inside (c' ∷ cs) (v' ∷ vs) zero c v all column value =
    ap (λ (c : Column). is_in_domain c.domain v) (sym (same_Some c' c column))
    ∙ (ap (is_in_domain c'.domain) (sym (same_Some v' v value)) ∙ (and_parts (is_in_domain c'.domain v') (values_meet cs vs) all).0)
value_inside (c' ∷ cs) (v' ∷ vs) (suc i) c v all column value =
    value_inside cs vs i c v (and_parts (is_in_domain c'.domain v') (values_meet cs vs) all).1 column value

table_rows_meet : (ts : List Table) (rs : List (List Row)) (i : ℕ) (t : Table) → tables_meet ts rs ≡ true →
    slice_get ts i ≡ Some t → rows_meet t (unwrap_or (slice_get rs i) []) ≡ true
table_rows_meet [] rs i t all at = cc
table_rows_meet (t' ∷ ts) [] i t all at = cc
table_rows_meet (t' ∷ ts) (r ∷ rs) zero t all at =
    ap (λ t. rows_meet t r) (sym (same_Some t' t at)) ∙ (and_parts (rows_meet t' r) (tables_meet ts rs) all).0
table_rows_meet (t' ∷ ts) (r ∷ rs) (suc i) t all at = table_rows_meet ts rs i t (and_parts (rows_meet t' r) (tables_meet ts rs) all).1 at

-- the value of a column in a row that is there
pub inside : (schema : List Table) (db : Database) → is_of_domains schema db ≡ true →
    (place : Place) (column : ℕ) (v : Value) (t : Table) (c : Column) → value_at db place column ≡ Some v →
    slice_get schema place.table ≡ Some t → slice_get t.columns column ≡ Some c → is_in_domain c.domain v ≡ true
inside schema db domains place column v t c value table at =
    option_and_then_some (λ (row : Row). slice_get row.values column) (slice_get (rows_of db place.table) place.row) v value
    (λ row here stands.
    value_inside t.columns row.values column c v
    (all_at (λ (row : Row). values_meet t.columns row.values) (rows_of db place.table) place.row row (table_rows_meet schema db.tables place.table t domains table) here)
    at stands)
