-- A database of the domains fits the schema.
use Rattle.std.proofs.Common.{◌≡◌, ap₂, refl, true, ◌&&◌, List, [], ◌∷◌, length, arith}
use Rattle.std.proofs.lemmas.Bool.Decides.{nat_tests}
use Rattle.std.specs.Prelude.{nat_eq}
use Rattle.lint_base.proofs.Lists.{both_left, both_right}
use Rattle.lint_core.specs.declared.database.Database.{Database}
use Rattle.lint_core.specs.declared.database.Row.{Row}
use Rattle.lint_core.specs.declared.database.Value.{Value}
use Rattle.lint_core.specs.declared.schema.Column.{Column}
use Rattle.lint_core.specs.declared.schema.Table.{Table}
use Rattle.lint_core.specs.DatabaseFits.{rows_fit, tables_fit, database_fits}
use Rattle.lint_core.specs.Domain.{is_in_domain}
use Rattle.lint_core.specs.Meets.{values_meet, rows_meet, tables_meet, is_of_domains}

as_many : (cs : List Column) (vs : List Value) → values_meet cs vs ≡ true → nat_eq (length vs) (length cs) ≡ true
as_many [] [] met = refl
as_many [] (v ∷ vs) met = cc
as_many (c ∷ cs) [] met = cc
as_many (c ∷ cs) (v ∷ vs) met =
    let rest = as_many cs vs (both_right (is_in_domain c.domain v) (values_meet cs vs) met) in
    grind (arith, nat_tests)

rows_of_table : (table : Table) (rows : List Row) → rows_meet table rows ≡ true → rows_fit table rows ≡ true
rows_of_table table [] met = refl
rows_of_table table (r ∷ rs) met =
    ap₂ (λ a b. a && b) (as_many table.columns r.values (both_left (values_meet table.columns r.values) (rows_meet table rs) met))
    (rows_of_table table rs (both_right (values_meet table.columns r.values) (rows_meet table rs) met))

tables_of_schema : (ts : List Table) (rss : List (List Row)) → tables_meet ts rss ≡ true → tables_fit ts rss ≡ true
tables_of_schema [] [] met = refl
tables_of_schema [] (rs ∷ rss) met = met
tables_of_schema (t ∷ ts) [] met = met
tables_of_schema (t ∷ ts) (rs ∷ rss) met =
    ap₂ (λ a b. a && b) (rows_of_table t rs (both_left (rows_meet t rs) (tables_meet ts rss) met)) (tables_of_schema ts rss (both_right (rows_meet t rs) (tables_meet ts rss) met))

pub fits_from : (schema : List Table) (db : Database) → is_of_domains schema db ≡ true → database_fits schema db ≡ true
fits_from schema db domains = tables_of_schema schema db.tables domains
