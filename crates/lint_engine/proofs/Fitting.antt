-- A database that meets a schema fits it.
use Rattle.std.proofs.Common.{◌≡◌, ap, refl, suc, true, List, [], ◌∷◌, length}
use Rattle.std.proofs.lemmas.Bool.{and_parts, and_from, eq-eqb}
use Rattle.std.specs.Prelude.{nat_eq}
use Rattle.lint_base.proofs.Lists.{both_left}
use Rattle.lint_core.specs.declared.database.Database.{Database}
use Rattle.lint_core.specs.declared.database.Row.{Row}
use Rattle.lint_core.specs.declared.database.Value.{Value}
use Rattle.lint_core.specs.declared.schema.Column.{Column}
use Rattle.lint_core.specs.declared.schema.Table.{Table}
use Rattle.lint_core.specs.DatabaseFits.{rows_fit, tables_fit, database_fits}
use Rattle.lint_core.specs.Domain.{is_in_domain}
use Rattle.lint_core.specs.Meets.{values_meet, rows_meet, tables_meet, is_of_domains, all_constraints_met, meets}

as_many : (cs : List Column) (vs : List Value) → values_meet cs vs ≡ true → length vs ≡ length cs
as_many [] [] met = refl
as_many [] (v ∷ vs) met = cc
as_many (c ∷ cs) [] met = cc
as_many (c ∷ cs) (v ∷ vs) met = ap suc (as_many cs vs (and_parts (is_in_domain c.domain v) (values_meet cs vs) met).1)

rows_there : (t : Table) (rows : List Row) → rows_meet t rows ≡ true → rows_fit t rows ≡ true
rows_there t [] met = refl
rows_there t (row ∷ rows) met =
    let both = and_parts (values_meet t.columns row.values) (rows_meet t rows) met in
    and_from (nat_eq (length row.values) (length t.columns)) (rows_fit t rows) (eq-eqb (length row.values) (length t.columns) (as_many t.columns row.values both.0)) (rows_there t rows both.1)

tables_there : (ts : List Table) (rss : List (List Row)) → tables_meet ts rss ≡ true → tables_fit ts rss ≡ true
tables_there [] [] met = refl
tables_there [] (rows ∷ rss) met = cc
tables_there (t ∷ ts) [] met = cc
tables_there (t ∷ ts) (rows ∷ rss) met =
    let both = and_parts (rows_meet t rows) (tables_meet ts rss) met in
    and_from (rows_fit t rows) (tables_fit ts rss) (rows_there t rows both.0) (tables_there ts rss both.1)

pub fits : (schema : List Table) (db : Database) → meets schema db ≡ true → database_fits schema db ≡ true
fits schema db met = tables_there schema db.tables (both_left (is_of_domains schema db) (all_constraints_met db 0 schema) met)
