-- The database of a full case has the schema's tables, and every value in it is of its column's domain.
use Rattle.std.proofs.Common.{◌≡◌, ◌∙◌, sym, ap, ap₂, refl, ℕ, suc, Bool, true, ◌&&◌, List, [], ◌∷◌, length, map, arith}
use Rattle.std.proofs.lemmas.Bool.{and_from}
use Rattle.std.proofs.lemmas.List.{length-map}
use Rattle.std.proofs.lemmas.Option.{same_Some, slice_get_within, slice_get-map}
use Rattle.std.specs.Prelude.{Option, Some, slice_get, option_and_then, unwrap_or}
use Rattle.std.specs.Option.{option_map, option_map_or}
use Rattle.std.specs.List.{list_all}
use Rattle.lint_core.specs.declared.database.Database.{Database}
use Rattle.lint_core.specs.declared.database.Row.{Row}
use Rattle.lint_core.specs.declared.database.Value.{Value}
use Rattle.lint_core.specs.declared.schema.Column.{Column}
use Rattle.lint_core.specs.declared.schema.Domain.{Domain}
use Rattle.lint_core.specs.declared.schema.Table.{Table}
use Rattle.lint_core.specs.Database.{rows_of}
use Rattle.lint_core.specs.Domain.{is_in_domain}
use Rattle.lint_core.specs.Meets.{values_meet, rows_meet, tables_meet, is_of_domains}
use Rattle.sorted_skolem.specs.declared.term.RowTerm.{RowTerm}
use Rattle.ground_theory.specs.declared.literal.Assignment.{Assignment}
use Rattle.ground_theory.specs.declared.literal.Frame.{Frame}
use Rattle.ground_theory.specs.Assignments.{IsAssignment, are_in, cells_at, domains_at}
use Rattle.instantiate.specs.declared.problem.Problem.{Problem}
use Rattle.instantiate.specs.Cases.{IsProblem, IsDatabaseOf}

-- ---- tables whose rows meet

in_domains : (cs : List Column) (vs : List Value) → values_meet cs vs ≡ are_in (map (λ (c : Column). c.domain) cs) vs
in_domains [] [] = refl
in_domains [] (v ∷ vs) = refl
in_domains (c ∷ cs) [] = refl
in_domains (c ∷ cs) (v ∷ vs) = ap (λ b. is_in_domain c.domain v && b) (in_domains cs vs)

pub all_from : {A : Type 0} (p : A → Bool) (xs : List A) → ((i : ℕ) (x : A) → slice_get xs i ≡ Some x → p x ≡ true) → list_all p xs ≡ true
all_from p [] each = refl
all_from p (x ∷ xs) each = and_from (p x) (list_all p xs) (each 0 x refl) (all_from p xs (λ i y at. each (suc i) y at))

tables_from : (ts : List Table) (rss : List (List Row)) → length rss ≡ length ts →
    ((k : ℕ) (t : Table) (rows : List Row) → slice_get ts k ≡ Some t → slice_get rss k ≡ Some rows → rows_meet t rows ≡ true) → tables_meet ts rss ≡ true
tables_from [] [] as_many each = refl
tables_from [] (rows ∷ rss) as_many each = cc
tables_from (t ∷ ts) [] as_many each = cc
tables_from (t ∷ ts) (rows ∷ rss) as_many each =
    and_from (rows_meet t rows) (tables_meet ts rss) (each 0 t rows refl refl) (tables_from ts rss (omega (arith, as_many)) (λ k u others at here. each (suc k) u others at here))

-- ---- the database

module _ (schema : List Table) (problem : Problem) (is : IsProblem schema problem) (choices : List (Option ℕ))
    (a : Assignment) (is_assignment : IsAssignment problem.frame a)
    (db : Database) (places : List (Option ℕ)) (made : IsDatabaseOf problem choices a db places) where
  table_in_frame : (row : ℕ) (term : RowTerm) → slice_get problem.rows.terms row ≡ Some term → slice_get problem.frame.tables row ≡ Some term.table
  table_in_frame row term at =
      ap (λ (f : Frame). slice_get f.tables row) is.frame
      ∙ (slice_get-map (λ (t : RowTerm). t.table) problem.rows.terms row ∙ ap (option_map (λ (t : RowTerm). t.table)) at)

  domains_in_frame : (k : ℕ) (t : Table) → slice_get schema k ≡ Some t → slice_get problem.frame.domains k ≡ Some (map (λ (c : Column). c.domain) t.columns)
  domains_in_frame k t at =
      ap (λ (f : Frame). slice_get f.domains k) is.frame
      ∙ (slice_get-map (λ (t : Table). map (λ (c : Column). c.domain) t.columns) schema k ∙ ap (option_map (λ (t : Table). map (λ (c : Column). c.domain) t.columns)) at)

  row_meets : (k : ℕ) (t : Table) (rows : List Row) → slice_get schema k ≡ Some t → slice_get db.tables k ≡ Some rows →
      (at : ℕ) (r : Row) → slice_get rows at ≡ Some r → values_meet t.columns r.values ≡ true
  row_meets k t rows is_table are_rows at r is_row =
      let own : rows_of db k ≡ rows = ap (λ (o : Option (List Row)). unwrap_or o []) are_rows in
      let here : slice_get (rows_of db k) at ≡ Some r = ap (λ (rs : List Row). slice_get rs at) own ∙ is_row in
      let row = made.others k at (slice_get_within (rows_of db k) at r here) in
      let term : RowTerm = row.1.0 in
      let present = made.present row.0 term row.1.1 (made.absent row.0 at row.1.3) in
      let same_place : present.0 ≡ at = same_Some present.0 at (same_Some (Some present.0) (Some at) (sym present.1 ∙ row.1.3)) in
      let stands : slice_get (rows_of db term.table) present.0 ≡ Some r = ap₂ (λ n i. slice_get (rows_of db n) i) row.1.2 same_place ∙ here in
      let cells : r.values ≡ cells_at a row.0 = sym (ap (λ (o : Option Row). option_map_or (λ (row : Row). row.values) o []) stands) ∙ present.3 in
      let frame_table : slice_get problem.frame.tables row.0 ≡ Some term.table = table_in_frame row.0 term row.1.1 in
      let domains : domains_at problem.frame row.0 ≡ map (λ (c : Column). c.domain) t.columns =
      ap (λ (o : Option ℕ). unwrap_or (option_and_then (slice_get problem.frame.domains) o) []) (frame_table ∙ ap Some row.1.2)
      ∙ ap (λ (o : Option (List Domain)). unwrap_or o []) (domains_in_frame k t is_table) in
      in_domains t.columns r.values
      ∙ (ap₂ are_in (sym domains) cells ∙ is_assignment.domains row.0 term.table frame_table)

  as_many_tables : length db.tables ≡ length schema
  as_many_tables = made.tables ∙ (ap (λ (f : Frame). length f.domains) is.frame ∙ length-map schema (λ (t : Table). map (λ (c : Column). c.domain) t.columns))

  pub of_domains : is_of_domains schema db ≡ true
  of_domains =
      tables_from schema db.tables as_many_tables
      (λ k t rows is_table are_rows. all_from (λ (row : Row). values_meet t.columns row.values) rows (row_meets k t rows is_table are_rows))
