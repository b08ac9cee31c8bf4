-- The axioms of all tables hold exactly where all constraints are met.
use Rattle.std.proofs.Common.{◌≡◌, ◌∙◌, refl, sym, add-one, ap, ap₂, subst, ℕ, suc, ◌+◌, Bool, true, ◌&&◌, List, [], ◌∷◌, ◌++◌, map, arith}
use Rattle.std.proofs.lemmas.List.Folds.{list_all-append}
use Rattle.std.specs.List.{list_all}
use Rattle.std.specs.Prelude.{Some, slice_get, nat_le, nat_lt, length}
use Rattle.lint_core.specs.declared.database.Database.{Database}
use Rattle.lint_core.specs.declared.schema.Key.{Key}
use Rattle.lint_core.specs.declared.schema.ForeignKey.{ForeignKey}
use Rattle.lint_core.specs.declared.schema.Table.{Table}
use Rattle.lint_core.specs.Fits.{check_fits}
use Rattle.lint_core.specs.Meets.{is_of_domains, constraints_met, all_constraints_met, meets}
use Rattle.lint_core.specs.Schema.{are_columns, are_keys, are_checks, are_foreign_keys, refers_to, is_table, are_tables, is_schema}
use Rattle.sort_formula.specs.Axioms.{Axiom, not_null_axioms, key_axiom, check_axiom, foreign_axioms, table_axioms, axioms_from, axioms}
use Rattle.sort_formula.specs.Holds.{holds}
use Rattle.lint_base.proofs.Lists.{both_left, both_right}
use Rattle.truth_laws.proofs.Checks.{CheckSays, FormulasFit, checks_hold}
use Rattle.truth_laws.proofs.Foreign.{foreign_keys_hold}
use Rattle.truth_laws.proofs.Keys.{keys_hold}
use Rattle.truth_laws.proofs.NotNull.{not_nulls_hold}

module _ (says : CheckSays) (fit : FormulasFit) (schema : List Table) (db : Database) (domains : is_of_domains schema db ≡ true) where
  abbrev hold : Axiom → Bool
  hold a = holds db a.sentence []

  four : (a b c d : List Axiom) → list_all hold (a ++ b ++ c ++ d) ≡ (list_all hold a && list_all hold b && list_all hold c && list_all hold d)
  four a b c d =
      list_all-append hold (a ++ b ++ c) d
      ∙ ap (λ x. x && list_all hold d) (list_all-append hold (a ++ b) c ∙ ap (λ x. x && list_all hold c) (list_all-append hold a b))

  table_holds : (number : ℕ) (table : Table) → slice_get schema number ≡ Some table → is_table schema number table ≡ true →
      list_all hold (table_axioms schema number table) ≡ constraints_met db number table
  table_holds number table at right =
      let columns = are_columns table.columns in
      let keys = are_keys table table.keys in
      let checks = are_checks schema number table.checks in
      let foreign = are_foreign_keys schema table table.foreign in
      let three = both_left (columns && keys && checks) foreign right in
      let two = both_left (columns && keys) checks three in
      let each_key = both_right (nat_le (length table.keys) 1000) (list_all (λ (k : Key). list_all (λ column. nat_lt column (length table.columns)) k.columns) table.keys) (both_right columns keys two) in
      let each_check = both_right (nat_le (length table.checks) 1000) (list_all (check_fits schema number) table.checks) (both_right (columns && keys) checks three) in
      let each_foreign = both_right (nat_le (length table.foreign) 1000) (list_all (λ (k : ForeignKey). refers_to table k (slice_get schema k.target)) table.foreign) (both_right (columns && keys && checks) foreign right) in
      four (not_null_axioms schema number table 0 table.columns) (map (key_axiom schema number table) table.keys) (map (check_axiom schema number table) table.checks)
      (foreign_axioms schema number table 0 table.foreign)
      ∙ ap₂ (λ a b. a && b)
      (ap₂ (λ a b. a && b)
      (ap₂ (λ a b. a && b) (not_nulls_hold schema db number table domains at) (keys_hold schema db domains number table at table.keys each_key))
      (checks_hold says fit schema db domains number table table.checks each_check))
      (foreign_keys_hold schema db domains number table at 0 table.foreign each_foreign)

  tables_hold : (number : ℕ) (tables : List Table) → ((k : ℕ) → slice_get schema (number + k) ≡ slice_get tables k) → are_tables schema number tables ≡ true →
      list_all hold (axioms_from schema number tables) ≡ all_constraints_met db number tables
  tables_hold number [] at right = refl
  tables_hold number (table ∷ tables) at right =
      let here : number ≡ number + 0 = omega arith in
      let first = is_table schema number table in
      let rest = are_tables schema (number + 1) tables in
      list_all-append hold (table_axioms schema number table) (axioms_from schema (suc number) tables)
      ∙ ap₂ (λ a b. a && b)
      (table_holds number table (ap (slice_get schema) here ∙ at 0) (both_left first rest right))
      (tables_hold (suc number) tables (λ k. ap (slice_get schema) (later k) ∙ at (suc k)) (subst (λ (n : ℕ). are_tables schema n tables ≡ true) (add-one number) (both_right first rest right)))
    where
      later : (k : ℕ) → suc number + k ≡ number + suc k
      later k = omega arith

  pub all_hold : is_schema schema ≡ true → list_all (λ (a : Axiom). holds db a.sentence []) (axioms schema) ≡ meets schema db
  all_hold right =
      tables_hold 0 schema (λ k. ap (slice_get schema) (none k)) (both_right (nat_le (length schema) 200) (are_tables schema 0 schema) right)
      ∙ sym (ap (λ b. b && all_constraints_met db 0 schema) domains)
    where
      none : (k : ℕ) → 0 + k ≡ k
      none k = omega arith

-- in a database of the domains all axioms hold exactly where it meets the schema
pub axioms_hold : CheckSays → FormulasFit → (schema : List Table) → is_schema schema ≡ true → (db : Database) → is_of_domains schema db ≡ true →
    list_all (λ (a : Axiom). holds db a.sentence []) (axioms schema) ≡ meets schema db
axioms_hold says fit schema right db domains = all_hold says fit schema db domains right
