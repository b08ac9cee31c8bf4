-- The tables of a schema have few columns, keys, CHECKs and foreign keys.
use Rattle.std.proofs.Common.{◌≡◌, sym, subst, ℕ, zero, suc, ◌+◌, ◌<◌, ◌^◌, Bool, true, ◌&&◌, List, [], ◌∷◌, length, get_or, nat_le, arith, leb-true}
use Rattle.std.proofs.lemmas.Bool.{and_parts}
use Rattle.lint_core.specs.declared.schema.Table.{Table}
use Rattle.lint_core.specs.Schema.{are_columns, are_keys, are_checks, are_foreign_keys, is_table, are_tables, is_schema}

pub record Small (table : Table) : Type 0 where
  pub columns : length table.columns < 2 ^ 32
  pub keys : length table.keys < 2 ^ 32
  pub checks : length table.checks < 2 ^ 32
  pub foreign : length table.foreign < 2 ^ 32

few : (n limit : ℕ) (more : Bool) → limit < 2 ^ 32 → (nat_le n limit && more) ≡ true → n < 2 ^ 32
few n limit more low is = omega (arith, leb-true n limit (and_parts (nat_le n limit) more is).0)

table_small : (schema : List Table) (number : ℕ) (table : Table) → is_table schema number table ≡ true → Small table
table_small schema number table is =
    let foreign = and_parts _ (are_foreign_keys schema table table.foreign) is in
    let checks = and_parts _ (are_checks schema number table.checks) foreign.0 in
    let keys = and_parts (are_columns table.columns) (are_keys table table.keys) checks.0 in
    record {
      columns = few (length table.columns) 64 _ (omega arith) keys.0;
      keys = few (length table.keys) 1000 _ (omega arith) keys.1;
      checks = few (length table.checks) 1000 _ (omega arith) checks.1;
      foreign = few (length table.foreign) 1000 _ (omega arith) foreign.1;
    }

each_small : (schema : List Table) (number : ℕ) (tables : List Table) → are_tables schema number tables ≡ true → (i : ℕ) (table : Table) → i < length tables → table ≡ get_or tables i table → Small table
each_small schema number [] are i table low is = absurd (omega arith)
each_small schema number (t ∷ ts) are zero table low is =
    subst Small (sym is) (table_small schema number t (and_parts (is_table schema number t) (are_tables schema (number + 1) ts) are).0)
each_small schema number (t ∷ ts) are (suc i) table low is =
    each_small schema (number + 1) ts (and_parts (is_table schema number t) (are_tables schema (number + 1) ts) are).1 i table (omega arith) is

pub small : (schema : List Table) → is_schema schema ≡ true → (i : ℕ) (table : Table) → i < length schema → table ≡ get_or schema i table → Small table
small schema is i table low at = each_small schema 0 schema (and_parts (nat_le (length schema) 200) (are_tables schema 0 schema) is).1 i table low at
