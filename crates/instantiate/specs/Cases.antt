-- What a problem is, and what a full case of one says of rows: which row terms are present, and which database the
-- classes of the present ones make.
use Rattle.std.specs.Prelude.{◌≡◌, ◌↔◌, ℕ, suc, Bool, true, false, ◌<◌, List, [], length, map, Option, Some, slice_get, option_and_then, unwrap_or, is_some}
use Rattle.std.specs.Option.{option_map_or}
use Rattle.lint_core.specs.declared.database.Database.{Database}
use Rattle.lint_core.specs.declared.database.Row.{Row}
use Rattle.lint_core.specs.declared.database.Value.{Value}
use Rattle.lint_core.specs.declared.schema.Table.{Table}
use Rattle.lint_core.specs.Database.{Place, rows_of}
use Rattle.sorted_skolem.specs.declared.term.RowTerm.{RowTerm}
use Rattle.sorted_skolem.specs.Graph.{IsOrder}
use Rattle.sorted_skolem.specs.Terms.{row_terms}
use Rattle.sorted_skolem.specs.Preorder.{outlines_of}
use Rattle.ground_theory.specs.declared.literal.Assignment.{Assignment}
use Rattle.ground_theory.specs.Assignments.{are_one, cells_at}
use Rattle.instantiate.specs.declared.problem.Problem.{Problem}
use Rattle.instantiate.specs.Keys.{Key, number_of}
use Rattle.instantiate.specs.Ground.{keys, maker_of, clauses_of, frame_of}

-- made of these sentences over this schema
pub record IsProblem (schema : List Table) (problem : Problem) : Type 0 where
  pub order : IsOrder problem.sentences problem.order.tables
  pub terms : problem.rows.terms ≡ row_terms (outlines_of problem.sentences) problem.order.tables
  pub clauses : problem.clauses ≡ clauses_of (outlines_of problem.sentences) problem.order.tables problem.rows.terms
  pub frame : problem.frame ≡ frame_of schema problem.rows.terms
  pub numbers : length problem.numbers ≡ suc (length problem.sentences)

module _ (problem : Problem) (choices : List (Option ℕ)) where
  -- the clause of the node is taken
  abbrev pub is_taken : Key → Bool
  is_taken key = unwrap_or (option_and_then (λ c. Some (is_some c)) (slice_get choices (number_of (keys (outlines_of problem.sentences) problem.order.tables problem.rows.terms) key))) false

  -- the Exists that asks for the row is taken
  abbrev pub is_present : ℕ → Bool
  is_present row = option_map_or (λ (t : RowTerm). is_taken (maker_of t)) (slice_get problem.rows.terms row) false

abbrev pub IsCells : Database → Place → List Value → Type 0
IsCells db place cells = option_map_or (λ (row : Row). row.values) (slice_get (rows_of db place.table) place.row) [] ≡ cells

-- the rows are the classes of the present terms with their cells, and no others; the place of each present term
pub record IsDatabaseOf (problem : Problem) (choices : List (Option ℕ)) (a : Assignment) (db : Database) (places : List (Option ℕ)) : Type 0 where
  pub tables : length db.tables ≡ length problem.frame.domains
  pub as_many : length places ≡ length problem.rows.terms
  -- a present term, of this table, has a place, and the row there has its cells
  pub present : (row : ℕ) (t : RowTerm) → slice_get problem.rows.terms row ≡ Some t → is_present problem choices row ≡ true
      → (at : ℕ) × (slice_get places row ≡ Some (Some at)) × (at < length (rows_of db t.table))
      × IsCells db (record { table = t.table; row = at }) (cells_at a row)
  pub absent : (row : ℕ) (at : ℕ) → slice_get places row ≡ Some (Some at) → is_present problem choices row ≡ true
  -- two terms of one table have one place exactly where they are of one class
  pub one : (row other : ℕ) (t u : RowTerm) (at to : ℕ) → slice_get problem.rows.terms row ≡ Some t → slice_get problem.rows.terms other ≡ Some u → t.table ≡ u.table
      → slice_get places row ≡ Some (Some at) → slice_get places other ≡ Some (Some to) → (at ≡ to) ↔ (are_one a row other ≡ true)
  -- each row is the place of a present term
  pub others : (table at : ℕ) → at < length (rows_of db table)
      → (row : ℕ) × ((t : RowTerm) × (slice_get problem.rows.terms row ≡ Some t) × (t.table ≡ table) × (slice_get places row ≡ Some (Some at)))

-- the places of variables
abbrev pub places_at : List RowTerm → List (Option ℕ) → List ℕ → List Place
places_at terms places rows =
    map (λ row. record { table = option_map_or (λ (t : RowTerm). t.table) (slice_get terms row) 0; row = unwrap_or (option_and_then (λ o. o) (slice_get places row)) 0 }) rows
