-- The values of a table's columns in a database of the domains: their kinds, and when they are equal and differ.
use Rattle.std.proofs.Common.{◌≡◌, ◌∙◌, refl, sym, ap, ap₂, subst, ℕ, zero, suc, ℤ, pos, neg_ℤ, ◌-ℤ◌, Bool, true, false, not, ◌&&◌, ◌||◌, List, [], ◌∷◌, length, arith}
use Rattle.std.proofs.lemmas.Int.{ints}
use Rattle.std.proofs.lemmas.Bool.Decides.{nat_tests}
use Rattle.std.proofs.lemmas.Option.{same_Some}
use Rattle.std.specs.List.{list_any, list_all}
use Rattle.std.specs.Option.{option_and_then, option_map_or}
use Rattle.std.specs.Ordering.{int_eq}
use Rattle.std.specs.Prelude.{Option, Some, None, slice_get, unwrap_or, is_some, nat_lt}
use Rattle.lint_core.specs.declared.database.Database.{Database}
use Rattle.lint_core.specs.declared.database.Row.{Row}
use Rattle.lint_core.specs.declared.database.Value.{Value}
use Rattle.lint_core.specs.declared.database.Value.TheVariants.{Null, Int, Text}
use Rattle.lint_core.specs.declared.schema.Column.{Column}
use Rattle.lint_core.specs.declared.schema.Domain.{Domain}
use Rattle.lint_core.specs.declared.schema.Domain.TheVariants as domain
use Rattle.lint_core.specs.declared.schema.Kind.{Kind}
use Rattle.lint_core.specs.declared.schema.Table.{Table}
use Rattle.lint_core.specs.Comparison.{are_equal, is_null, is_same_text}
use Rattle.lint_core.specs.Database.{Place, rows_of}
use Rattle.lint_core.specs.Domain.{int_le}
use Rattle.lint_core.specs.Kind.{column_kind, kind_of, is_text, are_of_one_kind}
use Rattle.lint_core.specs.Meets.{rows_meet, tables_meet, is_of_domains}
use Rattle.lint_core.specs.Truth.{truth_of, is_true}
use Rattle.sort_formula.specs.declared.formula.Side.{Side}
use Rattle.sort_formula.specs.declared.formula.Side.TheVariants as side
use Rattle.sort_formula.specs.declared.formula.Atom.TheVariants as atom
use Rattle.sort_formula.specs.Axioms.{is_text_column}
use Rattle.sort_formula.specs.Cells.{equal_cells, different_cells, le}
use Rattle.sort_formula.specs.Holds.{holds, side_value, cell_value, differ_by_at_most, are_texts}
use Rattle.sort_formula.specs.Rows.{tables_of_rows}
use Rattle.sort_formula.specs.Sentences.{is_number_kind, kind_at}
use Rattle.formula_laws.proofs.Cells.{may_be_number, may_be_text, number_side, text_side}
use Rattle.sort_formula.proofs.Holding.{holds_atom, holds_and}
use Rattle.lint_base.proofs.Lists.{both_left, both_right, and_true, or_false}

-- NULL or a text; NULL or a number
abbrev pub is_of : Bool → Value → Bool
is_of true v = may_be_text v
is_of false v = may_be_number v

true_of_test : (b : Bool) → is_true (truth_of b) ≡ b
true_of_test true = refl
true_of_test false = refl

-- ---- equal

abbrev parts_equal : Bool → Value → Value → Bool
parts_equal true v w = are_texts (λ same. same) v w && true
parts_equal false v w = differ_by_at_most v w (pos 0) && (differ_by_at_most w v (pos 0) && true) && true

numbers_equal : (a b : ℤ) → (int_le (a -ℤ b) (pos 0) && (int_le (b -ℤ a) (pos 0) && true) && true) ≡ int_eq a b
numbers_equal a b = grind (arith, ints)

is_equal : (text : Bool) (v w : Value) → is_of text v ≡ true → is_of text w ≡ true → parts_equal text v w ≡ are_equal v w
is_equal true Null w left right = refl
is_equal true (Int a) w left right = cc
is_equal true (Text a) Null left right = refl
is_equal true (Text a) (Int b) left right = cc
is_equal true (Text a) (Text b) left right = and_true (is_same_text a b) ∙ sym (true_of_test (is_same_text a b))
is_equal false Null w left right = refl
is_equal false (Int a) Null left right = refl
is_equal false (Int a) (Int b) left right = numbers_equal a b ∙ sym (true_of_test (int_eq a b))
is_equal false (Int a) (Text b) left right = cc
is_equal false (Text a) w left right = cc

-- ---- different

abbrev parts_differ : Bool → Value → Value → Bool
parts_differ true v w = are_texts not v w || false
parts_differ false v w = differ_by_at_most v w (neg_ℤ (pos 1)) || (differ_by_at_most w v (neg_ℤ (pos 1)) || false)

numbers_differ : (a b : ℤ) → (int_le (a -ℤ b) (neg_ℤ (pos 1)) || (int_le (b -ℤ a) (neg_ℤ (pos 1)) || false)) ≡ not (int_eq a b)
numbers_differ a b = grind (arith, ints)

is_other : (text : Bool) (v w : Value) → is_of text v ≡ true → is_of text w ≡ true → (is_null v || (is_null w || parts_differ text v w)) ≡ not (are_equal v w)
is_other true Null w left right = refl
is_other true (Int a) w left right = cc
is_other true (Text a) Null left right = refl
is_other true (Text a) (Int b) left right = cc
is_other true (Text a) (Text b) left right = or_false (not (is_same_text a b)) ∙ ap not (sym (true_of_test (is_same_text a b)))
is_other false Null w left right = refl
is_other false (Int a) Null left right = refl
is_other false (Int a) (Int b) left right = numbers_differ a b ∙ ap not (sym (true_of_test (int_eq a b)))
is_other false (Int a) (Text b) left right = cc
is_other false (Text a) w left right = cc

-- ---- kinds of columns

abbrev pub kind_of_column : Option Column → Option Kind
kind_of_column column = option_and_then (λ (c : Column). Some (kind_of c.domain)) column

by_domain : (schema : List Table) (d : Domain) (v : Value) →
    (is_number_kind schema (kind_of d) ≡ true → may_be_number v ≡ true) → (is_text (kind_of d) ≡ true → may_be_text v ≡ true) → is_of (is_text (kind_of d)) v ≡ true
by_domain schema (domain.Number least greatest unit) v number text = number refl
by_domain schema (domain.Text size) v number text = text refl

by_column : (schema : List Table) (column : Option Column) (v : Value) → is_some column ≡ true →
    (option_map_or (is_number_kind schema) (kind_of_column column) false ≡ true → may_be_number v ≡ true) →
    (option_map_or is_text (kind_of_column column) false ≡ true → may_be_text v ≡ true) →
    is_of (option_map_or is_text (kind_of_column column) false) v ≡ true
by_column schema None v there number text = cc
by_column schema (Some c) v there number text = by_domain schema c.domain v number text

pub has_column : (columns : List Column) (column : ℕ) → nat_lt column (length columns) ≡ true → is_some (slice_get columns column) ≡ true
has_column [] column low = absurd (none column low)
  where
    none : (column : ℕ) → nat_lt column zero ≡ true → ⊥
    none column low = grind (arith, nat_tests)
has_column (c ∷ cs) zero low = refl
has_column (c ∷ cs) (suc column) low = has_column cs column (less column (length cs) low)
  where
    less : (a b : ℕ) → nat_lt (suc a) (suc b) ≡ true → nat_lt a b ≡ true
    less a b low = grind (arith, nat_tests)

columns_go : (one other : Option Column) → are_of_one_kind (kind_of_column one) (kind_of_column other) ≡ true →
    (is_some one ≡ true) × (is_some other ≡ true) × (option_map_or is_text (kind_of_column other) false ≡ option_map_or is_text (kind_of_column one) false)
columns_go None other same = cc
columns_go (Some c) None same = cc
columns_go (Some c) (Some d) same = (refl, refl, domains_go c.domain d.domain same)
  where
    domains_go : (d e : Domain) → are_of_one_kind (Some (kind_of d)) (Some (kind_of e)) ≡ true → is_text (kind_of e) ≡ is_text (kind_of d)
    domains_go (domain.Number least greatest unit) (domain.Number less more other) same = refl
    domains_go (domain.Number least greatest unit) (domain.Text size) same = cc
    domains_go (domain.Text size) (domain.Number least greatest unit) same = cc
    domains_go (domain.Text size) (domain.Text other) same = refl

-- columns of one kind are there, and both are of texts or both of numbers
pub one_kind : (table target : Table) (column other : ℕ) → are_of_one_kind (column_kind table column) (column_kind target other) ≡ true →
    (is_some (slice_get table.columns column) ≡ true) × (is_some (slice_get target.columns other) ≡ true) × (is_text_column target other ≡ is_text_column table column)
one_kind table target column other same = columns_go (slice_get table.columns column) (slice_get target.columns other) same

tables_rows : (schema : List Table) (tables : List (List Row)) → tables_meet schema tables ≡ true → (number : ℕ) (table : Table) → slice_get schema number ≡ Some table →
    rows_meet table (unwrap_or (slice_get tables number) []) ≡ true
tables_rows [] tables meet number table at = cc
tables_rows (t ∷ ts) [] meet number table at = cc
tables_rows (t ∷ ts) (r ∷ rs) meet zero table at = subst (λ t. rows_meet t r ≡ true) (same_Some t table at) (both_left (rows_meet t r) (tables_meet ts rs) meet)
tables_rows (t ∷ ts) (r ∷ rs) meet (suc number) table at = tables_rows ts rs (both_right (rows_meet t r) (tables_meet ts rs) meet) number table at

module _ (schema : List Table) (db : Database) (domains : is_of_domains schema db ≡ true) where
  -- the rows of a table of the schema have its columns' values
  pub rows_are : (number : ℕ) (table : Table) → slice_get schema number ≡ Some table → rows_meet table (rows_of db number) ≡ true
  rows_are number table at = tables_rows schema db.tables domains number table at

  -- the value of a column of the table in the row of a variable
  pub cell_is : (rows : List Place) (row number column : ℕ) (table : Table) → slice_get (tables_of_rows rows) row ≡ Some number → slice_get schema number ≡ Some table →
      is_some (slice_get table.columns column) ≡ true → is_of (is_text_column table column) (cell_value db rows row column) ≡ true
  cell_is rows row number column table of_number at there =
      let kind : kind_at schema (tables_of_rows rows) row column ≡ column_kind table column =
      ap (option_and_then (λ t. option_and_then (λ table. column_kind table column) (slice_get schema t))) of_number
      ∙ ap (option_and_then (λ table. column_kind table column)) at in
      by_column schema (slice_get table.columns column) (cell_value db rows row column) there
      (λ is. number_side schema db domains rows (side.Cell row column) (ap (λ kind. option_map_or (is_number_kind schema) kind false) kind ∙ is))
      (λ is. text_side schema db domains rows (side.Cell row column) (ap (λ kind. option_map_or is_text kind false) kind ∙ is))

module _ (db : Database) (rows : List Place) where
  -- the formulas that say so of two sides
  equal_parts : (text : Bool) (x y : Side) → list_all (λ g. holds db g rows) (equal_cells text x y) ≡ parts_equal text (side_value db rows x) (side_value db rows y)
  equal_parts true x y = ap (λ b. b && true) (holds_atom db (atom.TextEq x y) rows)
  equal_parts false x y =
      ap (λ b. b && true)
      (holds_and db (le x y (pos 0) ∷ le y x (pos 0) ∷ []) rows
      ∙ ap₂ (λ a b. a && (b && true)) (holds_atom db (atom.Le x y (pos 0)) rows) (holds_atom db (atom.Le y x (pos 0)) rows))

  pub equal_say : (text : Bool) (x y : Side) → is_of text (side_value db rows x) ≡ true → is_of text (side_value db rows y) ≡ true →
      list_all (λ g. holds db g rows) (equal_cells text x y) ≡ are_equal (side_value db rows x) (side_value db rows y)
  equal_say text x y left right = equal_parts text x y ∙ is_equal text (side_value db rows x) (side_value db rows y) left right

  different_parts : (text : Bool) (x y : Side) → list_any (λ g. holds db g rows) (different_cells text x y) ≡ parts_differ text (side_value db rows x) (side_value db rows y)
  different_parts true x y = ap (λ b. b || false) (holds_atom db (atom.TextNe x y) rows)
  different_parts false x y =
      ap₂ (λ a b. a || (b || false)) (holds_atom db (atom.Le x y (neg_ℤ (pos 1))) rows) (holds_atom db (atom.Le y x (neg_ℤ (pos 1))) rows)

  -- a NULL among the two, or a difference
  pub different_say : (text : Bool) (x y : Side) → is_of text (side_value db rows x) ≡ true → is_of text (side_value db rows y) ≡ true →
      (is_null (side_value db rows x) || (is_null (side_value db rows y) || list_any (λ g. holds db g rows) (different_cells text x y)))
      ≡ not (are_equal (side_value db rows x) (side_value db rows y))
  different_say text x y left right =
      ap (λ b. is_null (side_value db rows x) || (is_null (side_value db rows y) || b)) (different_parts text x y)
      ∙ is_other text (side_value db rows x) (side_value db rows y) left right
