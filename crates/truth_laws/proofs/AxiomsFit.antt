-- The axioms of a schema fit it.
use Rattle.std.proofs.Common.{◌≡◌, ◌∙◌, add-one, refl, ap, ap₂, subst, ℕ, suc, ◌+◌, pos, neg_ℤ, Bool, true, false, ◌&&◌, if◌then◌else◌, List, [], ◌∷◌, ◌++◌, map, length, arith}
use Rattle.std.proofs.lemmas.List.Folds.{list_all-append}
use Rattle.std.proofs.lemmas.Option.{slice_get_within}
use Rattle.std.specs.List.{list_all, list_any, flat_map, zip}
use Rattle.std.specs.Option.{option_map_or}
use Rattle.std.specs.Prelude.{Option, Some, None, slice_get, option_and_then, is_some, nat_eq, nat_le, nat_lt}
use Rattle.lint_core.specs.declared.condition.Cond.{Cond}
use Rattle.lint_core.specs.declared.schema.Column.{Column}
use Rattle.lint_core.specs.declared.schema.Domain.{Domain}
use Rattle.lint_core.specs.declared.schema.Domain.TheVariants as domain
use Rattle.lint_core.specs.declared.schema.ForeignKey.{ForeignKey}
use Rattle.lint_core.specs.declared.schema.Key.{Key}
use Rattle.lint_core.specs.declared.schema.Kind.{Kind}
use Rattle.lint_core.specs.declared.schema.Table.{Table}
use Rattle.lint_core.specs.Fits.{cond_fits, check_fits, count_conditions, is_flat}
use Rattle.lint_core.specs.Kind.{kind_of, column_kind, are_of_one_kind, is_text}
use Rattle.lint_core.specs.Schema.{are_columns, are_keys, are_checks, are_foreign_keys, are_paired, are_columns_of, refers_to, is_table, are_tables, is_schema}
use Rattle.sort_formula.specs.declared.formula.Atom.TheVariants as atom
use Rattle.sort_formula.specs.declared.formula.Formula.{Formula}
use Rattle.sort_formula.specs.declared.formula.Formula.TheVariants as f
use Rattle.sort_formula.specs.declared.formula.Side.{Side}
use Rattle.sort_formula.specs.declared.formula.Side.TheVariants as side
use Rattle.sort_formula.specs.Axioms.{Axiom, is_text_column, not_null_axiom, not_null_axioms, key_column, key_axiom, check_axiom, row_scope, pair_equal, foreign_sentence, foreign_axioms, table_axioms, axioms_from, axioms}
use Rattle.sort_formula.specs.Cells.{equal_cells, different_cells, le}
use Rattle.sort_formula.specs.Negated.{negated}
use Rattle.sort_formula.specs.Sentences.{formula_fits, is_number_kind, is_number_side, is_text_side, kind_at}
use Rattle.sort_formula.specs.Translation.{is_false_formula}
use Rattle.sort_formula.proofs.Fitting.{fits_atom, fits_and, fits_or, fits_exists, fits_forall}
use Rattle.lint_base.proofs.Lists.{both_left, both_right, true_below}
use Rattle.truth_laws.proofs.Checks.{FormulasFit, row_fits}
use Rattle.truth_laws.proofs.Fitting.{both_are, negation_fits}
use Rattle.truth_laws.proofs.Foreign.{one_none, as_many}
use Rattle.truth_laws.proofs.Values.{kind_of_column, has_column, one_kind}

-- parts of every element
all_flat : {A : Type 0} (p : Formula → Bool) (g : A → List Formula) (t : A → Bool) → ((x : A) → t x ≡ true → list_all p (g x) ≡ true) →
    (xs : List A) → list_all t xs ≡ true → list_all p (flat_map g xs) ≡ true
all_flat p g t each [] all = refl
all_flat p g t each (x ∷ xs) all =
    list_all-append p (g x) (flat_map g xs)
    ∙ ap₂ (λ a b. a && b) (each x (both_left (t x) (list_all t xs) all)) (all_flat p g t each xs (both_right (t x) (list_all t xs) all))

module _ (schema : List Table) where
  abbrev fits : List ℕ → Formula → Bool
  fits outside g = formula_fits schema g outside

  abbrev holds_kind : Bool → Option Kind → Bool
  holds_kind true kind = option_map_or is_text kind false
  holds_kind false kind = option_map_or (is_number_kind schema) kind false

  domain_holds : (d : Domain) → holds_kind (is_text (kind_of d)) (Some (kind_of d)) ≡ true
  domain_holds (domain.Number least greatest unit) = refl
  domain_holds (domain.Text size) = refl

  column_holds : (column : Option Column) → is_some column ≡ true → holds_kind (option_map_or is_text (kind_of_column column) false) (kind_of_column column) ≡ true
  column_holds None there = cc
  column_holds (Some c) there = domain_holds c.domain

  has_kind : (column : Option Column) → is_some column ≡ true → is_some (kind_of_column column) ≡ true
  has_kind None there = cc
  has_kind (Some c) there = refl

  -- ---- cells

  module _ (outside : List ℕ) where
    abbrev is_side : Bool → Side → Bool
    is_side true x = is_text_side schema outside x
    is_side false x = is_number_side schema outside x

    equal_fit : (text : Bool) (x y : Side) → is_side text x ≡ true → is_side text y ≡ true → list_all (fits outside) (equal_cells text x y) ≡ true
    equal_fit true x y left right =
        ap (λ b. b && true) (fits_atom schema (atom.TextEq x y) outside ∙ both_are (is_text_side schema outside x) (is_text_side schema outside y) left right)
    equal_fit false x y left right =
        ap (λ b. b && true)
        (fits_and schema (le x y (pos 0) ∷ le y x (pos 0) ∷ []) outside
        ∙ ap₂ (λ a b. a && (b && true))
        (fits_atom schema (atom.Le x y (pos 0)) outside ∙ both_are (is_number_side schema outside x) (is_number_side schema outside y) left right)
        (fits_atom schema (atom.Le y x (pos 0)) outside ∙ both_are (is_number_side schema outside y) (is_number_side schema outside x) right left))

    different_fit : (text : Bool) (x y : Side) → is_side text x ≡ true → is_side text y ≡ true → list_all (fits outside) (different_cells text x y) ≡ true
    different_fit true x y left right =
        ap (λ b. b && true) (fits_atom schema (atom.TextNe x y) outside ∙ both_are (is_text_side schema outside x) (is_text_side schema outside y) left right)
    different_fit false x y left right =
        ap₂ (λ a b. a && (b && true))
        (fits_atom schema (atom.Le x y (neg_ℤ (pos 1))) outside ∙ both_are (is_number_side schema outside x) (is_number_side schema outside y) left right)
        (fits_atom schema (atom.Le y x (neg_ℤ (pos 1))) outside ∙ both_are (is_number_side schema outside y) (is_number_side schema outside x) right left)

    -- a column of the row of a variable
    module _ (row number : ℕ) (table : Table) (of_number : slice_get outside row ≡ Some number) (at : slice_get schema number ≡ Some table) where
      kind_is : (column : ℕ) → kind_at schema outside row column ≡ column_kind table column
      kind_is column =
          ap (option_and_then (λ t. option_and_then (λ table. column_kind table column) (slice_get schema t))) of_number
          ∙ ap (option_and_then (λ table. column_kind table column)) at

      null_fits : (column : ℕ) → is_some (slice_get table.columns column) ≡ true → fits outside (f.Atom (atom.IsNull row column)) ≡ true
      null_fits column there = fits_atom schema (atom.IsNull row column) outside ∙ (ap is_some (kind_is column) ∙ has_kind (slice_get table.columns column) there)

      not_null_fits : (column : ℕ) → is_some (slice_get table.columns column) ≡ true → fits outside (f.Atom (atom.NotNull row column)) ≡ true
      not_null_fits column there = fits_atom schema (atom.NotNull row column) outside ∙ (ap is_some (kind_is column) ∙ has_kind (slice_get table.columns column) there)

      by_kind : (text : Bool) (column : ℕ) → holds_kind text (kind_at schema outside row column) ≡ true → is_side text (side.Cell row column) ≡ true
      by_kind true column holds = holds
      by_kind false column holds = holds

      cell_fits : (column : ℕ) → is_some (slice_get table.columns column) ≡ true → is_side (is_text_column table column) (side.Cell row column) ≡ true
      cell_fits column there =
          by_kind (is_text_column table column) column (ap (holds_kind (is_text_column table column)) (kind_is column) ∙ column_holds (slice_get table.columns column) there)

  -- ---- the axioms of a table

  module _ (fit : FormulasFit) (number : ℕ) (table : Table) (at : slice_get schema number ≡ Some table) where
    abbrev fitting : Axiom → Bool
    fitting a = formula_fits schema a.sentence []

    of_schema : nat_lt number (length schema) ≡ true
    of_schema = true_below number (length schema) (slice_get_within schema number table at)

    over_rows : (body : Formula) (outside : List ℕ) → fits (outside ++ number ∷ []) body ≡ true → fits outside (f.Forall number body) ≡ true
    over_rows body outside fit = fits_forall schema number body outside ∙ both_are (nat_lt number (length schema)) (fits (outside ++ number ∷ []) body) of_schema fit

    -- NOT NULL

    marked_fits : (marked : Bool) (column : ℕ) → is_some (slice_get table.columns column) ≡ true →
        list_all fitting (if marked then not_null_axiom schema number table column ∷ [] else []) ≡ true
    marked_fits true column there =
        ap (λ b. b && true) (over_rows (f.Atom (atom.NotNull 0 column)) [] (not_null_fits (number ∷ []) 0 number table refl at column there))
    marked_fits false column there = refl

    not_nulls_fit : (column : ℕ) (columns : List Column) → ((k : ℕ) → slice_get table.columns (column + k) ≡ slice_get columns k) →
        list_all fitting (not_null_axioms schema number table column columns) ≡ true
    not_nulls_fit column [] are = refl
    not_nulls_fit column (c ∷ cs) are =
        let here : column ≡ column + 0 = omega arith in
        list_all-append fitting (if c.not_null then not_null_axiom schema number table column ∷ [] else []) (not_null_axioms schema number table (suc column) cs)
        ∙ ap₂ (λ a b. a && b) (marked_fits c.not_null column (ap is_some (ap (slice_get table.columns) here ∙ are 0)))
        (not_nulls_fit (suc column) cs (λ k. ap (slice_get table.columns) (later column k) ∙ are (suc k)))
      where
        later : (m k : ℕ) → suc m + k ≡ m + suc k
        later m k = omega arith

    -- keys

    abbrev two : List ℕ
    two = number ∷ number ∷ []

    column_fits : (column : ℕ) → nat_lt column (length table.columns) ≡ true → list_all (fits two) (key_column schema number table column) ≡ true
    column_fits column low =
        let there = has_column table.columns column low in
        let one = cell_fits two 0 number table refl at column there in
        let other = cell_fits two 1 number table refl at column there in
        ap₂ (λ a b. a && b) (null_fits two 0 number table refl at column there)
        (ap₂ (λ a b. a && b) (null_fits two 1 number table refl at column there)
        (different_fit two (is_text_column table column) (side.Cell 0 column) (side.Cell 1 column) one other))

    key_fits : (key : Key) → list_all (λ column. nat_lt column (length table.columns)) key.columns ≡ true → fitting (key_axiom schema number table key) ≡ true
    key_fits key all =
        let ways = f.Atom (atom.Same 0 1) ∷ flat_map (key_column schema number table) key.columns in
        over_rows (f.Forall number (f.Or ways)) []
        (over_rows (f.Or ways) (number ∷ [])
        (fits_or schema ways two
        ∙ ap₂ (λ a b. a && b) (fits_atom schema (atom.Same 0 1) two)
        (all_flat (fits two) (key_column schema number table) (λ column. nat_lt column (length table.columns)) column_fits key.columns all)))

    keys_fit : (keys : List Key) → list_all (λ (k : Key). list_all (λ column. nat_lt column (length table.columns)) k.columns) keys ≡ true →
        list_all fitting (map (key_axiom schema number table) keys) ≡ true
    keys_fit [] all = refl
    keys_fit (key ∷ keys) all =
        let here = list_all (λ column. nat_lt column (length table.columns)) key.columns in
        let rest = list_all (λ (k : Key). list_all (λ column. nat_lt column (length table.columns)) k.columns) keys in
        ap₂ (λ a b. a && b) (key_fits key (both_left here rest all)) (keys_fit keys (both_right here rest all))

    -- CHECKs

    checks_fit : (checks : List Cond) → list_all (check_fits schema number) checks ≡ true → list_all fitting (map (check_axiom schema number table) checks) ≡ true
    checks_fit [] all = refl
    checks_fit (check ∷ checks) all =
        let here = check_fits schema number check in
        let rest = list_all (check_fits schema number) checks in
        let says = is_false_formula schema check (row_scope schema number table) in
        let meant = both_right (is_flat check && nat_le (count_conditions check) 65536) (cond_fits schema ((number ∷ []) ∷ []) check) (both_left here rest all) in
        ap₂ (λ a b. a && b)
        (over_rows (negated says) [] (negation_fits schema says (number ∷ []) (row_fits fit schema number table check meant)))
        (checks_fit checks (both_right here rest all))

    -- foreign keys

    module _ (key : ForeignKey) (target : Table) (at_other : slice_get schema key.target ≡ Some target) where
      abbrev go_together : (ℕ × ℕ) → Bool
      go_together pair = are_of_one_kind (column_kind table pair.0) (column_kind target pair.1)

      abbrev both_rows : List ℕ
      both_rows = number ∷ key.target ∷ []

      pair_fits : (pair : ℕ × ℕ) → go_together pair ≡ true → list_all (fits both_rows) (pair_equal schema number table pair) ≡ true
      pair_fits pair same =
          let kinds = one_kind table target pair.0 pair.1 same in
          equal_fit both_rows (is_text_column table pair.0) (side.Cell 0 pair.0) (side.Cell 1 pair.1)
          (cell_fits both_rows 0 number table refl at pair.0 kinds.0)
          (subst (λ (text : Bool). is_side both_rows text (side.Cell 1 pair.1) ≡ true) kinds.2 (cell_fits both_rows 1 key.target target refl at_other pair.1 kinds.1))

      nulls_fit : (columns others : List ℕ) → nat_eq (length columns) (length others) ≡ true → list_all go_together (zip columns others) ≡ true →
          list_all (fits (number ∷ [])) (map (λ column. f.Atom (atom.IsNull 0 column)) columns) ≡ true
      nulls_fit [] others many all = refl
      nulls_fit (c ∷ cs) [] many all = absurd (one_none (length cs) many)
      nulls_fit (c ∷ cs) (d ∷ ds) many all =
          let here = go_together (c, d) in
          let rest = list_all go_together (zip cs ds) in
          ap₂ (λ a b. a && b)
          (null_fits (number ∷ []) 0 number table refl at c (one_kind table target c d (both_left here rest all)).0)
          (nulls_fit cs ds (as_many (length cs) (length ds) many) (both_right here rest all))

      sentence_fits : are_paired table target key.columns key.target_columns ≡ true → fits [] (foreign_sentence schema number table key) ≡ true
      sentence_fits paired =
          let pairs = zip key.columns key.target_columns in
          let many = nat_eq (length key.columns) (length key.target_columns) in
          let kinds = list_all go_together pairs in
          let equal = flat_map (pair_equal schema number table) pairs in
          let nulls = map (λ column. f.Atom (atom.IsNull 0 column)) key.columns in
          let some_row = f.Exists key.target (f.And equal) in
          let inside = fits both_rows (f.And equal) in
          let target_there = true_below key.target (length schema) (slice_get_within schema key.target target at_other) in
          over_rows (f.Or (nulls ++ some_row ∷ [])) []
          (fits_or schema (nulls ++ some_row ∷ []) (number ∷ [])
          ∙ (list_all-append (fits (number ∷ [])) nulls (some_row ∷ [])
          ∙ ap₂ (λ a b. a && (b && true))
          (nulls_fit key.columns key.target_columns (both_left many kinds paired) (both_right many kinds paired))
          (fits_exists schema key.target (f.And equal) (number ∷ [])
          ∙ both_are (nat_lt key.target (length schema)) inside target_there
          (fits_and schema equal both_rows ∙ all_flat (fits both_rows) (pair_equal schema number table) go_together pair_fits pairs (both_right many kinds paired)))))

    foreign_fits : (key : ForeignKey) (target : Option Table) → slice_get schema key.target ≡ target → refers_to table key target ≡ true → fits [] (foreign_sentence schema number table key) ≡ true
    foreign_fits key None at_other refers = cc
    foreign_fits key (Some target) at_other refers =
        sentence_fits key target at_other (both_left (are_paired table target key.columns key.target_columns) (list_any (are_columns_of key.target_columns) target.keys) refers)

    foreign_keys_fit : (index : ℕ) (keys : List ForeignKey) → list_all (λ (k : ForeignKey). refers_to table k (slice_get schema k.target)) keys ≡ true →
        list_all fitting (foreign_axioms schema number table index keys) ≡ true
    foreign_keys_fit index [] all = refl
    foreign_keys_fit index (key ∷ keys) all =
        let here = refers_to table key (slice_get schema key.target) in
        let rest = list_all (λ (k : ForeignKey). refers_to table k (slice_get schema k.target)) keys in
        ap₂ (λ a b. a && b) (foreign_fits key (slice_get schema key.target) refl (both_left here rest all)) (foreign_keys_fit (suc index) keys (both_right here rest all))

    table_fits : is_table schema number table ≡ true → list_all fitting (table_axioms schema number table) ≡ true
    table_fits right =
        let columns = are_columns table.columns in
        let keys = are_keys table table.keys in
        let checks = are_checks schema number table.checks in
        let foreign = are_foreign_keys schema table table.foreign in
        let three = both_left (columns && keys && checks) foreign right in
        let two = both_left (columns && keys) checks three in
        let each_key = both_right (nat_le (length table.keys) 1000) (list_all (λ (k : Key). list_all (λ column. nat_lt column (length table.columns)) k.columns) table.keys) (both_right columns keys two) in
        let each_check = both_right (nat_le (length table.checks) 1000) (list_all (check_fits schema number) table.checks) (both_right (columns && keys) checks three) in
        let each_foreign = both_right (nat_le (length table.foreign) 1000) (list_all (λ (k : ForeignKey). refers_to table k (slice_get schema k.target)) table.foreign) (both_right (columns && keys && checks) foreign right) in
        let a = not_null_axioms schema number table 0 table.columns in
        let b = map (key_axiom schema number table) table.keys in
        let c = map (check_axiom schema number table) table.checks in
        let d = foreign_axioms schema number table 0 table.foreign in
        list_all-append fitting (a ++ b ++ c) d
        ∙ ap₂ (λ x y. x && y)
        (list_all-append fitting (a ++ b) c
        ∙ ap₂ (λ x y. x && y)
        (list_all-append fitting a b ∙ ap₂ (λ x y. x && y) (not_nulls_fit 0 table.columns (λ k. ap (slice_get table.columns) (none k))) (keys_fit table.keys each_key))
        (checks_fit table.checks each_check))
        (foreign_keys_fit 0 table.foreign each_foreign)
      where
        none : (k : ℕ) → 0 + k ≡ k
        none k = omega arith

  tables_fit : FormulasFit → (number : ℕ) (tables : List Table) → ((k : ℕ) → slice_get schema (number + k) ≡ slice_get tables k) → are_tables schema number tables ≡ true →
      list_all (λ (a : Axiom). formula_fits schema a.sentence []) (axioms_from schema number tables) ≡ true
  tables_fit fit number [] at right = refl
  tables_fit fit number (table ∷ tables) at right =
      let here : number ≡ number + 0 = omega arith in
      let first = is_table schema number table in
      let rest = are_tables schema (number + 1) tables in
      list_all-append (λ (a : Axiom). formula_fits schema a.sentence []) (table_axioms schema number table) (axioms_from schema (suc number) tables)
      ∙ ap₂ (λ a b. a && b)
      (table_fits fit number table (ap (slice_get schema) here ∙ at 0) (both_left first rest right))
      (tables_fit fit (suc number) tables (λ k. ap (slice_get schema) (later k) ∙ at (suc k)) (subst (λ (n : ℕ). are_tables schema n tables ≡ true) (add-one number) (both_right first rest right)))
    where
      later : (k : ℕ) → suc number + k ≡ number + suc k
      later k = omega arith

pub all_fit : FormulasFit → (schema : List Table) → is_schema schema ≡ true → list_all (λ (a : Axiom). formula_fits schema a.sentence []) (axioms schema) ≡ true
all_fit fit schema right = tables_fit schema fit 0 schema (λ k. ap (slice_get schema) (none k)) (both_right (nat_le (length schema) 200) (are_tables schema 0 schema) right)
  where
    none : (k : ℕ) → 0 + k ≡ k
    none k = omega arith
