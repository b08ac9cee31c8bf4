-- What the trees of declarations bind to is a schema.
use Rattle.std.proofs.Common.{ℕ, zero, suc, ◌+◌, ◌<◌, ◌≤◌, ◌≡◌, ◌⊎◌, inl, inr, refl, sym, ap, ap₂, ◌∙◌, subst, Bool, true, ◌&&◌, ◌||◌, List, [], ◌∷◌, length, map, Option, Some, None, Ok, nat_eq, nat_le, slice_get, option_map, option_and_then, unwrap_or, arith, le-leb, lt-ltb, add-zero, zero-add}
use Rattle.std.proofs.lemmas.Bool.{and_parts, and_from, cases_lt}
use Rattle.std.proofs.lemmas.Option.{same_Some, slice_get_within, slice_get_past}
use Rattle.std.specs.List.{list_all, list_any, zip}
use Rattle.lint_base.proofs.Lists.{all_at, all_append}
use Rattle.sql_tree.specs.declared.term.NameTree.{NameTree}
use Rattle.sql_tree.specs.declared.schema.RuleTree.{RuleTree}
use Rattle.sql_tree.specs.declared.schema.RuleTree.TheVariants.{NotNull, Unique, Primary, Check, Foreign}
use Rattle.sql_tree.specs.declared.schema.Element.{Element}
use Rattle.sql_tree.specs.declared.schema.Element.TheVariants as element
use Rattle.sql_tree.specs.declared.schema.CreateTable.{CreateTable}
use Rattle.lint_core.specs.declared.condition.Cond.{Cond}
use Rattle.lint_core.specs.declared.schema.Column.{Column}
use Rattle.lint_core.specs.declared.schema.Key.{Key}
use Rattle.lint_core.specs.declared.schema.ForeignKey.{ForeignKey}
use Rattle.lint_core.specs.declared.schema.Table.{Table}
use Rattle.lint_core.specs.Fits.{is_flat, check_fits, count_conditions, cond_fits}
use Rattle.lint_core.specs.Kind.{column_kind, kind_of, are_of_one_kind}
use Rattle.lint_core.specs.Schema.{are_columns_of, are_paired, refers_to, is_table, are_tables, is_schema}
use Rattle.sql_bind.specs.Bound.{and_then}
use Rattle.sql_bind.specs.Shape.{rule_shaped, table_rule_shaped, element_shaped, schema_shaped}
use Rattle.sql_bind.specs.Columns.{rules_of, bind_outlines}
use Rattle.sql_bind.specs.Keys.{named_keys, key_rules}
use Rattle.sql_bind.specs.Schemas.{Constraints, no_constraints, keys_of, rules_at, bind_rules, with_constraints, bind_tables, bind_schema}
use Rattle.sql_bind.proofs.FitsAlike.{columns_at, fits_alike}
use Rattle.sql_bind.proofs.FitsBound.{and_then_ok, same_ok}
use Rattle.sql_bind.proofs.FitsColumns.{has_domain, good_columns, Outlines, outlines_good}
use Rattle.sql_bind.proofs.FitsLists.{inside, all_same, all_weaker}
use Rattle.sql_bind.proofs.FitsNamed.{keys_named}
use Rattle.sql_bind.proofs.FitsRules.{columns_of_key, refers, refers_well, Good, rules_good}

-- the rules of a table are shaped, where its elements are
table_rule : (rule : RuleTree) → table_rule_shaped rule ≡ true → rule_shaped rule ≡ true
table_rule NotNull shaped = refl
table_rule (Unique names) shaped = shaped
table_rule (Primary names at) shaped = shaped
table_rule (Check tree) shaped = shaped
table_rule (Foreign own target targets at) shaped = shaped

rules_shaped : (elements : List Element) → list_all element_shaped elements ≡ true → list_all rule_shaped (rules_of elements) ≡ true
unfolding rules_of
rules_shaped [] shaped = refl
rules_shaped (element.Column name kind rules ∷ elements) shaped =
    let both = and_parts (list_all rule_shaped rules) (list_all element_shaped elements) shaped in
    all_append rule_shaped rules (rules_of elements) both.0 (rules_shaped elements both.1)
rules_shaped (element.Rule rule ∷ elements) shaped =
    let both = and_parts (table_rule_shaped rule) (list_all element_shaped elements) shaped in
    and_from _ _ (table_rule rule both.0) (rules_shaped elements both.1)

-- the pairs depend on the columns of the tables alone
kind_alike : (a b : Table) (column : ℕ) → a.columns ≡ b.columns → column_kind a column ≡ column_kind b column
kind_alike a b column same = ap (λ (cs : List Column). option_and_then (λ (c : Column). Some (kind_of c.domain)) (slice_get cs column)) same

paired_alike : (a b c d : Table) (own targets : List ℕ) → a.columns ≡ c.columns → b.columns ≡ d.columns → are_paired a b own targets ≡ are_paired c d own targets
paired_alike a b c d own targets left right =
    ap (λ each. nat_eq (length own) (length targets) && each) (all_same (λ pair. are_of_one_kind (column_kind a pair.0) (column_kind b pair.1)) (λ pair. are_of_one_kind (column_kind c pair.0) (column_kind d pair.1))
    (λ pair. ap₂ are_of_one_kind (kind_alike a c pair.0 left) (kind_alike b d pair.1 right)) (zip own targets))

abbrev is_foreign_key : List Table → Table → ForeignKey → Bool
is_foreign_key schema table foreign = refers_to table foreign (slice_get schema foreign.target)

any_columns : (targets : List ℕ) (keys : List Key) → list_any (λ key. are_columns_of targets (record { columns = key })) (map columns_of_key keys) ≡ list_any (are_columns_of targets) keys
any_columns targets [] = refl
any_columns targets (key ∷ keys) = ap (λ rest. are_columns_of targets key || rest) (any_columns targets keys)

-- tables that are good at their places
each_table : (schema : List Table) (number : ℕ) (tables : List Table) → ((i : ℕ) (t : Table) → slice_get tables i ≡ Some t → is_table schema (number + i) t ≡ true) → are_tables schema number tables ≡ true
each_table schema number [] each = refl
each_table schema number (table ∷ tables) each =
    and_from (is_table schema number table) (are_tables schema (number + 1) tables)
    (ap (λ n. is_table schema n table) (sym (add-zero number)) ∙ each 0 table refl)
    (each_table schema (number + 1) tables (λ i t at.
    let same : (number + 1) + i ≡ number + suc i = omega arith in
    ap (λ n. is_table schema n t) same ∙ each (suc i) t at))

module _ (outlines : List Table) (trees : List CreateTable) where
  -- a table of a number: its tree, its constraints, and what they make of it
  pub record Row (number i : ℕ) (parts : List CreateTable) (tables : List Table) (outline : Table) : Type 0 where
    pub tree : CreateTable
    pub constraints : Constraints
    pub tree_is : slice_get parts i ≡ Some tree
    pub bound : bind_rules outlines trees outline tree.name (number + i) no_constraints (rules_of tree.elements) ≡ Ok constraints
    pub table_is : slice_get tables i ≡ Some (with_constraints outlines trees outline tree.name constraints)

  abbrev Rows : ℕ → List Table → List CreateTable → List Table → Type 0
  Rows number rest parts tables = (length tables ≡ length rest) × ((i : ℕ) (outline : Table) → slice_get rest i ≡ Some outline → Row number i parts tables outline)

  row_at : (number : ℕ) (table : Table) (rest : List Table) (tree : CreateTable) (parts : List CreateTable) (c : Constraints) (more : List Table) →
      bind_rules outlines trees table tree.name number no_constraints (rules_of tree.elements) ≡ Ok c →
      ((i : ℕ) (outline : Table) → slice_get rest i ≡ Some outline → Row (suc number) i parts more outline) →
      (i : ℕ) (outline : Table) → slice_get (table ∷ rest) i ≡ Some outline → Row number i (tree ∷ parts) (with_constraints outlines trees table tree.name c ∷ more) outline
  row_at number table rest tree parts c more is later zero outline at =
      subst (Row number 0 (tree ∷ parts) (with_constraints outlines trees table tree.name c ∷ more)) (same_Some table outline at)
      (record {
        tree = tree;
        constraints = c;
        tree_is = refl;
        bound = ap (λ n. bind_rules outlines trees table tree.name n no_constraints (rules_of tree.elements)) (add-zero number) ∙ is;
        table_is = refl;
      })
  row_at number table rest tree parts c more is later (suc i) outline at =
      let row = later i outline at in
      let same : number + suc i ≡ suc number + i = omega arith in
      record {
        tree = row.tree;
        constraints = row.constraints;
        tree_is = row.tree_is;
        bound = ap (λ n. bind_rules outlines trees outline row.tree.name n no_constraints (rules_of row.tree.elements)) same ∙ row.bound;
        table_is = row.table_is;
      }

  rows : (number : ℕ) (rest : List Table) (parts : List CreateTable) (tables : List Table) → length rest ≡ length parts → bind_tables outlines trees number rest parts ≡ Ok tables → Rows number rest parts tables
  unfolding bind_tables
  rows number [] parts tables sizes is = subst (Rows number [] parts) (same_ok [] tables is) (refl, λ i outline at. absurd (cc))
  rows number (table ∷ rest) [] tables sizes is = absurd (omega arith)
  rows number (table ∷ rest) (tree ∷ parts) tables sizes is =
      let with_rules = λ (c : Constraints). and_then (bind_tables outlines trees (suc number) rest parts) (λ bound. Ok (with_constraints outlines trees table tree.name c ∷ bound)) in
      let c = and_then_ok (bind_rules outlines trees table tree.name number no_constraints (rules_of tree.elements)) with_rules tables is in
      let more = and_then_ok (bind_tables outlines trees (suc number) rest parts) (λ bound. Ok (with_constraints outlines trees table tree.name c.0 ∷ bound)) tables c.2 in
      let later = rows (suc number) rest parts more.0 (omega arith) more.1 in
      subst (Rows number (table ∷ rest) (tree ∷ parts)) (same_ok (with_constraints outlines trees table tree.name c.0 ∷ more.0) tables more.2)
      (ap suc later.0, row_at number table rest tree parts c.0 more.0 c.1 later.1)

  module _ (tables : List Table) (shaped : schema_shaped trees ≡ true) (good : list_all good_columns outlines ≡ true) (all : Rows 0 outlines trees tables) where
    -- the bound tables have the columns of the outlines
    same_columns : (i : ℕ) → columns_at outlines i ≡ columns_at tables i
    same_columns i = at_place (cases_lt i (length outlines))
      where
        at_place : (i < length outlines) ⊎ (length outlines ≤ i) → columns_at outlines i ≡ columns_at tables i
        at_place (inl below) =
            let o = inside outlines i (lt-ltb i (length outlines) below) in
            ap (option_map (λ (t : Table). t.columns)) o.1 ∙ sym (ap (option_map (λ (t : Table). t.columns)) (all.1 i o.0 o.1).table_is)
        at_place (inr past) =
            ap (option_map (λ (t : Table). t.columns)) (slice_get_past outlines i past)
            ∙ sym (ap (option_map (λ (t : Table). t.columns)) (slice_get_past tables i (omega (arith, all.0))))

    row_good : (i : ℕ) (outline : Table) (row : Row 0 i trees tables outline) → Good outlines trees outline row.tree.name i row.constraints
    row_good i outline row =
        let elements : list_all element_shaped row.tree.elements ≡ true = all_at (λ (t : CreateTable). list_all element_shaped t.elements) trees i row.tree shaped row.tree_is in
        rules_good outlines trees outline row.tree.name i no_constraints (rules_of row.tree.elements) row.constraints (rules_shaped row.tree.elements elements)
        (record { few_keys = omega arith; keys = refl; few_checks = omega arith; checks = refl; few_foreign = omega arith; foreign = refl })
        (ap (λ n. bind_rules outlines trees outline row.tree.name n no_constraints (rules_of row.tree.elements)) (sym (zero-add i)) ∙ row.bound)

    check_kept : (i : ℕ) (check : Cond) → check_fits outlines i check ≡ true → check_fits tables i check ≡ true
    check_kept i check fits =
        let both = and_parts (is_flat check && nat_le (count_conditions check) 65536) (cond_fits outlines ((i ∷ []) ∷ []) check) fits in
        let flat = (and_parts (is_flat check) (nat_le (count_conditions check) 65536) both.0).0 in
        and_from _ _ both.0 (sym (fits_alike outlines tables same_columns check flat ((i ∷ []) ∷ [])) ∙ both.1)

    -- a foreign key refers to a key that was bound
    target_kept : (outline table : Table) (name : NameTree) (f : ForeignKey) → outline.columns ≡ table.columns → (o : Option Table) → slice_get outlines f.target ≡ o →
        refers outlines trees outline name f.target f o ≡ true → refers_to table f (slice_get tables f.target) ≡ true
    target_kept outline table name f same None at refers_is = absurd (cc)
    target_kept outline table name f same (Some target) at refers_is =
        let row = all.1 f.target target at in
        let made : Table = with_constraints outlines trees target row.tree.name row.constraints in
        let well = and_parts (are_paired outline target f.columns f.target_columns) _ refers_is in
        let rules : rules_at outlines trees f.target ≡ rules_of row.tree.elements = ap (λ o. unwrap_or (option_map (λ (tree : CreateTable). rules_of tree.elements) o) []) row.tree_is in
        let keys : named_keys target.columns (key_rules (rules_of row.tree.elements)) ≡ map columns_of_key (keys_of row.constraints) =
        keys_named outlines trees target row.tree.name (0 + f.target) (rules_of row.tree.elements) row.constraints (row_good f.target target row).few_keys row.bound in
        let test = λ (ks : List (List ℕ)). list_any (λ key. are_columns_of f.target_columns (record { columns = key })) ks in
        let key : list_any (are_columns_of f.target_columns) made.keys ≡ true =
        sym (any_columns f.target_columns (keys_of row.constraints)) ∙ (ap test (sym keys) ∙ (ap (λ rs. test (named_keys target.columns (key_rules rs))) (sym rules) ∙ well.1)) in
        ap (refers_to table f) row.table_is
        ∙ and_from _ _ (sym (paired_alike outline target table made f.columns f.target_columns same refl) ∙ well.0) key

    table_good : (i : ℕ) (table : Table) → slice_get tables i ≡ Some table → is_table tables i table ≡ true
    table_good i table at =
        let within : i < length outlines = omega (arith, slice_get_within tables i table at, all.0) in
        let o = inside outlines i (lt-ltb i (length outlines) within) in
        let row = all.1 i o.0 o.1 in
        let made : Table = with_constraints outlines trees o.0 row.tree.name row.constraints in
        let g : Good outlines trees o.0 row.tree.name i row.constraints = row_good i o.0 row in
        let columns = and_parts (nat_le (length o.0.columns) 64) (list_all has_domain o.0.columns) (all_at good_columns outlines i o.0 good o.1) in
        let checks : list_all (check_fits tables i) row.constraints.checks ≡ true = all_weaker (check_fits outlines i) (check_fits tables i) (check_kept i) row.constraints.checks g.checks in
        let foreign : list_all (is_foreign_key tables made) row.constraints.foreign ≡ true =
        all_weaker (refers_well outlines trees o.0 row.tree.name i) (is_foreign_key tables made)
        (λ f h. target_kept o.0 made row.tree.name f refl (slice_get outlines f.target) refl h) row.constraints.foreign g.foreign in
        subst (λ t. is_table tables i t ≡ true) (same_Some made table (sym row.table_is ∙ at))
        (and_from _ _ (and_from _ _ (and_from _ _ (and_from _ _ columns.0 columns.1) (and_from _ _ (le-leb (length (keys_of row.constraints)) 1000 g.few_keys) g.keys))
        (and_from _ _ (le-leb (length row.constraints.checks) 1000 g.few_checks) checks)) (and_from _ _ (le-leb (length row.constraints.foreign) 1000 g.few_foreign) foreign))

pub schema_bound_is : (trees : List CreateTable) (tables : List Table) → schema_shaped trees ≡ true → bind_schema trees ≡ Ok tables → is_schema tables ≡ true
schema_bound_is trees tables shaped is =
    let outlines = and_then_ok (bind_outlines [] trees) (λ outlines. bind_tables outlines trees 0 outlines trees) tables is in
    let good : Outlines (0 + length trees) outlines.0 = outlines_good [] trees outlines.0 (omega arith) refl outlines.1 in
    let all = rows outlines.0 trees 0 outlines.0 trees tables (omega (arith, good.size)) outlines.2 in
    and_from (nat_le (length tables) 200) (are_tables tables 0 tables) (le-leb (length tables) 200 (omega (arith, all.0, good.few)))
    (each_table tables 0 tables (λ i t at. ap (λ n. is_table tables n t) (zero-add i) ∙ table_good outlines.0 trees tables shaped good.good all i t at))
