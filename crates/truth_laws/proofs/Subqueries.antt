-- EXISTS, IN and a scalar subquery: their formulas say their truths, where those of the block's condition do.
use Rattle.std.proofs.Common.{◌≡◌, ◌∙◌, ap, ap₂, subst, sym, refl, ℕ, suc, Bool, true, false, not, ◌&&◌, ◌||◌, List, [], ◌∷◌, ◌++◌, map, length}
use Rattle.std.proofs.lemmas.Bool.{or_left, or_right}
use Rattle.std.proofs.lemmas.List.{length-map}
use Rattle.std.proofs.lemmas.Option.{slice_get-map}
use Rattle.std.proofs.lemmas.Simd.{map-map}
use Rattle.std.specs.Prelude.{Ok, Err, Option, Some, None, slice_get, option_and_then, is_some, nat_le, nat_lt}
use Rattle.std.specs.Option.{option_map}
use Rattle.std.specs.List.{list_any, list_all}
use Rattle.lint_base.specs.declared.place.Span.{Span}
use Rattle.lint_tables.specs.declared.op.Op.{Op}
use Rattle.lint_tables.specs.declared.op.Op.TheVariants.{Eq}
use Rattle.lint_core.specs.declared.condition.Block.{Block}
use Rattle.lint_core.specs.declared.condition.Cond.{Cond}
use Rattle.lint_core.specs.declared.condition.Cond.TheVariants as c
use Rattle.lint_core.specs.declared.condition.Entry.{Entry}
use Rattle.lint_core.specs.declared.condition.Term.{Term}
use Rattle.lint_core.specs.declared.database.Database.{Database}
use Rattle.lint_core.specs.declared.database.Truth.{Truth}
use Rattle.lint_core.specs.declared.database.Value.{Value}
use Rattle.lint_core.specs.declared.schema.Table.{Table}
use Rattle.lint_core.specs.Comparison.{compare}
use Rattle.lint_core.specs.Condition.{Inner, BlockMeaning, truth, term_value, selected, exists_truth, in_truth, items_at, scalar_value}
use Rattle.lint_core.specs.Fits.{at_entry}
use Rattle.lint_core.specs.Database.{Place, row_lists}
use Rattle.lint_core.specs.Evaluation.{and_then, map_ok}
use Rattle.lint_core.specs.Fits.{cond_fits, tables_of, term_kind, is_plain}
use Rattle.lint_core.specs.Kind.{compares_both}
use Rattle.lint_core.specs.Meets.{is_of_domains}
use Rattle.lint_core.specs.Naming.{names, term_names}
use Rattle.lint_core.specs.Truth.{is_true, is_false, negated_if}
use Rattle.lint_core.proofs.Conditions.{block_truth_is, truth_exists, truth_in, truth_scalar}
use Rattle.sort_formula.specs.declared.formula.Formula.{Formula}
use Rattle.sort_formula.specs.declared.formula.Formula.TheVariants as f
use Rattle.sort_formula.specs.Holds.{holds}
use Rattle.sort_formula.specs.Negated.{negated}
use Rattle.sort_formula.specs.Rows.{tables_of_rows}
use Rattle.lint_core.specs.declared.scope.Scope.{Scope}
use Rattle.sort_formula.specs.Sides.{compare_formula, compare_false_formula}
use Rattle.sort_formula.specs.Standpoint.{IsRowOf, StandsFor}
use Rattle.sort_formula.specs.Translation.{inside, is_true_formula, exist_rows, for_all_rows, exists_both, in_both, scalar_both, swapped_if}
use Rattle.formula_laws.proofs.Complements.{complements}
use Rattle.sort_formula.proofs.Holding.{holds_and, holds_or}
use Rattle.lint_base.proofs.Lists.{both_left, both_right, every_then}
use Rattle.truth_laws.proofs.Inside.{term_stands, part_stands, inside_stands, same_entries, outer_value}
use Rattle.truth_laws.proofs.Fits.{first_there, compares_inside, cond_fits as condition_fits}
use Rattle.truth_laws.proofs.Layers.{block_fit, block_parts, translation_exists, translation_in, translation_scalar, fits_exists, fits_in, fits_scalar, names_exists, names_in, names_scalar}
use Rattle.truth_laws.proofs.Leaves.{compare_true, compare_false}
use Rattle.truth_laws.proofs.Parts.{made, swapped, by_layer}
use Rattle.truth_laws.proofs.Quantified.{holds_at, places_in, exist_is, for_all_is}
use Rattle.truth_laws.proofs.Spoken.{BothSay, Says}
use Rattle.truth_laws.proofs.Selecting.{passing, any_same, all_same, one_each, selected_passing, some_is_true, some_is_false, in_is_true, in_is_false, scalar_is}

-- ---- the tables of the rows

table_of_place : (levels table row : Option ℕ) (rows : List Place) → is_some row ≡ is_some table →
    option_and_then (slice_get rows) levels ≡ option_and_then (λ table. option_and_then (λ row. Some (record { table = table; row = row })) row) table →
    option_map (λ (place : Place). place.table) (option_and_then (slice_get rows) levels) ≡ table
table_of_place levels None row rows there at = ap (option_map (λ (place : Place). place.table)) at
table_of_place levels (Some table) None rows there at = cc
table_of_place levels (Some table) (Some row) rows there at = ap (option_map (λ (place : Place). place.table)) at

table_of_variable : (variable : Option ℕ) (rows : List Place) → option_and_then (slice_get (tables_of_rows rows)) variable ≡ option_map (λ (place : Place). place.table) (option_and_then (slice_get rows) variable)
table_of_variable None rows = refl
table_of_variable (Some variable) rows = slice_get-map (λ (place : Place). place.table) rows variable

entry_table : (db : Database) (scope : Scope) (binding : List (List ℕ)) (rows : List Place) → map length binding ≡ map length scope.tables → (level entry : ℕ) → IsRowOf db scope binding rows level entry →
    option_and_then (slice_get (tables_of_rows rows)) (at_entry scope.levels level entry) ≡ at_entry scope.tables level entry
entry_table db scope binding rows entries level entry at =
    table_of_variable (at_entry scope.levels level entry) rows
    ∙ table_of_place (at_entry scope.levels level entry) (at_entry scope.tables level entry) (at_entry binding level entry) rows (same_entries binding scope.tables entries level entry) at

-- ---- two parts

and_both : (a b : Bool) → (a && (b && true)) ≡ (a && b)
and_both true true = refl
and_both true false = refl
and_both false b = refl

or_both : (a b : Bool) → (a || (b || false)) ≡ (a || b)
or_both true b = refl
or_both false true = refl
or_both false false = refl

module _ (schema : List Table) (db : Database) (domains : is_of_domains schema db ≡ true) where
  -- the negation holds exactly where the condition's formula does not
  negation_says : (cond : Cond) (scope : Scope) → cond_fits schema scope.tables cond ≡ true → (binding : List (List ℕ)) (rows : List Place) → StandsFor db scope binding rows cond →
      holds db (negated (is_true_formula schema cond scope)) rows ≡ not (holds db (is_true_formula schema cond scope) rows)
  negation_says cond scope fits binding rows stands =
      complements schema db domains (is_true_formula schema cond scope) rows
      (condition_fits schema cond scope (tables_of_rows rows) fits (record {
        lengths = stands.variables;
        depth = length-map rows (λ (place : Place). place.table) ∙ stands.depth;
        main = λ entry named. entry_table db scope binding rows stands.entries 0 entry (stands.main entry named);
        inner = λ level entry. entry_table db scope binding rows stands.entries (suc level) entry (stands.inner level entry);
      })).0

  -- ---- at the inner bindings of a block

  module _ (block : Block) (says : Says schema db block.cond) (scope : Scope) (fits : (block_fit schema block).fits scope.tables ≡ true) (binding : List (List ℕ)) (rows : List Place) where
    abbrev own : List ℕ
    own = tables_of block.entries

    abbrev lists : List (List ℕ)
    lists = row_lists db own

    abbrev within : Scope
    within = inside scope own

    abbrev formula : Formula
    formula = is_true_formula schema block.cond within

    abbrev inner : List ℕ → Inner
    inner row_list = record {
      tables = scope.tables ++ own ∷ [];
      binding = binding ++ row_list ∷ [];
      truth = truth db block.cond (scope.tables ++ own ∷ []) (binding ++ row_list ∷ []);
    }

    -- the formula at an inner binding
    abbrev passes : List ℕ → Bool
    passes = holds_at db formula rows own

    cond_fits_there : cond_fits schema (scope.tables ++ own ∷ []) block.cond ≡ true
    cond_fits_there =
        both_right (nat_le (length block.entries) 16 && list_all (λ (e : Entry). nat_lt e.table (length schema)) block.entries)
        (cond_fits schema (scope.tables ++ own ∷ []) block.cond) fits

    module _ (stands : StandsFor db scope binding rows block.cond) where
      abbrev stands_there : (row_list : List ℕ) → length row_list ≡ length own → StandsFor db within (binding ++ row_list ∷ []) (rows ++ places_in own row_list) block.cond
      stands_there = inside_stands db scope binding rows block.cond stands own

      says_there : (row_list : List ℕ) → length row_list ≡ length own → (t : Truth) → (inner row_list).truth ≡ Ok t → passes row_list ≡ is_true t
      says_there row_list same t known = (says within cond_fits_there (binding ++ row_list ∷ []) (rows ++ places_in own row_list) (stands_there row_list same) t known).0

      not_there : (row_list : List ℕ) → length row_list ≡ length own → holds_at db (negated formula) rows own row_list ≡ not (passes row_list)
      not_there row_list same = negation_says block.cond within cond_fits_there (binding ++ row_list ∷ []) (rows ++ places_in own row_list) (stands_there row_list same)

      -- what is selected
      selects : (kept : List Inner) → selected (map inner lists) ≡ Ok kept → kept ≡ map inner (passing passes lists)
      selects kept known =
          selected_passing inner passes lists
          (every_then (λ (row_list : List ℕ). length row_list ≡ length own) (λ row_list. (t : Truth) → (inner row_list).truth ≡ Ok t → passes row_list ≡ is_true t) says_there lists (one_each db own))
          kept known

      -- ---- EXISTS

      exists_says : (t : Truth) → map_ok exists_truth (selected (map inner lists)) ≡ Ok t → BothSay schema db (exists_both schema (block_parts schema block) scope) rows t
      exists_says t known =
          let found = made exists_truth (selected (map inner lists)) t known in
          let is : exists_truth (map inner (passing passes lists)) ≡ t = ap exists_truth (sym (selects found.0 found.1)) ∙ found.2 in (
            exist_is db formula own rows ∙ (sym (some_is_true inner passes lists) ∙ ap is_true is),
            for_all_is db (negated formula) own rows
                ∙ (all_same (λ row_list. not (passes row_list)) (holds_at db (negated formula) rows own) lists
                (every_then (λ (row_list : List ℕ). length row_list ≡ length own) (λ row_list. holds_at db (negated formula) rows own row_list ≡ not (passes row_list)) not_there lists (one_each db own))
                ∙ (sym (some_is_false inner passes lists) ∙ ap is_false is)),
          )

    -- ---- a comparison with what is selected

    module _ (cond : Cond) (stands : StandsFor db scope binding rows cond) (part_named : (entry : ℕ) → names entry block.cond ≡ true → names entry cond ≡ true)
        (op : Op) (left item : Term) (left_named : (entry : ℕ) → term_names entry left ≡ true → names entry cond ≡ true) (item_named : (entry : ℕ) → term_names entry item ≡ true → names entry cond ≡ true)
        (kinds : compares_both op (term_kind schema scope.tables left) (term_kind schema (scope.tables ++ own ∷ []) item) ≡ true) where
      abbrev block_stands : StandsFor db scope binding rows block.cond
      block_stands = part_stands db scope binding rows cond block.cond part_named stands

      abbrev left_value : Value
      left_value = term_value db scope.tables binding left

      abbrev item_value : List ℕ → Value
      item_value row_list = term_value db (scope.tables ++ own ∷ []) (binding ++ row_list ∷ []) item

      abbrev true_there : Formula
      true_there = compare_formula schema within op left item

      abbrev false_there : Formula
      false_there = compare_false_formula schema within op left item

      left_kind : is_some (term_kind schema scope.tables left) ≡ true
      left_kind = first_there op (term_kind schema scope.tables left) (term_kind schema (scope.tables ++ own ∷ []) item) kinds

      kinds_there : compares_both op (term_kind schema (scope.tables ++ own ∷ []) left) (term_kind schema (scope.tables ++ own ∷ []) item) ≡ true
      kinds_there = compares_inside schema op left item scope.tables own kinds

      true_says : (row_list : List ℕ) → length row_list ≡ length own → holds_at db true_there rows own row_list ≡ is_true (compare op left_value (item_value row_list))
      true_says row_list same =
          let there = inside_stands db scope binding rows cond stands own row_list same in
          compare_true schema db domains within (binding ++ row_list ∷ []) (rows ++ places_in own row_list) op left item
          (term_stands schema db domains within (binding ++ row_list ∷ []) (rows ++ places_in own row_list) cond there left left_named)
          (term_stands schema db domains within (binding ++ row_list ∷ []) (rows ++ places_in own row_list) cond there item item_named)
          there.variables kinds_there
          ∙ ap (λ v. is_true (compare op v (item_value row_list))) (outer_value schema db scope.tables binding own row_list stands.entries left left_kind)

      false_says : (row_list : List ℕ) → length row_list ≡ length own → holds_at db false_there rows own row_list ≡ is_false (compare op left_value (item_value row_list))
      false_says row_list same =
          let there = inside_stands db scope binding rows cond stands own row_list same in
          compare_false schema db domains within (binding ++ row_list ∷ []) (rows ++ places_in own row_list) op left item
          (term_stands schema db domains within (binding ++ row_list ∷ []) (rows ++ places_in own row_list) cond there left left_named)
          (term_stands schema db domains within (binding ++ row_list ∷ []) (rows ++ places_in own row_list) cond there item item_named)
          there.variables kinds_there
          ∙ ap (λ v. is_false (compare op v (item_value row_list))) (outer_value schema db scope.tables binding own row_list stands.entries left left_kind)

      -- some row of the subquery's compares so
      some_says : (g : Formula) (test : Truth → Bool) → ((row_list : List ℕ) → length row_list ≡ length own → holds_at db g rows own row_list ≡ test (compare op left_value (item_value row_list))) →
          holds db (exist_rows own (f.And (formula ∷ g ∷ []))) rows ≡ list_any (λ row_list. passes row_list && test (compare op left_value (item_value row_list))) lists
      some_says g test says =
          exist_is db (f.And (formula ∷ g ∷ [])) own rows
          ∙ any_same (λ row_list. passes row_list && test (compare op left_value (item_value row_list))) (holds_at db (f.And (formula ∷ g ∷ [])) rows own) lists
          (every_then (λ (row_list : List ℕ). length row_list ≡ length own)
          (λ row_list. holds_at db (f.And (formula ∷ g ∷ [])) rows own row_list ≡ (passes row_list && test (compare op left_value (item_value row_list))))
          (λ row_list same.
          holds_and db (formula ∷ g ∷ []) (rows ++ places_in own row_list)
          ∙ (and_both (passes row_list) (holds_at db g rows own row_list) ∙ ap (λ b. passes row_list && b) (says row_list same)))
          lists (one_each db own))

      -- each row is none of the subquery's or differs
      none_says : holds db (for_all_rows own (f.Or (negated formula ∷ false_there ∷ []))) rows ≡ list_all (λ row_list. not (passes row_list) || is_false (compare op left_value (item_value row_list))) lists
      none_says =
          for_all_is db (f.Or (negated formula ∷ false_there ∷ [])) own rows
          ∙ all_same (λ row_list. not (passes row_list) || is_false (compare op left_value (item_value row_list))) (holds_at db (f.Or (negated formula ∷ false_there ∷ [])) rows own) lists
          (every_then (λ (row_list : List ℕ). length row_list ≡ length own)
          (λ row_list. holds_at db (f.Or (negated formula ∷ false_there ∷ [])) rows own row_list ≡ (not (passes row_list) || is_false (compare op left_value (item_value row_list))))
          (λ row_list same.
          holds_or db (negated formula ∷ false_there ∷ []) (rows ++ places_in own row_list)
          ∙ (or_both (holds_at db (negated formula) rows own row_list) (holds_at db false_there rows own row_list)
          ∙ ap₂ (λ a b. a || b) (not_there block_stands row_list same) (false_says row_list same)))
          lists (one_each db own))

      items_are : (kept : List Inner) → selected (map inner lists) ≡ Ok kept → items_at db item kept ≡ map item_value (passing passes lists)
      items_are kept known =
          ap (items_at db item) (selects block_stands kept known)
          ∙ map-map (λ (one : Inner). term_value db one.tables one.binding item) inner (passing passes lists)

      scalar_says : (place : Span) (t : Truth) → and_then (λ inners. map_ok (compare op left_value) (scalar_value place (items_at db item inners))) (selected (map inner lists)) ≡ Ok t →
          BothSay schema db (scalar_both schema op left (block_parts schema block) item scope) rows t
      scalar_says place t known =
          elim (selected (map inner lists)) as (λ s. selected (map inner lists) ≡ s → and_then (λ inners. map_ok (compare op left_value) (scalar_value place (items_at db item inners))) s ≡ Ok t →
          BothSay schema db (scalar_both schema op left (block_parts schema block) item scope) rows t) [
            | Err place ↦ λ is known. cc
            | Ok kept ↦ λ is known.
                let found = made (compare op left_value) (scalar_value place (items_at db item kept)) t known in
                let one = sym (ap (scalar_value place) (items_are kept is)) ∙ found.1 in (
                  some_says true_there is_true true_says
                      ∙ (sym (scalar_is item_value passes left_value op is_true refl place lists found.0 one) ∙ ap is_true found.2),
                  some_says false_there is_false false_says
                      ∙ (sym (scalar_is item_value passes left_value op is_false refl place lists found.0 one) ∙ ap is_false found.2),
                )
          ]
          refl known

    module _ (cond : Cond) (stands : StandsFor db scope binding rows cond) (part_named : (entry : ℕ) → names entry block.cond ≡ true → names entry cond ≡ true)
        (left item : Term) (left_named : (entry : ℕ) → term_names entry left ≡ true → names entry cond ≡ true) (item_named : (entry : ℕ) → term_names entry item ≡ true → names entry cond ≡ true)
        (kinds : compares_both Eq (term_kind schema scope.tables left) (term_kind schema (scope.tables ++ own ∷ []) item) ≡ true) where
      in_says : (negated : Bool) (t : Truth) →
          map_ok (λ inners. negated_if negated (in_truth (term_value db scope.tables binding left) (items_at db item inners))) (selected (map inner lists)) ≡ Ok t →
          BothSay schema db (swapped_if negated (in_both schema left (block_parts schema block) item scope)) rows t
      in_says negated t known =
          let value = term_value db scope.tables binding left in
          let items = item_value cond stands part_named Eq left item left_named item_named kinds in
          let found = made (λ inners. negated_if negated (in_truth value (items_at db item inners))) (selected (map inner lists)) t known in
          let truth_there = in_truth value (map items (passing passes lists)) in
          let is : negated_if negated truth_there ≡ t =
          ap (λ values. negated_if negated (in_truth value values)) (sym (items_are cond stands part_named Eq left item left_named item_named kinds found.0 found.1)) ∙ found.2 in
          subst (BothSay schema db (swapped_if negated (in_both schema left (block_parts schema block) item scope)) rows) is
          (swapped schema db negated (in_both schema left (block_parts schema block) item scope) rows truth_there (
            some_says cond stands part_named Eq left item left_named item_named kinds _ is_true (true_says cond stands part_named Eq left item left_named item_named kinds)
                ∙ sym (in_is_true items passes value lists),
            none_says cond stands part_named Eq left item left_named item_named kinds ∙ sym (in_is_false items passes value lists),
          ))

  -- ---- conditions

  pub of_exists : (block : Block) (span : Span) → Says schema db block.cond → Says schema db (c.Exists block span)
  of_exists block span says scope fits binding rows stands t known =
      let whole = c.Exists block span in
      let is =
      ap (λ (m : BlockMeaning). map_ok exists_truth (selected (m.bindings scope.tables binding))) (sym (block_truth_is db block))
      ∙ (sym (truth_exists db block span scope.tables binding) ∙ known) in
      by_layer schema db whole scope rows t _ (translation_exists schema scope block span)
      (exists_says block says scope (sym (fits_exists schema scope.tables block span) ∙ fits) binding rows
      (part_stands db scope binding rows whole block.cond (λ entry named. names_exists entry block span ∙ named) stands) t is)

  pub of_in : (left : Term) (block : Block) (item : Term) (negated : Bool) (span : Span) → Says schema db block.cond → Says schema db (c.In left block item negated span)
  of_in left block item negated span says scope fits binding rows stands t known =
      let whole = c.In left block item negated span in
      let is =
      ap (λ (m : BlockMeaning). map_ok (λ inners. negated_if negated (in_truth (term_value db scope.tables binding left) (items_at db item inners))) (selected (m.bindings scope.tables binding))) (sym (block_truth_is db block))
      ∙ (sym (truth_in db left block item negated span scope.tables binding) ∙ known) in
      let all = sym (fits_in schema scope.tables left block item negated span) ∙ fits in
      let kinds = compares_both Eq (term_kind schema scope.tables left) (term_kind schema (scope.tables ++ tables_of block.entries ∷ []) item) in
      let here = (block_fit schema block).fits scope.tables in
      let terms : (entry : ℕ) → (term_names entry left || term_names entry item) ≡ true → names entry whole ≡ true =
      λ entry named. names_in entry left block item negated span ∙ or_left (term_names entry left || term_names entry item) (names entry block.cond) named in
      by_layer schema db whole scope rows t _ (translation_in schema scope left block item negated span)
      (in_says block says scope (both_left here (is_plain item) (both_left (here && is_plain item) kinds all)) binding rows whole stands
      (λ entry named. names_in entry left block item negated span ∙ or_right (term_names entry left || term_names entry item) (names entry block.cond) named)
      left item
      (λ entry named. terms entry (or_left (term_names entry left) (term_names entry item) named))
      (λ entry named. terms entry (or_right (term_names entry left) (term_names entry item) named))
      (both_right (here && is_plain item) kinds all) negated t is)

  pub of_scalar : (op : Op) (left : Term) (block : Block) (item : Term) (span : Span) → Says schema db block.cond → Says schema db (c.Scalar op left block item span)
  of_scalar op left block item span says scope fits binding rows stands t known =
      let whole = c.Scalar op left block item span in
      let is =
      ap (λ (m : BlockMeaning). and_then (λ inners. map_ok (compare op (term_value db scope.tables binding left)) (scalar_value m.place (items_at db item inners))) (selected (m.bindings scope.tables binding))) (sym (block_truth_is db block))
      ∙ (sym (truth_scalar db op left block item span scope.tables binding) ∙ known) in
      let all = sym (fits_scalar schema scope.tables op left block item span) ∙ fits in
      let kinds = compares_both op (term_kind schema scope.tables left) (term_kind schema (scope.tables ++ tables_of block.entries ∷ []) item) in
      let here = (block_fit schema block).fits scope.tables in
      let terms : (entry : ℕ) → (term_names entry left || term_names entry item) ≡ true → names entry whole ≡ true =
      λ entry named. names_scalar entry op left block item span ∙ or_left (term_names entry left || term_names entry item) (names entry block.cond) named in
      by_layer schema db whole scope rows t _ (translation_scalar schema scope op left block item span)
      (scalar_says block says scope (both_left here (is_plain item) (both_left (here && is_plain item) kinds all)) binding rows whole stands
      (λ entry named. names_scalar entry op left block item span ∙ or_right (term_names entry left || term_names entry item) (names entry block.cond) named)
      op left item
      (λ entry named. terms entry (or_left (term_names entry left) (term_names entry item) named))
      (λ entry named. terms entry (or_right (term_names entry left) (term_names entry item) named))
      (both_right (here && is_plain item) kinds all) block.span t is)
