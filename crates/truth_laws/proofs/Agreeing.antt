-- In databases of the domains the loose interpretation agrees with the truths at the conditions and the bindings that the
-- clause of an asked question names; so it decides the clause alike.
use Rattle.std.proofs.Common.{◌≡◌, ap, refl, sym, subst, ℕ, Bool, true, false, ◌&&◌, not, ◌<◌, List, [], ◌∷◌, length, map, nat_lt}
use Rattle.std.proofs.lemmas.Bool.{ltb-true}
use Rattle.std.proofs.lemmas.List.{length-map}
use Rattle.std.specs.List.{list_all, list_any}
use Rattle.std.specs.Option.{option_map_or}
use Rattle.std.specs.Prelude.{Ok, Option, Some, None, slice_get, remove}
use Rattle.lint_core.specs.declared.condition.Cond.{Cond}
use Rattle.lint_core.specs.declared.condition.Cond.TheVariants as c
use Rattle.lint_core.specs.declared.condition.Entry.{Entry}
use Rattle.lint_core.specs.declared.database.Binding.{Binding}
use Rattle.lint_core.specs.declared.database.Database.{Database}
use Rattle.lint_core.specs.declared.database.Points.{Points}
use Rattle.lint_core.specs.declared.database.Points.TheVariants.{One, Two, Without}
use Rattle.lint_core.specs.declared.database.Truth.{Truth}
use Rattle.lint_core.specs.declared.database.Truth.TheVariants.{False}
use Rattle.lint_core.specs.declared.database.Value.{Value}
use Rattle.lint_core.specs.declared.query.Query.{Query}
use Rattle.lint_core.specs.declared.query.Question.{Question}
use Rattle.lint_core.specs.declared.query.Question.TheVariants.{OneRow, Empty, NeedlessDistinct, Constant, Duplicate, NeedlessJoin, Implied, Impossible, SameRow, NullInNotIn}
use Rattle.lint_core.specs.declared.schema.Table.{Table}
use Rattle.lint_core.specs.Asked.{main_condition, main_entries, scalars_of, not_ins_of, conjuncts_with, conjuncts_without, is_asked, is_selected}
use Rattle.lint_core.specs.Comparison.{is_null, are_not_distinct}
use Rattle.lint_core.specs.Condition.{truth}
use Rattle.lint_core.specs.Conjuncts.{conjuncts}
use Rattle.lint_core.specs.Database.{rows_of, below}
use Rattle.lint_core.specs.Evaluation.{Evaluated, map_ok, all_ok}
use Rattle.lint_core.specs.Fits.{cond_fits, query_fits, main_tables, tables_of}
use Rattle.lint_core.specs.Meets.{is_of_domains}
use Rattle.lint_core.specs.Naming.{names, has_scalar}
use Rattle.lint_core.specs.Points.{with_row, is_same_binding, differ_in_last_level, differ_in_entry, is_same_row}
use Rattle.lint_core.specs.Forms.{is_main_binding, is_inner_binding, is_binding_without, have_form}
use Rattle.lint_core.specs.Question.{all_true, one_is_true, Interpretation, are_same_items, value_of_item, table_of, inner_value}
use Rattle.lint_core.specs.Question.{where_by, are_true_by, no_row_by, replaced_by, inner_by, clause_by, outcome, outcome_by}
use Rattle.lint_core.specs.Subqueries.{Subquery}
use Rattle.lint_core.specs.Truth.{truth_of}
use Rattle.sort_formula.specs.Loose.{by_formula, rows_at}
use Rattle.sort_formula.specs.Sides.{scope_of}
use Rattle.lint_base.proofs.Lists.{both_left, both_right}
use Rattle.truth_laws.proofs.Alike.{Leads, Agree, map_leads, all_lead, facts_lead, one_true_leads, two_true_lead, one_leads, each_leads, all_true_lead, in_form}
use Rattle.truth_laws.proofs.FittingParts.{conjuncts_fit, replaced_fits}
use Rattle.truth_laws.proofs.FittingSubqueries.{is_fit, scalars_fit, not_ins_fit}
use Rattle.truth_laws.proofs.Layers.{fits_true, fits_false}
use Rattle.truth_laws.proofs.Numbered.{numbered_stands}
use Rattle.truth_laws.proofs.Shapes.{filter_keeps, at_place, found_too, binding_shape, with_row_shape, main_fits}
use Rattle.truth_laws.proofs.Truthful.{says}

each_is : {A : Type 0} (xs : List A) → list_all (λ x. true) xs ≡ true
each_is [] = refl
each_is (x ∷ xs) = each_is xs

module _ (schema : List Table) (db : Database) (domains : is_of_domains schema db ≡ true) where
  -- a condition that fits, at a binding of its tables
  agree : (cond : Cond) (tables binding : List (List ℕ)) → cond_fits schema tables cond ≡ true → map length binding ≡ map length tables →
      Agree (truth db cond tables binding) (by_formula schema db cond tables binding)
  agree cond tables binding fit same t known =
      ap (λ b. Ok (truth_of b)) (says schema db domains cond (scope_of tables) fit binding (rows_at tables binding) (numbered_stands db tables binding same cond) t known).0

  abbrev loose : Interpretation
  loose = by_formula schema db

  module _ (query : Query) (fits : query_fits schema query ≡ true) where
    main_fit : cond_fits schema (main_tables query) (main_condition query) ≡ true
    main_fit = main_fits schema query fits

    main_agree : (one : Binding) → is_main_binding db query one ≡ true → Agree (where_by db query (truth db) one) (where_by db query loose one)
    main_agree one is = agree (main_condition query) (main_tables query) one.levels main_fit (binding_shape db (main_tables query) one.levels is)

    replaced_agree : (by : Cond) → ((tables : List (List ℕ)) → cond_fits schema tables by ≡ true) → (predicate : ℕ) (one : Binding) → is_main_binding db query one ≡ true →
        Agree (replaced_by db query (truth db) by predicate one) (replaced_by db query loose by predicate one)
    replaced_agree by by_fits predicate one is =
        agree _ (main_tables query) one.levels (replaced_fits schema by by_fits (main_condition query) predicate (main_tables query) main_fit)
        (binding_shape db (main_tables query) one.levels is)

    abbrev interpreted_at : Interpretation → Binding → Option Subquery → Evaluated Truth
    interpreted_at interpret one found = option_map_or (λ (s : Subquery). interpret s.cond s.tables one.levels) found (Ok False)

    found_agree : (one : Binding) (found : Option Subquery) → option_map_or (is_fit schema) found true ≡ true → option_map_or (is_inner_binding db query one) found false ≡ true →
        Agree (interpreted_at (truth db) one found) (interpreted_at loose one found)
    found_agree one None fit is = cc
    found_agree one (Some s) fit is = agree s.cond s.tables one.levels fit (binding_shape db s.tables one.levels is)

    inner_agree : (subs : List Subquery) → list_all (is_fit schema) subs ≡ true → (sub : ℕ) (one : Binding) → option_map_or (is_inner_binding db query one) (slice_get subs sub) false ≡ true →
        Agree (inner_by db query (truth db) subs sub one) (inner_by db query loose subs sub one)
    inner_agree subs fit sub one is = found_agree one (slice_get subs sub) (at_place (is_fit schema) subs sub fit) is

    scalars_are_fit : list_all (is_fit schema) (scalars_of query) ≡ true
    scalars_are_fit = scalars_fit schema (main_condition query) (main_tables query) main_fit

    not_ins_are_fit : list_all (is_fit schema) (not_ins_of query) ≡ true
    not_ins_are_fit = not_ins_fit schema (main_condition query) (main_tables query) main_fit

    -- ---- the rows of all entries but one

    abbrev fit_here : Cond → Bool
    fit_here = cond_fits schema (main_tables query)

    conjuncts_are_fit : list_all fit_here (conjuncts (main_condition query)) ≡ true
    conjuncts_are_fit = conjuncts_fit schema (main_condition query) (main_tables query) main_fit

    module _ (entry : ℕ) (others : Binding) (low : entry < length (tables_of (main_entries query))) (form : is_binding_without db query entry others ≡ true) where
      abbrev at_row : Interpretation → ℕ → Cond → Evaluated Truth
      at_row interpret row cond = interpret cond (main_tables query) (with_row entry row others.levels)

      true_with_lead : (row : ℕ) (conds : List Cond) → list_all fit_here conds ≡ true →
          Leads (are_true_by db query (truth db) entry others row conds) (are_true_by db query loose entry others row conds)
      true_with_lead row conds fit =
          all_true_lead (at_row (truth db) row) (at_row loose row) fit_here
          (λ cond here.
          agree cond (main_tables query) (with_row entry row others.levels) here
          (with_row_shape (tables_of (main_entries query)) entry row others.levels low (binding_shape db (remove (tables_of (main_entries query)) entry ∷ []) others.levels form)))
          conds fit

      abbrev rows : List ℕ
      rows = below (length (rows_of db (table_of db query entry)))

      abbrev fit_at : Interpretation → ℕ → Evaluated Bool
      fit_at interpret row = are_true_by db query interpret entry others row (conjuncts_with entry query)

      rows_lead : Leads (all_ok (map (fit_at (truth db)) rows)) (all_ok (map (fit_at loose) rows))
      rows_lead =
          all_lead (map (fit_at (truth db)) rows) (map (fit_at loose) rows)
          (each_leads (fit_at (truth db)) (fit_at loose) (λ row. true)
          (λ row is. true_with_lead row (conjuncts_with entry query) (filter_keeps fit_here (names entry) (conjuncts (main_condition query)) conjuncts_are_fit))
          rows (each_is rows))

      no_row_leads : Leads (no_row_by db query (truth db) entry others) (no_row_by db query loose entry others)
      no_row_leads = map_leads (λ fit. not (list_any (λ fits. fits) fit)) (all_ok (map (fit_at (truth db)) rows)) (all_ok (map (fit_at loose) rows)) rows_lead

      abbrev both_by : Interpretation → List (Evaluated Bool)
      both_by interpret = are_true_by db query interpret entry others 0 (conjuncts_without entry query) ∷ no_row_by db query interpret entry others ∷ []

      without_leads : (given : Value) → Leads (clause_by db query (truth db) (NeedlessJoin entry) given (Without others)) (clause_by db query loose (NeedlessJoin entry) given (Without others))
      without_leads given =
          facts_lead (both_by (truth db)) (both_by loose)
          (true_with_lead 0 (conjuncts_without entry query) (filter_keeps fit_here (λ cond. not (names entry cond)) (conjuncts (main_condition query)) conjuncts_are_fit), (no_row_leads, tt))

    -- ---- the questions

    abbrev where_at : Interpretation → Binding → Evaluated Truth
    where_at = where_by db query

    main_leads : (one : Binding) → is_main_binding db query one ≡ true → Leads (all_true (where_at (truth db) one ∷ [])) (all_true (where_at loose one ∷ []))
    main_leads one is = one_true_leads (where_at (truth db) one) (where_at loose one) (main_agree one is)

    main_with : (one : Binding) (f : Bool → Bool) → is_main_binding db query one ≡ true →
        Leads (map_ok f (all_true (where_at (truth db) one ∷ []))) (map_ok f (all_true (where_at loose one ∷ [])))
    main_with one f is = map_leads f (all_true (where_at (truth db) one ∷ [])) (all_true (where_at loose one ∷ [])) (main_leads one is)

    mains_lead : (one two : Binding) → is_main_binding db query one ≡ true → is_main_binding db query two ≡ true →
        Leads (all_true (where_at (truth db) one ∷ where_at (truth db) two ∷ [])) (all_true (where_at loose one ∷ where_at loose two ∷ []))
    mains_lead one two first second = two_true_lead (where_at (truth db) one) (where_at loose one) (where_at (truth db) two) (where_at loose two) (main_agree one first) (main_agree two second)

    replaced_leads : (by : Cond) → ((tables : List (List ℕ)) → cond_fits schema tables by ≡ true) → (predicate : ℕ) (one : Binding) → is_main_binding db query one ≡ true →
        Leads (one_is_true (where_at (truth db) one) (replaced_by db query (truth db) by predicate one)) (one_is_true (where_at loose one) (replaced_by db query loose by predicate one))
    replaced_leads by by_fits predicate one is =
        one_leads (where_at (truth db) one) (where_at loose one) (replaced_by db query (truth db) by predicate one) (replaced_by db query loose by predicate one)
        (main_agree one is) (replaced_agree by by_fits predicate one is)

    scalars_lead : (sub : ℕ) (one two : Binding) → option_map_or (is_inner_binding db query one) (slice_get (scalars_of query) sub) false ≡ true →
        option_map_or (is_inner_binding db query two) (slice_get (scalars_of query) sub) false ≡ true →
        Leads (all_true (inner_by db query (truth db) (scalars_of query) sub one ∷ inner_by db query (truth db) (scalars_of query) sub two ∷ []))
        (all_true (inner_by db query loose (scalars_of query) sub one ∷ inner_by db query loose (scalars_of query) sub two ∷ []))
    scalars_lead sub one two first second =
        let at = λ (interpret : Interpretation) (binding : Binding). inner_by db query interpret (scalars_of query) sub binding in
        two_true_lead (at (truth db) one) (at loose one) (at (truth db) two) (at loose two)
        (inner_agree (scalars_of query) scalars_are_fit sub one first) (inner_agree (scalars_of query) scalars_are_fit sub two second)

    not_ins_lead : (sub : ℕ) (one : Binding) (f : Bool → Bool) → option_map_or (is_inner_binding db query one) (slice_get (not_ins_of query) sub) false ≡ true →
        Leads (map_ok f (all_true (inner_by db query (truth db) (not_ins_of query) sub one ∷ []))) (map_ok f (all_true (inner_by db query loose (not_ins_of query) sub one ∷ [])))
    not_ins_lead sub one f is =
        let at = λ (interpret : Interpretation). inner_by db query interpret (not_ins_of query) sub one in
        map_leads f (all_true (at (truth db) ∷ [])) (all_true (at loose ∷ [])) (one_true_leads (at (truth db)) (at loose) (inner_agree (not_ins_of query) not_ins_are_fit sub one is))

    entry_low : (entry : ℕ) → is_asked schema query (NeedlessJoin entry) ≡ true → entry < length (tables_of (main_entries query))
    entry_low entry asked =
        let many = nat_lt 1 (length (main_entries query)) in
        let there = nat_lt entry (length (main_entries query)) in
        let unselected = not (is_selected query entry) in
        let plain = not (list_any has_scalar (conjuncts_without entry query)) in
        let low : entry < length (main_entries query) = ltb-true entry (length (main_entries query)) (both_right many there (both_left (many && there) unselected (both_left (many && there && unselected) plain asked))) in
        subst (λ n. entry < n) (sym (length-map (main_entries query) (λ (e : Entry). e.table))) low

    -- the forms of two main bindings, and of two bindings of a subquery
    abbrev TwoMains : Binding → Binding → Type 0
    TwoMains one two = (is_main_binding db query one ≡ true) × (is_main_binding db query two ≡ true)

    two_mains : (one two : Binding) (more : Bool) → (is_main_binding db query one && is_main_binding db query two && more) ≡ true → TwoMains one two
    two_mains one two more form =
        let first = is_main_binding db query one in
        let second = is_main_binding db query two in
        let both = both_left (first && second) more form in
        (both_left first second both, both_right first second both)

    abbrev pair_form : Binding → Binding → Subquery → Bool
    pair_form one two s = is_inner_binding db query one s && is_inner_binding db query two s && differ_in_last_level one.levels two.levels

    first_inner : (one two : Binding) (found : Option Subquery) → option_map_or (pair_form one two) found false ≡ true → option_map_or (is_inner_binding db query one) found false ≡ true
    first_inner one two found form =
        found_too (pair_form one two) (is_inner_binding db query one)
        (λ s both.
        both_left (is_inner_binding db query one s) (is_inner_binding db query two s)
        (both_left (is_inner_binding db query one s && is_inner_binding db query two s) (differ_in_last_level one.levels two.levels) both))
        found form

    second_inner : (one two : Binding) (found : Option Subquery) → option_map_or (pair_form one two) found false ≡ true → option_map_or (is_inner_binding db query two) found false ≡ true
    second_inner one two found form =
        found_too (pair_form one two) (is_inner_binding db query two)
        (λ s both.
        both_right (is_inner_binding db query one s) (is_inner_binding db query two s)
        (both_left (is_inner_binding db query one s && is_inner_binding db query two s) (differ_in_last_level one.levels two.levels) both))
        found form

    abbrev exact_clause : Question → Value → Points → Evaluated Bool
    exact_clause = clause_by db query (truth db)

    abbrev loose_clause : Question → Value → Points → Evaluated Bool
    loose_clause = clause_by db query loose

    clause_leads : (question : Question) → is_asked schema query question ≡ true → (given : Value) (points : Points) → have_form db query question points ≡ true →
        Leads (exact_clause question given points) (loose_clause question given points)
    clause_leads (OneRow sub) asked given (Two one two) form =
        scalars_lead sub one two (first_inner one two (slice_get (scalars_of query) sub) form) (second_inner one two (slice_get (scalars_of query) sub) form)
    clause_leads Empty asked given (One one) form = main_leads one form
    clause_leads NeedlessDistinct asked given (Two one two) form =
        let mains = two_mains one two (not (is_same_binding one.levels two.levels)) form in
        map_leads (λ both. both && are_same_items db query one two) (all_true (where_at (truth db) one ∷ where_at (truth db) two ∷ [])) (all_true (where_at loose one ∷ where_at loose two ∷ []))
        (mains_lead one two mains.0 mains.1)
    clause_leads (Constant item) asked given (One one) form = main_with one (λ here. here && not (are_not_distinct (value_of_item db query one item) given)) form
    clause_leads (Duplicate item other) asked given (One one) form =
        main_with one (λ here. here && not (are_not_distinct (value_of_item db query one item) (value_of_item db query one other))) form
    clause_leads (NeedlessJoin entry) asked given (Without others) form = without_leads entry others (entry_low entry asked) form given
    clause_leads (NeedlessJoin entry) asked given (Two one two) form =
        let mains = two_mains one two (differ_in_entry entry one.levels two.levels) form in
        mains_lead one two mains.0 mains.1
    clause_leads (Implied predicate) asked given (One one) form = replaced_leads c.True (fits_true schema) predicate one form
    clause_leads (Impossible predicate) asked given (One one) form = replaced_leads c.False (fits_false schema) predicate one form
    clause_leads (SameRow entry other) asked given (One one) form = main_with one (λ here. here && not (is_same_row one.levels entry other)) form
    clause_leads (NullInNotIn sub) asked given (One one) form = not_ins_lead sub one (λ here. here && is_null (inner_value db query (not_ins_of query) sub one)) form
    clause_leads question asked given points form = cc

    -- what the truths decide, the loose interpretation decides alike
    pub outcome_leads : (question : Question) → is_asked schema query question ≡ true → (given : Value) (points : Points) →
        Leads (outcome db query question given points) (outcome_by db query loose question given points)
    outcome_leads question asked given points =
        in_form (have_form db query question points) (exact_clause question given points) (loose_clause question given points) (clause_leads question asked given points)
