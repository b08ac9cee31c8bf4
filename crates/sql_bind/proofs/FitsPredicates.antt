-- Predicates that were made from tested terms fit, and so do rows of conditions that fit.
use Rattle.std.proofs.Common.{ℕ, ◌≡◌, refl, sym, ap, ◌∙◌, subst, Bool, true, false, ◌&&◌, List, [], ◌∷◌, ◌++◌, map, Ok}
use Rattle.std.proofs.lemmas.Bool.{and_parts, and_from}
use Rattle.std.proofs.lemmas.List.Folds.{list_all-map}
use Rattle.std.specs.List.{list_all}
use Rattle.lint_base.specs.declared.place.Span.{Span}
use Rattle.lint_base.specs.declared.place.Fault.TheVariants.{TypeMismatch}
use Rattle.lint_tables.specs.declared.op.Op.{Op}
use Rattle.lint_tables.specs.declared.op.Op.TheVariants.{Eq, Ne, Lt, Le, Gt, Ge}
use Rattle.lint_core.specs.declared.condition.Term.{Term}
use Rattle.lint_core.specs.declared.condition.Cond.{Cond}
use Rattle.lint_core.specs.declared.condition.Cond.TheVariants.{And, Or, Compare}
use Rattle.lint_core.specs.declared.condition.Block.{out-Block}
use Rattle.lint_core.specs.declared.schema.Table.{Table}
use Rattle.lint_core.specs.Fits.{cond_fits, block_fits, block_meaning, term_kind, term_fits, is_plain, tables_of}
use Rattle.lint_core.specs.Fits as fits
use Rattle.lint_core.specs.Kind.{compares_both}
use Rattle.sql_bind.specs.Bound.{Bound}
use Rattle.sql_bind.specs.Names.{Level, level_tables, whole_level}
use Rattle.sql_bind.specs.Terms.{compares}
use Rattle.sql_bind.specs.Conditions.{BoundSelect, Selected, Value, matching, between, in_list, joined, one_column, only_one, compares_selected}
use Rattle.sql_bind.specs.Selects.{conjunction}
use Rattle.sql_bind.proofs.FitsBound.{same_ok, if_ok}
use Rattle.sql_bind.proofs.FitsForms.{fits_true, fits_and, fits_or, fits_compare, own_is, inner_level}
use Rattle.sql_bind.proofs.FitsItems.{Part, selected_fits}
use Rattle.sql_bind.proofs.FitsLists.{all_weaker}
use Rattle.sql_bind.proofs.FitsTerms.{lt_is_ge, gt_is_le, ne_is_eq}

module _ (schema : List Table) where
  abbrev pub FitsAt : List Level → Cond → Type 0
  FitsAt levels cond = cond_fits schema (level_tables levels) cond ≡ true

  -- a SELECT that fits: its block, and its items, of which there are at most 256
  pub record Fitting (outer : List Level) (select : BoundSelect) : Type 0 where
    pub fits : block_fits schema (level_tables outer) select.block ≡ true
    pub items : Part schema (out-Block select.block).entries outer 0 select.selected

  pub fits_same : (levels : List Level) (a b : Cond) → ◌≡◌ {A = Bound Cond} (Ok a) (Ok b) → FitsAt levels a → FitsAt levels b
  fits_same levels a b e = subst (FitsAt levels) (same_ok a b e)

  -- a predicate, whose test passed
  pub matched : (levels : List Level) (goes : Bool) (at : Span) (pred cond : Cond) → matching goes at pred ≡ Ok cond → (goes ≡ true → FitsAt levels pred) → FitsAt levels cond
  matched levels goes at pred cond is fits =
      let passed = if_ok goes (Ok pred) TypeMismatch at cond is in
      fits_same levels pred cond passed.1 (fits passed.0)

  module _ (levels : List Level) where
    abbrev tables : List (List ℕ)
    tables = level_tables levels

    pub between_fits : (negated : Bool) (a low high : Term) (first second : Span) → (compares schema levels Ge a low && compares schema levels Le a high) ≡ true → FitsAt levels (between negated a low high first second)
    between_fits false a low high first second goes =
        let both = and_parts (compares schema levels Ge a low) (compares schema levels Le a high) goes in
        fits_and schema tables (Compare Ge a low first ∷ Compare Le a high second ∷ [])
        ∙ and_from _ _ (fits_compare schema tables Ge a low first ∙ both.0) (and_from _ _ (fits_compare schema tables Le a high second ∙ both.1) refl)
    between_fits true a low high first second goes =
        let both = and_parts (compares schema levels Ge a low) (compares schema levels Le a high) goes in
        fits_or schema tables (Compare Lt a low first ∷ Compare Gt a high second ∷ [])
        ∙ and_from _ _ (fits_compare schema tables Lt a low first ∙ (lt_is_ge (term_kind schema tables a) (term_kind schema tables low) ∙ both.0))
        (and_from _ _ (fits_compare schema tables Gt a high second ∙ (gt_is_le (term_kind schema tables a) (term_kind schema tables high) ∙ both.1)) refl)

    joined_fits : (join : List Cond → Cond) → ((conds : List Cond) → cond_fits schema tables (join conds) ≡ list_all (cond_fits schema tables) conds) → (conds : List Cond) →
        list_all (cond_fits schema tables) conds ≡ true → FitsAt levels (joined join conds)
    joined_fits join each [] all = each [] ∙ all
    joined_fits join each (c ∷ []) all = (and_parts (cond_fits schema tables c) true all).0
    joined_fits join each (c ∷ next ∷ conds) all = each (c ∷ next ∷ conds) ∙ all

    pub conjunction_fits : (conds : List Cond) → list_all (cond_fits schema tables) conds ≡ true → FitsAt levels (conjunction conds)
    conjunction_fits [] all = fits_true schema tables
    conjunction_fits (c ∷ []) all = (and_parts (cond_fits schema tables c) true all).0
    conjunction_fits (c ∷ next ∷ conds) all = fits_and schema tables (c ∷ next ∷ conds) ∙ all

    -- one comparison for each value
    comparisons_fit : (op : Op) (a : Term) (values : List Value) → ((v : Value) → compares schema levels Eq a v.term ≡ true → compares schema levels op a v.term ≡ true) →
        list_all (λ (v : Value). compares schema levels Eq a v.term) values ≡ true → list_all (cond_fits schema tables) (map (λ (v : Value). Compare op a v.term v.span) values) ≡ true
    comparisons_fit op a values as_well all =
        list_all-map (cond_fits schema tables) (λ (v : Value). Compare op a v.term v.span) values
        ∙ all_weaker (λ (v : Value). compares schema levels Eq a v.term) (λ (v : Value). cond_fits schema tables (Compare op a v.term v.span))
        (λ v h. fits_compare schema tables op a v.term v.span ∙ as_well v h) values all

    pub in_list_fits : (negated : Bool) (a : Term) (values : List Value) → list_all (λ (v : Value). compares schema levels Eq a v.term) values ≡ true → FitsAt levels (in_list negated a values)
    in_list_fits false a values all = joined_fits Or (fits_or schema tables) (map (λ (v : Value). Compare Eq a v.term v.span) values) (comparisons_fit Eq a values (λ v h. h) all)
    in_list_fits true a values all =
        joined_fits And (fits_and schema tables) (map (λ (v : Value). Compare Ne a v.term v.span) values)
        (comparisons_fit Ne a values (λ v h. ne_is_eq (term_kind schema tables a) (term_kind schema tables v.term) ∙ h) all)

    -- the one column of a subquery is plain
    only_plain : (entries : _) (at : Span) (selected : List Selected) (item : Term) → list_all (selected_fits schema entries levels) selected ≡ true → only_one at selected ≡ Ok item → is_plain item ≡ true
    only_plain entries at [] item all is = absurd (cc)
    only_plain entries at (s ∷ []) item all is =
        ap is_plain (sym (same_ok s.item.term item is)) ∙ (and_parts _ (is_plain s.item.term) (and_parts (selected_fits schema entries levels s) true all).0).1
    only_plain entries at (s ∷ next ∷ more) item all is = absurd (cc)

    -- a term beside a subquery
    pub subquery_fits : (op : Op) (left : Term) (select : BoundSelect) (item : Term) → Fitting levels select → one_column select ≡ Ok item → compares_selected schema levels op left select item ≡ true →
        fits.selected_fits schema tables op left (block_meaning schema select.block) item ≡ true
    subquery_fits op left select item fitting is goes =
        let entries = (out-Block select.block).entries in
        let inner : fits.inner_tables tables (block_meaning schema select.block) ≡ level_tables (whole_level entries ∷ levels) =
        ap (λ own. tables ++ own ∷ []) (own_is schema select.block) ∙ sym (inner_level (whole_level entries) levels) in
        and_from _ _ (and_from _ _ fitting.fits (only_plain entries (out-Block select.block).span select.selected item fitting.items.fit is))
        (ap (λ all. compares_both op (term_kind schema tables left) (term_kind schema all item)) inner ∙ goes)
