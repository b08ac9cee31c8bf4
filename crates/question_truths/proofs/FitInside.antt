-- Each subquery of a condition that fits does so with all its levels.
use Rattle.std.proofs.Common.{◌≡◌, ◌∙◌, refl, ap, sym, subst, ℕ, Bool, true, false, ◌&&◌, List, [], ◌∷◌, ◌++◌, length, nat_lt, if◌then◌else◌}
use Rattle.std.proofs.lemmas.Bool.{and_parts, and_from}
use Rattle.std.proofs.lemmas.List.Folds.{list_all-map, list_all-append}
use Rattle.std.specs.List.{AllByRecursion, list_all, flat_map}
use Rattle.std.specs.Prelude.{nat_le, Option, Some, None, is_some}
use Rattle.lint_base.specs.declared.place.Span.{Span}
use Rattle.lint_base.proofs.Lists.{every_append}
use Rattle.lint_tables.specs.declared.op.Op.{Op}
use Rattle.lint_tables.specs.declared.op.Op.TheVariants.{Eq}
use Rattle.lint_core.specs.declared.condition.Block.{Block, out-Block}
use Rattle.lint_core.specs.declared.condition.Cond.{Cond}
use Rattle.lint_core.specs.declared.condition.Entry.{Entry}
use Rattle.lint_core.specs.declared.condition.Term.{Term}
use Rattle.lint_core.specs.declared.schema.Kind.{Kind}
use Rattle.lint_core.specs.declared.schema.Table.{Table}
use Rattle.lint_core.specs.declared.query.Query.{Query}
use Rattle.lint_core.specs.Asked.{main_condition}
use Rattle.lint_core.specs.Fits.{BlockMeaning, cond_fits, block_fits as block_fits_at, tables_of, main_tables, is_plain, term_kind, term_fits, selected_fits, selection_fits, query_fits, count_conditions}
use Rattle.lint_core.specs.Kind.{compares_both}
use Rattle.lint_core.specs.Subqueries.{Subquery, subquery, is_column, scalar_subqueries, not_in_subqueries}
use Rattle.lint_core.proofs.Parted.{scalars_true, scalars_false, scalars_and, scalars_or, scalars_not, scalars_compare, scalars_is_null, scalars_exists, scalars_in, scalars_scalar, not_ins_true, not_ins_false, not_ins_and, not_ins_or, not_ins_not, not_ins_compare, not_ins_is_null, not_ins_exists, not_ins_in, not_ins_scalar}
use Rattle.question_truths.specs.SubqueryFits.{tables_exist, subquery_fits}
use Rattle.question_truths.proofs.ByParts.{by_parts}
use Rattle.question_truths.proofs.FitLayers.{block_fit, block_fit_is, fits_and, fits_or, fits_not, fits_exists, fits_in, fits_scalar}

-- what is compared is of some kind
second_there : (op : Op) (a b : Option Kind) → compares_both op a b ≡ true → is_some b ≡ true
second_there op None b compares = cc
second_there op (Some a) None compares = cc
second_there op (Some a) (Some b) compares = refl

module _ (schema : List Table) where
  abbrev pub SubFits : Subquery → Type 0
  SubFits sub = subquery_fits schema sub ≡ true

  abbrev AllFit : List Subquery → Type 0
  AllFit subs = AllByRecursion SubFits subs

  abbrev Inside : Cond → Type 0
  Inside cond = (tables : List (List ℕ)) → tables_exist schema tables ≡ true → cond_fits schema tables cond ≡ true → AllFit (scalar_subqueries cond tables) × AllFit (not_in_subqueries cond tables)

  -- ---- parts

  parts_inside : (parts : List Cond) → AllByRecursion Inside parts → (tables : List (List ℕ)) → tables_exist schema tables ≡ true → list_all (cond_fits schema tables) parts ≡ true →
      AllFit (flat_map (λ part. scalar_subqueries part tables) parts) × AllFit (flat_map (λ part. not_in_subqueries part tables) parts)
  parts_inside [] each tables exist fits = (tt, tt)
  parts_inside (part ∷ parts) each tables exist fits =
      let both = and_parts (cond_fits schema tables part) (list_all (cond_fits schema tables) parts) fits in
      let here = each.0 tables exist both.0 in
      let later = parts_inside parts each.1 tables exist both.1 in (
        every_append SubFits (scalar_subqueries part tables) (flat_map (λ part. scalar_subqueries part tables) parts) here.0 later.0,
        every_append SubFits (not_in_subqueries part tables) (flat_map (λ part. not_in_subqueries part tables) parts) here.1 later.1,
      )

  -- ---- subqueries

  module _ (block : Block) (tables : List (List ℕ)) (exist : tables_exist schema tables ≡ true) where
    abbrev own : List ℕ
    own = tables_of (out-Block block).entries

    abbrev levels : List (List ℕ)
    levels = tables ++ own ∷ []

    abbrev entries_fit : Bool
    entries_fit = list_all (λ (e : Entry). nat_lt e.table (length schema)) (out-Block block).entries

    abbrev few : Bool
    few = nat_le (length (out-Block block).entries) 16

    pub levels_exist : (block_fit schema block).fits tables ≡ true → tables_exist schema levels ≡ true
    levels_exist fits =
        let there = list_all (λ table. nat_lt table (length schema)) in
        let entries = (and_parts few entries_fit (and_parts (few && entries_fit) (cond_fits schema levels (out-Block block).cond) fits).0).1 in
        list_all-append there tables (own ∷ [])
        ∙ and_from (tables_exist schema tables) (there own && true) exist (and_from (there own) true (list_all-map (λ table. nat_lt table (length schema)) (λ (e : Entry). e.table) (out-Block block).entries ∙ entries) refl)

    pub cond_inside : (block_fit schema block).fits tables ≡ true → cond_fits schema levels (out-Block block).cond ≡ true
    cond_inside fits = (and_parts (few && entries_fit) (cond_fits schema levels (out-Block block).cond) fits).1

    -- all of a subquery that selects
    module _ (op : Op) (left item : Term) (fits : selected_fits schema tables op left (block_fit schema block) item ≡ true) where
      abbrev of_block : Bool
      of_block = (block_fit schema block).fits tables

      abbrev compares : Bool
      compares = compares_both op (term_kind schema tables left) (term_kind schema levels item)

      block_fits : of_block ≡ true
      block_fits = (and_parts of_block (is_plain item) (and_parts (of_block && is_plain item) compares fits).0).0

      selects : (place : Span) → SubFits (subquery tables block item place)
      selects place =
          let both = and_parts (of_block && is_plain item) compares fits in
          let plain = (and_parts of_block (is_plain item) both.0).1 in
          let kind = second_there op (term_kind schema tables left) (term_kind schema levels item) both.1 in
          let exists = tables_exist schema levels in
          let term = term_fits schema levels item in
          and_from (exists && term && is_plain item) (cond_fits schema levels (out-Block block).cond)
          (and_from (exists && term) (is_plain item) (and_from exists term (levels_exist block_fits) kind) plain) (cond_inside block_fits)

  one_if : (b : Bool) (sub : Subquery) → SubFits sub → AllFit (if b then sub ∷ [] else [])
  one_if true sub fits = (fits, tt)
  one_if false sub fits = tt

  -- ---- conditions

  -- both lists, by what they are
  listed : (cond : Cond) (tables : List (List ℕ)) (scalars not_ins : List Subquery) → scalar_subqueries cond tables ≡ scalars → not_in_subqueries cond tables ≡ not_ins →
      AllFit scalars × AllFit not_ins → AllFit (scalar_subqueries cond tables) × AllFit (not_in_subqueries cond tables)
  listed cond tables scalars not_ins is is_too all = (subst AllFit (sym is) all.0, subst AllFit (sym is_too) all.1)

  pub inside_fit : (cond : Cond) → Inside cond
  inside_fit = by_parts Inside (record {
    when_true = λ tables exist fits. listed _ tables [] [] (scalars_true tables) (not_ins_true tables) (tt, tt);
    when_false = λ tables exist fits. listed _ tables [] [] (scalars_false tables) (not_ins_false tables) (tt, tt);
    when_and = λ parts each tables exist fits. listed _ tables _ _ (scalars_and tables parts) (not_ins_and tables parts) (parts_inside parts each tables exist (sym (fits_and schema tables parts) ∙ fits));
    when_or = λ parts each tables exist fits. listed _ tables _ _ (scalars_or tables parts) (not_ins_or tables parts) (parts_inside parts each tables exist (sym (fits_or schema tables parts) ∙ fits));
    when_not = λ part inside tables exist fits. listed _ tables _ _ (scalars_not tables part) (not_ins_not tables part) (inside tables exist (sym (fits_not schema tables part) ∙ fits));
    when_compare = λ op left right span tables exist fits. listed _ tables [] [] (scalars_compare tables op left right span) (not_ins_compare tables op left right span) (tt, tt);
    when_is_null = λ t negated span tables exist fits. listed _ tables [] [] (scalars_is_null tables t negated span) (not_ins_is_null tables t negated span) (tt, tt);
    when_exists = λ block span inside tables exist fits.
        let block_fits = sym (fits_exists schema tables block span) ∙ fits in
        listed _ tables _ _ (scalars_exists tables block span) (not_ins_exists tables block span)
        (inside (tables ++ tables_of (out-Block block).entries ∷ []) (levels_exist block tables exist block_fits) (cond_inside block tables exist block_fits));
    when_in = λ t block item negated span inside tables exist fits.
        let own = tables ++ tables_of (out-Block block).entries ∷ [] in
        let all = sym (fits_in schema tables t block item negated span) ∙ fits in
        let fit = block_fits block tables exist Eq t item all in
        let within = inside own (levels_exist block tables exist fit) (cond_inside block tables exist fit) in
        listed _ tables _ _ (scalars_in tables t block item negated span) (not_ins_in tables t block item negated span) (
          within.0,
          every_append SubFits (if negated && is_column item then subquery tables block item span ∷ [] else []) (not_in_subqueries (out-Block block).cond own)
              (one_if (negated && is_column item) (subquery tables block item span) (selects block tables exist Eq t item all span)) within.1,
        );
    when_scalar = λ op left block item span inside tables exist fits.
        let own = tables ++ tables_of (out-Block block).entries ∷ [] in
        let all = sym (fits_scalar schema tables op left block item span) ∙ fits in
        let fit = block_fits block tables exist op left item all in
        let within = inside own (levels_exist block tables exist fit) (cond_inside block tables exist fit) in
        let place = (out-Block block).span in
        listed _ tables _ _ (scalars_scalar tables op left block item span) (not_ins_scalar tables op left block item span)
        (every_append SubFits (scalar_subqueries (out-Block block).cond own) (subquery tables block item place ∷ []) within.0 (selects block tables exist op left item all place, tt), within.1);
  })

  -- ---- queries

  pub main_fits : (query : Query) → query_fits schema query ≡ true → (tables_exist schema (main_tables query) ≡ true) × (cond_fits schema (main_tables query) (main_condition query) ≡ true)
  main_fits query fits =
      let selects = selection_fits schema query in
      let few = nat_le (count_conditions (out-Block query.block).cond) 65536 in
      let both = (and_parts selects (block_fits_at schema [] query.block) (and_parts (selects && block_fits_at schema [] query.block) few fits).0).1 in
      let block = sym (ap (λ (m : BlockMeaning). m.fits []) (block_fit_is schema query.block)) ∙ both in
      (levels_exist query.block [] refl block, cond_inside query.block [] refl block)
