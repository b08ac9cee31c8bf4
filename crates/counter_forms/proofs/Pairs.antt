-- The counter sentences that speak of two rows of each entry, or of two rows of a scalar subquery, and those of NOT IN
-- subqueries: of E2, E9 and E10.
use Rattle.std.proofs.Common.{◌≡◌, ◌∙◌, ◌+◌, ◌<◌, ap, sym, refl, subst, ℕ, suc, Bool, true, ◌&&◌, List, [], ◌∷◌, ◌++◌, map, length, arith}
use Rattle.std.proofs.lemmas.List.{append-nil, append_assoc, length-append}
use Rattle.std.proofs.lemmas.List.Folds.{list_all-append}
use Rattle.std.specs.List.{AllByRecursion, list_all, zip}
use Rattle.std.specs.Prelude.{slice_get, option_and_then}
use Rattle.lint_base.proofs.Lists.{all_append, both_left, both_right}
use Rattle.lint_core.specs.declared.query.Item.{Item}
use Rattle.lint_core.specs.declared.query.Query.{Query}
use Rattle.lint_core.specs.declared.schema.Table.{Table}
use Rattle.lint_core.specs.Asked.{main_condition}
use Rattle.lint_core.specs.Fits.{cond_fits, is_plain, main_tables, query_fits, term_fits}
use Rattle.lint_core.specs.Subqueries.{Subquery, is_column}
use Rattle.sort_formula.specs.declared.formula.Atom.TheVariants as atom
use Rattle.sort_formula.specs.declared.formula.Formula.{Formula}
use Rattle.sort_formula.specs.declared.formula.Formula.TheVariants as f
use Rattle.sort_formula.specs.Counters.{count, deeper, distinct_counter, first_scope, items_alike, last_level, not_distinct, one_scope, outer_levels, own, second_scope, selects_null, sentence_of, some_other, two_rows, two_scope}
use Rattle.sort_formula.specs.Sides.{all_of, from_number, is_null_formula, is_text_term, numbered_from, side_of}
use Rattle.sort_formula.specs.Translation.{is_true_formula}
use Rattle.truth_laws.proofs.Outside.{AreOutside, length_from}
use Rattle.question_truths.specs.SubqueryFits.{subquery_fits, tables_exist}
use Rattle.counter_forms.proofs.Columns.{column_side, not_distinct_plain, null_plain, term_stands}
use Rattle.counter_forms.proofs.Elements.{every_filtered}
use Rattle.counter_forms.proofs.Formed.{Formed, formed_and, formed_or, formed_other, formed_rows, plain_and, plain_condition, plain_is_formed}
use Rattle.counter_forms.proofs.Outside.{all_split, last_numbered, last_of, level_at, level_outside, numbered_outside, second_outside}
use Rattle.counter_forms.proofs.Queries.{all_there, each_item, is_there, own_there}

-- ---- two lists of variables of the same tables, place by place

module _ (schema : List Table) (outside : List ℕ) where
  abbrev StandFor : List ℕ → List ℕ → Type 0
  StandFor rows own = (entry : ℕ) → option_and_then (slice_get outside) (slice_get rows entry) ≡ slice_get own entry

  abbrev other_atoms : List ℕ → List ℕ → List Formula
  other_atoms rows others = map (λ (pair : ℕ × ℕ). f.Atom (atom.Other pair.0 pair.1)) (zip rows others)

  pairs_formed : (rows others own : List ℕ) → length rows ≡ length own → length others ≡ length own → StandFor rows own → StandFor others own →
      AllByRecursion (Formed schema outside) (other_atoms rows others)
  pairs_formed [] others own same same_too first second = tt
  pairs_formed (row ∷ rows) [] own same same_too first second = tt
  pairs_formed (row ∷ rows) (other ∷ others) [] same same_too first second = absurd (omega arith)
  pairs_formed (row ∷ rows) (other ∷ others) (table ∷ own) same same_too first second = (
    formed_other schema outside row other table (first 0) (second 0),
    pairs_formed rows others own (omega arith) (omega arith) (λ entry. first (suc entry)) (λ entry. second (suc entry)),
  )

  pub some_other_formed : (rows others own : List ℕ) → length rows ≡ length own → length others ≡ length own → StandFor rows own → StandFor others own → Formed schema outside (some_other rows others)
  some_other_formed rows others own same same_too first second = formed_or schema outside (other_atoms rows others) (pairs_formed rows others own same same_too first second)

-- ---- E2

module _ (schema : List Table) (query : Query) (fits : query_fits schema query ≡ true) (exist : tables_exist schema (main_tables query) ≡ true)
    (meant : cond_fits schema (main_tables query) (main_condition query) ≡ true) where
  abbrev here : List ℕ
  here = own schema query

  abbrev n : ℕ
  n = count schema query

  abbrev twice : List ℕ
  twice = here ++ here

  long : length twice ≡ n + n
  long = length-append here here

  abbrev of_one : List ℕ
  of_one = from_number 0 n

  abbrev of_two : List ℕ
  of_two = from_number n n

  one_at : (entry : ℕ) → option_and_then (slice_get twice) (slice_get of_one entry) ≡ slice_get here entry
  one_at entry = level_at twice [] here here 0 entry refl refl

  two_at : (entry : ℕ) → option_and_then (slice_get twice) (slice_get of_two entry) ≡ slice_get here entry
  two_at entry = level_at twice here here [] n entry (ap (λ rest. here ++ rest) (sym (append-nil here))) refl

  one_outside : (named : ℕ → Bool) → AreOutside (one_scope schema query) twice named
  one_outside named = level_outside here of_one twice (n + n) named (length_from 0 n) long (λ entry name. one_at entry)

  two_outside : (named : ℕ → Bool) → AreOutside (two_scope schema query) twice named
  two_outside named = level_outside here of_two twice (n + n) named (length_from n n) long (λ entry name. two_at entry)

  abbrev both_at : Item → Formula
  both_at item = not_distinct schema (one_scope schema query) item.term (two_scope schema query) item.term

  item_alike : (item : Item) → term_fits schema (main_tables query) item.term ≡ true → is_column item.term ≡ true → Formed schema twice (both_at item)
  item_alike item there column =
      let t = item.term in
      let one = one_scope schema query in
      let two = two_scope schema query in
      let one_stands = term_stands schema twice one (one_outside (λ entry. true)) t in
      let two_stands = term_stands schema twice two (two_outside (λ entry. true)) t in
      let one_lengths = (one_outside (λ entry. true)).lengths in
      let two_lengths = (two_outside (λ entry. true)).lengths in
      plain_is_formed schema twice (both_at item)
      (not_distinct_plain schema twice (is_text_term schema one t) (is_null_formula schema one t) (is_null_formula schema two t) (side_of schema one t) (side_of schema two t)
      (null_plain schema twice one one_lengths t one_stands there).0 (null_plain schema twice two two_lengths t two_stands there).0
      (column_side schema twice one one_lengths t column one_stands there) (column_side schema twice two two_lengths t column two_stands there))

  alike_formed : AllByRecursion (Formed schema twice) (items_alike schema query)
  alike_formed =
      every_filtered (λ (item : Item). term_fits schema (main_tables query) item.term) (λ (item : Item). is_column item.term) both_at (Formed schema twice) item_alike query.items (each_item schema query fits)

  pub distinct_formed : Formed schema [] (sentence_of (distinct_counter schema query))
  distinct_formed =
      let whole = main_condition query in
      let first = is_true_formula schema whole (one_scope schema query) in
      let second = is_true_formula schema whole (two_scope schema query) in
      let other = some_other of_one of_two in
      let parts = first ∷ second ∷ other ∷ items_alike schema query in
      let there = own_there schema query exist in
      formed_rows schema twice [] (f.And parts) (all_append (is_there schema) here here there there)
      (formed_and schema twice parts (
        plain_is_formed schema twice first (plain_condition schema twice whole (one_scope schema query) meant (one_outside _)),
        (
          plain_is_formed schema twice second (plain_condition schema twice whole (two_scope schema query) meant (two_outside _)),
          (
            some_other_formed schema twice of_one of_two here (length_from 0 n) (length_from n n) one_at two_at,
            alike_formed,
          ),
        ),
      ))

-- ---- E9

module _ (schema : List Table) (sub : Subquery) (fits : subquery_fits schema sub ≡ true) where
  abbrev of_levels : Bool
  of_levels = tables_exist schema sub.tables

  abbrev of_item : Bool
  of_item = term_fits schema sub.tables sub.item

  abbrev of_cond : Bool
  of_cond = cond_fits schema sub.tables sub.cond

  first_three : (of_levels && of_item && is_plain sub.item) ≡ true
  first_three = both_left (of_levels && of_item && is_plain sub.item) of_cond fits

  meant_inside : of_cond ≡ true
  meant_inside = both_right (of_levels && of_item && is_plain sub.item) of_cond fits

  levels_there : of_levels ≡ true
  levels_there = both_left of_levels of_item (both_left (of_levels && of_item) (is_plain sub.item) first_three)

  item_fits : of_item ≡ true
  item_fits = both_right of_levels of_item (both_left (of_levels && of_item) (is_plain sub.item) first_three)

  abbrev all : List ℕ
  all = all_of sub.tables

  abbrev last : List ℕ
  last = last_level sub.tables

  module _ (some : 0 < length sub.tables) where
    abbrev outside : List ℕ
    outside = all ++ last

    abbrev outer : List ℕ
    outer = all_of (outer_levels sub.tables)

    split : all ≡ outer ++ last
    split = all_split sub.tables some

    -- the variables of the first row, and of the second
    abbrev rows : List ℕ
    rows = from_number (0 + length outer) (length last)

    abbrev others : List ℕ
    others = from_number (length all) (length last)

    rows_at : StandFor schema outside rows last
    rows_at entry =
        let zero_more : length outer ≡ 0 + length outer = omega arith in
        level_at outside outer last last (0 + length outer) entry (ap (λ tables. tables ++ last) split ∙ append_assoc outer last last) zero_more

    others_at : StandFor schema outside others last
    others_at entry = level_at outside all last [] (length all) entry (ap (λ rest. all ++ rest) (sym (append-nil last))) refl

    differ_formed : Formed schema outside (some_other (last_level (first_scope schema sub).levels) (last_level (second_scope schema sub).levels))
    differ_formed =
        let one : last_level (first_scope schema sub).levels ≡ rows = last_numbered 0 sub.tables some in
        let two : last_level (second_scope schema sub).levels ≡ others = last_of (numbered_from 0 (outer_levels sub.tables)) others in
        subst (λ (xs : List ℕ). Formed schema outside (some_other xs (last_level (second_scope schema sub).levels))) (sym one)
        (subst (λ (xs : List ℕ). Formed schema outside (some_other rows xs)) (sym two)
        (some_other_formed schema outside rows others last (length_from (0 + length outer) (length last)) (length_from (length all) (length last)) rows_at others_at))

    first_outside : (named : ℕ → Bool) → AreOutside (deeper schema sub (first_scope schema sub)) outside named
    first_outside named = numbered_outside sub.tables outside last (length all + length last) named refl (length-append all last)

    lead_there : list_all (is_there schema) (all ++ last) ≡ true
    lead_there =
        let every = all_there schema sub.tables levels_there in
        let parts : (list_all (is_there schema) outer && list_all (is_there schema) last) ≡ true =
        sym (list_all-append (is_there schema) outer last) ∙ (ap (list_all (is_there schema)) (sym split) ∙ every) in
        all_append (is_there schema) all last every (both_right (list_all (is_there schema) outer) (list_all (is_there schema) last) parts)

    pub rows_formed : Formed schema [] (sentence_of (two_rows schema sub))
    rows_formed =
        let first = is_true_formula schema sub.cond (deeper schema sub (first_scope schema sub)) in
        let second = is_true_formula schema sub.cond (second_scope schema sub) in
        let other = some_other (last_level (first_scope schema sub).levels) (last_level (second_scope schema sub).levels) in
        let parts = first ∷ second ∷ other ∷ [] in
        formed_rows schema (all ++ last) [] (f.And parts) lead_there
        (formed_and schema outside parts (
          plain_is_formed schema outside first (plain_condition schema outside sub.cond (deeper schema sub (first_scope schema sub)) meant_inside (first_outside _)),
          (
            plain_is_formed schema outside second (plain_condition schema outside sub.cond (second_scope schema sub) meant_inside (second_outside sub.tables _ some)),
            (differ_formed, tt),
          ),
        ))

  -- ---- E10

  null_outside : (named : ℕ → Bool) → AreOutside (first_scope schema sub) all named
  null_outside named = numbered_outside sub.tables all [] (length all) named (sym (append-nil all)) refl

  pub null_formed : Formed schema [] (sentence_of (selects_null schema sub))
  null_formed =
      let scope = first_scope schema sub in
      let where_true = is_true_formula schema sub.cond scope in
      let null = is_null_formula schema scope sub.item in
      let parts = where_true ∷ null ∷ [] in
      let stands = term_stands schema all scope (null_outside (λ entry. true)) sub.item in
      let lengths = (null_outside (λ entry. true)).lengths in
      formed_rows schema all [] (f.And parts) (all_there schema sub.tables levels_there)
      (plain_is_formed schema all (f.And parts)
      (plain_and schema all parts (
        plain_condition schema all sub.cond scope meant_inside (null_outside _),
        ((null_plain schema all scope lengths sub.item stands item_fits).0, tt),
      )))
