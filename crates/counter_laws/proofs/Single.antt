-- The questions of one binding of the main entries: the body of the counter sentence holds at the leading rows exactly
-- where the points made of them refute the question loosely.
use Rattle.std.proofs.Common.{◌≡◌, ◌∙◌, refl, sym, ap, ap₂, subst, ℕ, ℤ, pos, neg_ℤ, ◌-ℤ◌, Bool, true, false, ◌&&◌, ◌||◌, not, List, [], ◌∷◌, length, nat_eq, nat_lt, nat_le, take, if◌then◌else◌, arith}
use Rattle.std.proofs.lemmas.List.{take_all}
use Rattle.std.specs.List.{list_all}
use Rattle.std.specs.Option.{option_map_or}
use Rattle.std.specs.Prelude.{Ok, Option, Some, None, slice_get, unwrap_or}
use Rattle.lint_base.proofs.Lists.{all_at, and_true, or_false, both_left, both_right}
use Rattle.lint_core.specs.declared.condition.Cond.{Cond}
use Rattle.lint_core.specs.declared.condition.Cond.TheVariants as c
use Rattle.lint_core.specs.declared.condition.Entry.{Entry}
use Rattle.lint_core.specs.declared.condition.Term.{Term}
use Rattle.lint_core.specs.declared.condition.Term.TheVariants as term
use Rattle.lint_core.specs.declared.database.Binding.{Binding}
use Rattle.lint_core.specs.declared.database.Database.{Database}
use Rattle.lint_core.specs.declared.database.Value.{Value}
use Rattle.lint_core.specs.declared.database.Value.TheVariants.{Null, Int, Text}
use Rattle.lint_core.specs.declared.query.Item.{Item}
use Rattle.lint_core.specs.declared.query.Query.{Query}
use Rattle.lint_core.specs.declared.query.Question.{Question}
use Rattle.lint_core.specs.declared.query.Question.TheVariants.{Empty, Constant, Duplicate, Implied, Impossible, SameRow}
use Rattle.lint_core.specs.declared.schema.Table.{Table}
use Rattle.lint_core.specs.Asked.{main_condition, main_entries, is_asked, is_written_column, are_comparable, are_of_one_table}
use Rattle.lint_core.specs.Comparison.{is_null, are_not_distinct}
use Rattle.lint_core.specs.Condition.{term_value}
use Rattle.lint_core.specs.Database.{Place}
use Rattle.lint_core.specs.Evaluation.{map_ok}
use Rattle.lint_core.specs.Fits.{cond_fits, item_fits, order_fits, term_fits, is_plain, selection_fits_in, block_fits, count_conditions, query_fits, main_tables, tables_of, term_kind}
use Rattle.lint_core.specs.Forms.{is_main_binding}
use Rattle.lint_core.specs.Kind.{are_of_one_kind}
use Rattle.lint_core.specs.Meets.{is_of_domains}
use Rattle.lint_core.specs.Points.{are_rows, is_same_row}
use Rattle.lint_core.specs.Predicates.{with_replaced}
use Rattle.lint_core.specs.Question.{Interpretation, all_true, where_by, is_known_true, value_of_item, item_value}
use Rattle.lint_core.specs.Subqueries.{is_column}
use Rattle.lint_core.specs.Truth.{is_true, truth_of}
use Rattle.lint_core.specs.declared.condition.Block.{out-Block}
use Rattle.sort_formula.specs.declared.formula.Atom.TheVariants as atom
use Rattle.sort_formula.specs.declared.formula.Formula.{Formula}
use Rattle.sort_formula.specs.declared.formula.Formula.TheVariants as f
use Rattle.sort_formula.specs.declared.formula.Side.TheVariants as side
use Rattle.sort_formula.specs.Cells.{le}
use Rattle.sort_formula.specs.CounterPoints.{main_binding, points_of}
use Rattle.sort_formula.specs.Counters.{counter, where_formula, differs_from, differs_from_number, differs_from_text, not_distinct, replaced_counter}
use Rattle.sort_formula.specs.Holds.{holds, side_value, is_same_place}
use Rattle.sort_formula.specs.Loose.{by_formula, rows_at, refutes_loosely}
use Rattle.sort_formula.specs.Negated.{negated}
use Rattle.sort_formula.specs.Sides.{scope_of, side_of, is_text_term, is_null_formula, not_null_formula}
use Rattle.sort_formula.specs.Standpoint.{StandsFor}
use Rattle.sort_formula.specs.Translation.{is_true_formula}
use Rattle.sort_formula.proofs.Holding.{holds_atom, holds_and, holds_or}
use Rattle.formula_laws.proofs.LeadRows.{as_many, one_level}
use Rattle.truth_laws.proofs.FittingParts.{replaced_fits}
use Rattle.truth_laws.proofs.Layers.{fits_true, fits_false}
use Rattle.truth_laws.proofs.Numbered.{numbered_stands}
use Rattle.truth_laws.proofs.Shapes.{binding_shape, main_fits}
use Rattle.truth_laws.proofs.Values.{is_of}
use Rattle.counter_laws.specs.LeadingRows.{leading_rows}
use Rattle.counter_laws.proofs.Columns.{IsColumn, value_same, value_of, null_is, not_null_is, null_distinct, text_differs, number_differs, number_is_other, text_is_other}
use Rattle.counter_laws.proofs.ColumnFits.{negated_says}
use Rattle.counter_laws.proofs.Leading.{lead_at, table_at, one_there, two_there, one_level_rows}
use Rattle.counter_laws.proofs.Loosely.{known_in, truth_is}
use Rattle.counter_laws.proofs.Standing.{StandsForAll, term_here, term_outside, not_true}

-- two places of one table
same_place_says : (t row more : ℕ) (other : ℕ) → nat_eq t other ≡ true → is_same_place (Some (record { table = t; row = row })) (Some (record { table = other; row = more })) ≡ nat_eq row more
same_place_says t row more other same = ap (λ b. b && nat_eq row more) same

module _ (schema : List Table) (db : Database) (domains : is_of_domains schema db ≡ true) (query : Query) (fits : query_fits schema query ≡ true) where
  abbrev own : List ℕ
  own = tables_of (main_entries query)

  abbrev loose : Interpretation
  loose = by_formula schema db

  main_fit : cond_fits schema (main_tables query) (main_condition query) ≡ true
  main_fit = main_fits schema query fits

  pub items_fit : list_all (item_fits schema (main_tables query)) query.items ≡ true
  unfolding selection_fits_in
  items_fit =
      let few = nat_le (length query.items) 256 in
      let items = list_all (item_fits schema (main_tables query)) query.items in
      let keys = list_all (order_fits schema (main_tables query)) query.order in
      let block = block_fits schema [] query.block in
      let conditions = nat_le (count_conditions (out-Block query.block).cond) 65536 in
      both_right few items (both_left (few && items) keys (both_left (few && items && keys) block (both_left (few && items && keys && block) conditions fits)))

  module _ (places : List ℕ) (are : are_rows db own places ≡ true) where
    abbrev one : Binding
    one = main_binding query places

    abbrev rows : List Place
    rows = leading_rows own places

    abbrev here : Bool
    here = holds db (where_formula schema query) rows

    form : is_main_binding db query one ≡ true
    form = one_level db own places are

    stands : StandsForAll db (scope_of (own ∷ [])) one.levels rows
    stands cond =
        subst (λ rows. StandsFor db (scope_of (own ∷ [])) one.levels rows cond) (one_level_rows db own places are)
        (numbered_stands db (own ∷ []) one.levels (binding_shape db (own ∷ []) one.levels form) cond)

    -- the loose truth of a condition is whether its formula holds at the leading rows
    by_rows : (cond : Cond) → is_true (truth_of (holds db (is_true_formula schema cond (scope_of (own ∷ []))) (rows_at (own ∷ []) one.levels))) ≡ holds db (is_true_formula schema cond (scope_of (own ∷ []))) rows
    by_rows cond =
        truth_is (holds db (is_true_formula schema cond (scope_of (own ∷ []))) (rows_at (own ∷ []) one.levels))
        ∙ ap (holds db (is_true_formula schema cond (scope_of (own ∷ [])))) (one_level_rows db own places are)

    abbrev Says : Question → Value → Type 0
    Says question given =
        holds db (counter schema query question given).body (leading_rows (counter schema query question given).lead places)
        ≡ refutes_loosely schema db query question given (points_of query question places None)

    -- WHERE holds, and more
    where_and : (more : Bool) → is_known_true (map_ok (λ here. here && more) (all_true (where_by db query loose one ∷ []))) ≡ (here && more)
    where_and more = ap (λ b. b && more) (and_true _ ∙ by_rows (main_condition query))

    by_where : (more : Bool) → is_known_true (if is_main_binding db query one then map_ok (λ here. here && more) (all_true (where_by db query loose one ∷ [])) else Ok false) ≡ (here && more)
    by_where more = known_in (is_main_binding db query one) (map_ok (λ here. here && more) (all_true (where_by db query loose one ∷ []))) form ∙ where_and more

    pub empty_says : (given : Value) → Says Empty given
    empty_says given =
        sym (known_in (is_main_binding db query one) (all_true (where_by db query loose one ∷ [])) form ∙ (and_true _ ∙ by_rows (main_condition query)))

    -- WHERE and one formula more
    and_one : (g : Formula) (b : Bool) → holds db g rows ≡ b → holds db (f.And (where_formula schema query ∷ g ∷ [])) rows ≡ (here && b)
    and_one g b is = holds_and db (where_formula schema query ∷ g ∷ []) rows ∙ ap (λ b. here && b) (and_true (holds db g rows) ∙ is)

    -- ---- columns

    abbrev Column : Term → Type 0
    Column = IsColumn schema db domains (scope_of (own ∷ [])) one.levels rows

    abbrev value : Term → Value
    value = term_value db (own ∷ []) one.levels

    column_of : (i : ℕ) (item : Item) → slice_get query.items i ≡ Some item → is_written_column item ≡ true → Column item.term
    column_of i item at written =
        let fit = all_at (item_fits schema (main_tables query)) query.items i item items_fit at in
        let there = term_fits schema (main_tables query) item.term in
        let plain = is_plain item.term in
        record {
          column = both_left (is_column item.term) (not item.star) written;
          plain = both_right there plain fit;
          fits = both_left there plain fit;
          stands = term_here db (scope_of (own ∷ [])) one.levels rows schema domains stands item.term;
          lengths = (stands (c.And [])).variables;
        }

    differs_number : (t : Term) (n : ℤ) → Column t → (text : Bool) → is_text_term schema (scope_of (own ∷ [])) t ≡ text →
        holds db (if text then where_formula schema query else f.And (where_formula schema query ∷ differs_from_number schema query t n ∷ [])) rows ≡ (here && not (are_not_distinct (value t) (Int n)))
    differs_number t n is true text =
        let s = side_value db rows (side_of schema (scope_of (own ∷ [])) t) in
        let of : is_of true s ≡ true = subst (λ b. is_of b s ≡ true) text (value_of schema db domains (scope_of (own ∷ [])) one.levels rows t is) in
        sym (and_true here) ∙ ap (λ b. here && b) (ap not (sym (ap (λ v. are_not_distinct v (Int n)) (value_same schema db domains (scope_of (own ∷ [])) one.levels rows t is) ∙ text_differs s n of)))
    differs_number t n is false text =
        let s = side_value db rows (side_of schema (scope_of (own ∷ [])) t) in
        let x = side_of schema (scope_of (own ∷ [])) t in
        let xn = is_null_formula schema (scope_of (own ∷ [])) t in
        let low = le x side.Zero (n -ℤ pos 1) in
        let high = le side.Zero x (neg_ℤ n -ℤ pos 1) in
        let same = value_same schema db domains (scope_of (own ∷ [])) one.levels rows t is in
        let of : is_of false s ≡ true = subst (λ b. is_of b s ≡ true) text (value_of schema db domains (scope_of (own ∷ [])) one.levels rows t is) in
        and_one (differs_from_number schema query t n) (not (are_not_distinct (value t) (Int n)))
        (holds_or db (xn ∷ low ∷ high ∷ []) rows
        ∙ (ap₂ (λ a b. a || b) (null_is schema db domains (scope_of (own ∷ [])) one.levels rows t is ∙ ap is_null same)
        (ap₂ (λ a b. a || (b || false)) (holds_atom db (atom.Le x side.Zero (n -ℤ pos 1)) rows) (holds_atom db (atom.Le side.Zero x (neg_ℤ n -ℤ pos 1)) rows))
        ∙ (number_is_other s n of ∙ ap (λ v. not (are_not_distinct v (Int n))) (sym same))))

    differs_text : (t : Term) (text : List ℕ) → Column t → (is_text : Bool) → is_text_term schema (scope_of (own ∷ [])) t ≡ is_text →
        holds db (if is_text then f.And (where_formula schema query ∷ differs_from_text schema query t text ∷ []) else where_formula schema query) rows ≡ (here && not (are_not_distinct (value t) (Text text)))
    differs_text t text is false is_text =
        let s = side_value db rows (side_of schema (scope_of (own ∷ [])) t) in
        let of : is_of false s ≡ true = subst (λ b. is_of b s ≡ true) is_text (value_of schema db domains (scope_of (own ∷ [])) one.levels rows t is) in
        sym (and_true here) ∙ ap (λ b. here && b) (ap not (sym (ap (λ v. are_not_distinct v (Text text)) (value_same schema db domains (scope_of (own ∷ [])) one.levels rows t is) ∙ number_differs s text of)))
    differs_text t text is true is_text =
        let s = side_value db rows (side_of schema (scope_of (own ∷ [])) t) in
        let x = side_of schema (scope_of (own ∷ [])) t in
        let xn = is_null_formula schema (scope_of (own ∷ [])) t in
        let same = value_same schema db domains (scope_of (own ∷ [])) one.levels rows t is in
        let of : is_of true s ≡ true = subst (λ b. is_of b s ≡ true) is_text (value_of schema db domains (scope_of (own ∷ [])) one.levels rows t is) in
        and_one (differs_from_text schema query t text) (not (are_not_distinct (value t) (Text text)))
        (holds_or db (xn ∷ f.Atom (atom.TextNe x (side.Text text)) ∷ []) rows
        ∙ (ap₂ (λ a b. a || (b || false)) (null_is schema db domains (scope_of (own ∷ [])) one.levels rows t is ∙ ap is_null same) (holds_atom db (atom.TextNe x (side.Text text)) rows)
        ∙ (text_is_other s text of ∙ ap (λ v. not (are_not_distinct v (Text text))) (sym same))))

    differs : (t : Term) → Column t → (given : Value) → holds db (differs_from schema query t given) rows ≡ (here && not (are_not_distinct (value t) given))
    differs t is Null =
        and_one (not_null_formula schema (scope_of (own ∷ [])) t) (not (are_not_distinct (value t) Null))
        (not_null_is schema db domains (scope_of (own ∷ [])) one.levels rows t is ∙ ap not (sym (null_distinct (value t))))
    differs t is (Int n) = differs_number t n is (is_text_term schema (scope_of (own ∷ [])) t) refl
    differs t is (Text text) = differs_text t text is (is_text_term schema (scope_of (own ∷ [])) t) refl

    abbrev term_in : Option Item → Term
    term_in found = option_map_or (λ (i : Item). i.term) found term.Null

    abbrev value_in : Option Item → Value
    value_in found = option_map_or (item_value db query one) found Null

    pub constant_says : (item : ℕ) (given : Value) → is_asked schema query (Constant item) ≡ true → Says (Constant item) given
    constant_says item given asked =
        let found = one_there is_written_column (slice_get query.items item) asked in
        let is = column_of item found.0 found.1 found.2 in
        ap (λ o. holds db (differs_from schema query (term_in o) given) rows) found.1
        ∙ (differs found.0.term is given
        ∙ (ap (λ o. here && not (are_not_distinct (value_in o) given)) (sym found.1)
        ∙ sym (by_where (not (are_not_distinct (value_of_item db query one item) given)))))

    pub duplicate_says : (item other : ℕ) (given : Value) → is_asked schema query (Duplicate item other) ≡ true → Says (Duplicate item other) given
    duplicate_says item other given asked =
        let both = both_right (nat_lt item other) _ asked in
        let found = two_there (are_comparable schema query) (slice_get query.items item) (slice_get query.items other) both in
        let x = found.0 in
        let y = found.1 in
        let one_kind = are_of_one_kind (term_kind schema (main_tables query) x.term) (term_kind schema (main_tables query) y.term) in
        let written = both_left (is_written_column x && is_written_column y) one_kind found.4 in
        let first = column_of item x found.2 (both_left (is_written_column x) (is_written_column y) written) in
        let second = column_of other y found.3 (both_right (is_written_column x) (is_written_column y) written) in
        let scope = scope_of (own ∷ []) in
        ap₂ (λ o p. holds db (f.And (where_formula schema query ∷ negated (not_distinct schema scope (term_in o) scope (term_in p)) ∷ [])) rows) found.2 found.3
        ∙ (and_one (negated (not_distinct schema scope x.term scope y.term)) (not (are_not_distinct (value x.term) (value y.term)))
        (negated_says schema db domains scope one.levels rows x.term y.term first second
        (term_outside db scope one.levels rows schema domains stands x.term) (term_outside db scope one.levels rows schema domains stands y.term)
        (both_right (is_written_column x && is_written_column y) one_kind found.4))
        ∙ (ap₂ (λ o p. here && not (are_not_distinct (value_in o) (value_in p))) (sym found.2) (sym found.3)
        ∙ sym (by_where (not (are_not_distinct (value_of_item db query one item) (value_of_item db query one other))))))

    -- ---- two entries of one table

    abbrev place_or_none : ℕ → ℕ
    place_or_none entry = unwrap_or (slice_get places entry) 0

    entry_row : (entry : ℕ) (e : Entry) → slice_get (main_entries query) entry ≡ Some e → slice_get rows entry ≡ Some (record { table = e.table; row = place_or_none entry })
    entry_row entry e at = lead_at own places (as_many db own places are) entry e.table (table_at (main_entries query) entry e at)

    other_says : (entry other : ℕ) → is_asked schema query (SameRow entry other) ≡ true →
        is_same_place (slice_get rows entry) (slice_get rows other) ≡ is_same_row one.levels entry other
    other_says entry other asked =
        let both = both_right (nat_lt entry other) _ asked in
        let found = two_there are_of_one_table (slice_get (main_entries query) entry) (slice_get (main_entries query) other) both in
        let whole : take (length own) places ≡ places = take_all (length own) places (omega (arith, as_many db own places are)) in
        ap₂ is_same_place (entry_row entry found.0 found.2) (entry_row other found.1 found.3)
        ∙ (same_place_says found.0.table (place_or_none entry) (place_or_none other) found.1.table found.4
        ∙ ap (λ (ps : List ℕ). nat_eq (unwrap_or (slice_get ps entry) 0) (unwrap_or (slice_get ps other) 0)) (sym whole))

    pub same_row_says : (entry other : ℕ) (given : Value) → is_asked schema query (SameRow entry other) ≡ true → Says (SameRow entry other) given
    same_row_says entry other given asked =
        and_one (f.Atom (atom.Other entry other)) (not (is_same_row one.levels entry other)) (holds_atom db (atom.Other entry other) rows ∙ ap not (other_says entry other asked))
        ∙ sym (by_where (not (is_same_row one.levels entry other)))

    -- ---- a predicate replaced

    module _ (by : Cond) (by_fits : (tables : List (List ℕ)) → cond_fits schema tables by ≡ true) (predicate : ℕ) where
      abbrev replaced : Cond
      replaced = with_replaced by predicate (main_condition query)

      abbrev there : Bool
      there = holds db (is_true_formula schema replaced (scope_of (own ∷ []))) rows

      replaced_fit : cond_fits schema (own ∷ []) replaced ≡ true
      replaced_fit = replaced_fits schema by by_fits (main_condition query) predicate (main_tables query) main_fit

      pub replaced_body : holds db (replaced_counter schema query replaced).body rows ≡ ((here && not there) || (there && not here))
      replaced_body =
          let scope = scope_of (own ∷ []) in
          let first = where_formula schema query in
          let second = is_true_formula schema replaced scope in
          let not_first = not_true db scope one.levels rows schema domains (main_condition query) main_fit (stands (main_condition query)) in
          let not_second = not_true db scope one.levels rows schema domains replaced replaced_fit (stands replaced) in
          holds_or db (f.And (first ∷ negated second ∷ []) ∷ f.And (second ∷ negated first ∷ []) ∷ []) rows
          ∙ ap₂ (λ a b. a || b)
          (holds_and db (first ∷ negated second ∷ []) rows ∙ ap (λ b. here && b) (and_true (holds db (negated second) rows) ∙ not_second))
          (or_false (holds db (f.And (second ∷ negated first ∷ [])) rows)
          ∙ (holds_and db (second ∷ negated first ∷ []) rows ∙ ap (λ b. there && b) (and_true (holds db (negated first) rows) ∙ not_first)))

      abbrev differ : Bool → Bool → Bool
      differ a b = (a && not b) || (b && not a)

      pub replaced_loose : differ (is_true (truth_of (holds db (where_formula schema query) (rows_at (own ∷ []) one.levels))))
          (is_true (truth_of (holds db (is_true_formula schema replaced (scope_of (own ∷ []))) (rows_at (own ∷ []) one.levels)))) ≡ differ here there
      replaced_loose = ap₂ differ (by_rows (main_condition query)) (by_rows replaced)

    pub implied_says : (predicate : ℕ) (given : Value) → Says (Implied predicate) given
    implied_says predicate given =
        replaced_body c.True (fits_true schema) predicate
        ∙ sym (known_in (is_main_binding db query one) _ form ∙ replaced_loose c.True (fits_true schema) predicate)

    pub impossible_says : (predicate : ℕ) (given : Value) → Says (Impossible predicate) given
    impossible_says predicate given =
        replaced_body c.False (fits_false schema) predicate
        ∙ sym (known_in (is_main_binding db query one) _ form ∙ replaced_loose c.False (fits_false schema) predicate)
