-- The counter sentences that speak of one row of each main entry: of E1, E3, E4, E6, E7 and E8.
use Rattle.std.proofs.Common.{◌≡◌, ◌∙◌, ap, sym, refl, subst, ℕ, ℤ, pos, neg_ℤ, ◌-ℤ◌, Bool, true, false, ◌&&◌, List, [], ◌∷◌, ◌++◌, map, length, if◌then◌else◌}
use Rattle.std.proofs.lemmas.List.{append-nil}
use Rattle.std.proofs.lemmas.Option.{slice_get-map}
use Rattle.std.proofs.lemmas.Bool.{eqb-true}
use Rattle.std.specs.Option.{option_map, option_map_or}
use Rattle.std.specs.Prelude.{Option, None, Some, nat_lt, slice_get}
use Rattle.lint_base.proofs.Lists.{both_left, both_right}
use Rattle.lint_core.specs.declared.condition.Cond.{Cond}
use Rattle.lint_core.specs.declared.condition.Entry.{Entry}
use Rattle.lint_core.specs.declared.condition.Term.{Term}
use Rattle.lint_core.specs.declared.condition.Term.TheVariants as term
use Rattle.lint_core.specs.declared.database.Value.{Value}
use Rattle.lint_core.specs.declared.database.Value.TheVariants as value
use Rattle.lint_core.specs.declared.query.Item.{Item}
use Rattle.lint_core.specs.declared.query.Query.{Query}
use Rattle.lint_core.specs.declared.query.Question.TheVariants.{Constant, Duplicate, SameRow}
use Rattle.lint_core.specs.declared.schema.Table.{Table}
use Rattle.lint_core.specs.Asked.{are_comparable, are_of_one_table, is_asked, is_written_column, main_condition, main_entries, test_two}
use Rattle.lint_core.specs.Fits.{cond_fits, main_tables, query_fits, term_fits, term_kind}
use Rattle.lint_core.specs.Kind.{are_of_one_kind}
use Rattle.lint_core.specs.Predicates.{with_replaced}
use Rattle.lint_core.specs.Subqueries.{is_column}
use Rattle.sort_formula.specs.declared.formula.Atom.TheVariants as atom
use Rattle.sort_formula.specs.declared.formula.Formula.{Formula}
use Rattle.sort_formula.specs.declared.formula.Formula.TheVariants as f
use Rattle.sort_formula.specs.declared.formula.Side.{Side}
use Rattle.sort_formula.specs.declared.formula.Side.TheVariants as side
use Rattle.sort_formula.specs.Cells.{le}
use Rattle.sort_formula.specs.Counters.{differs_from, differs_from_number, differs_from_text, item_term, not_distinct, of_own, own, replaced_counter, scope, sentence_of, where_formula, where_with}
use Rattle.sort_formula.specs.Negated.{negated}
use Rattle.sort_formula.specs.Sentences.{is_number_side, is_text_side}
use Rattle.sort_formula.specs.Sides.{all_of, is_null_formula, is_text_term, not_null_formula, side_of}
use Rattle.sort_formula.specs.Translation.{is_true_formula}
use Rattle.truth_laws.proofs.FittingParts.{replaced_fits}
use Rattle.truth_laws.proofs.Fitting.{IsOutside}
use Rattle.truth_laws.proofs.Outside.{AreOutside}
use Rattle.question_truths.specs.SubqueryFits.{tables_exist}
use Rattle.counter_forms.proofs.Columns.{both_texts, column_is_not_null, column_side, differs_plain, is_side, le_plain, not_distinct_plain, null_plain, term_stands}
use Rattle.counter_forms.proofs.Elements.{two_there}
use Rattle.counter_forms.proofs.Formed.{Formed, Plain, formed_and, formed_other, formed_rows, plain_and, plain_condition, plain_is_formed, plain_not, plain_or}
use Rattle.counter_forms.proofs.Variables.{numbered_lengths}
use Rattle.counter_forms.proofs.Outside.{numbered_outside}
use Rattle.counter_forms.proofs.Queries.{item_there, own_there}

module _ (schema : List Table) (query : Query) (fits : query_fits schema query ≡ true) (exist : tables_exist schema (main_tables query) ≡ true)
    (meant : cond_fits schema (main_tables query) (main_condition query) ≡ true) where
  abbrev here : List ℕ
  here = own schema query

  pub main_outside : (named : ℕ → Bool) → AreOutside (scope schema query) here named
  main_outside named =
      let end : here ≡ all_of (main_tables query) ++ [] = sym (append-nil (here ++ []) ∙ append-nil here) in
      numbered_outside (main_tables query) here [] (length (all_of (main_tables query))) named end (ap length (sym (append-nil here)))

  pub where_plain : Plain schema here (where_formula schema query)
  where_plain = plain_condition schema here (main_condition query) (scope schema query) meant (main_outside _)

  -- one row of each entry, of which this holds
  pub own_formed : (body : Formula) → Formed schema here body → Formed schema [] (sentence_of (of_own schema query body))
  own_formed body formed = formed_rows schema here [] body (own_there schema query exist) formed

  plain_formed : (body : Formula) → Plain schema here body → Formed schema [] (sentence_of (of_own schema query body))
  plain_formed body plain = own_formed body (plain_is_formed schema here body plain)

  -- ---- E1

  pub empty_formed : Formed schema [] (sentence_of (of_own schema query (where_formula schema query)))
  empty_formed = plain_formed (where_formula schema query) where_plain

  -- ---- E6 and E7

  pub replaced_formed : (by : Cond) (predicate : ℕ) → ((tables : List (List ℕ)) → cond_fits schema tables by ≡ true) →
      Formed schema [] (sentence_of (replaced_counter schema query (with_replaced by predicate (main_condition query))))
  replaced_formed by predicate by_fits =
      let replaced = with_replaced by predicate (main_condition query) in
      let here_true = where_formula schema query in
      let other = is_true_formula schema replaced (scope schema query) in
      let other_plain = plain_condition schema here replaced (scope schema query) (replaced_fits schema by by_fits (main_condition query) predicate (main_tables query) meant) (main_outside _) in
      let first = plain_and schema here (here_true ∷ negated other ∷ []) (where_plain, (plain_not schema here other other_plain, tt)) in
      let second = plain_and schema here (other ∷ negated here_true ∷ []) (other_plain, (plain_not schema here here_true where_plain, tt)) in
      plain_formed (f.Or (f.And (here_true ∷ negated other ∷ []) ∷ f.And (other ∷ negated here_true ∷ []) ∷ []))
      (plain_or schema here (f.And (here_true ∷ negated other ∷ []) ∷ f.And (other ∷ negated here_true ∷ []) ∷ []) (first, (second, tt)))

  -- ---- E8

  pub same_row_formed : (entry other : ℕ) → is_asked schema query (SameRow entry other) ≡ true →
      Formed schema [] (sentence_of (where_with schema query (f.Atom (atom.Other entry other) ∷ [])))
  same_row_formed entry other asked =
      let entries = main_entries query in
      let two = two_there are_of_one_table entries entry other (both_right (nat_lt entry other) (test_two are_of_one_table entries entry other) asked) in
      let table = two.first.table in
      let first : slice_get here entry ≡ Some table = slice_get-map (λ (e : Entry). e.table) entries entry ∙ ap (option_map (λ (e : Entry). e.table)) two.one_is in
      let second : slice_get here other ≡ Some table =
      slice_get-map (λ (e : Entry). e.table) entries other ∙ (ap (option_map (λ (e : Entry). e.table)) two.other_is ∙ ap Some (sym (eqb-true table two.second.table two.passes))) in
      own_formed (f.And (where_formula schema query ∷ f.Atom (atom.Other entry other) ∷ []))
      (formed_and schema here (where_formula schema query ∷ f.Atom (atom.Other entry other) ∷ [])
      (plain_is_formed schema here (where_formula schema query) where_plain, (formed_other schema here entry other table first second, tt)))

  -- ---- columns

  abbrev lengths : map length (scope schema query).levels ≡ map length (scope schema query).tables
  lengths = numbered_lengths 0 (main_tables query)

  stands : (t : Term) → IsOutside schema here (scope schema query) t
  stands = term_stands schema here (scope schema query) (main_outside (λ entry. true))

  -- what an item that is a column gives
  record IsColumn (t : Term) : Type 0 where
    column : is_column t ≡ true
    there : term_fits schema (main_tables query) t ≡ true

  column_of : (number : ℕ) (found : Option Item) → slice_get query.items number ≡ found → option_map_or is_written_column found false ≡ true → IsColumn (option_map_or (λ (i : Item). i.term) found term.Null)
  column_of number None at written = cc
  column_of number (Some item) at written = record { column = written_column item written; there = item_there schema query fits number item at }
    where
      written_column : (item : Item) → is_written_column item ≡ true → is_column item.term ≡ true
      written_column item written = both_left (is_column item.term) _ written

  side_there : (t : Term) → IsColumn t → is_side schema here (is_text_term schema (scope schema query) t) (side_of schema (scope schema query) t) ≡ true
  side_there t is = column_side schema here (scope schema query) lengths t is.column (stands t) is.there

  null_there : (t : Term) → IsColumn t → Plain schema here (is_null_formula schema (scope schema query) t) × Plain schema here (not_null_formula schema (scope schema query) t)
  null_there t is = null_plain schema here (scope schema query) lengths t (stands t) is.there

  -- ---- E4

  written : (number : ℕ) (item : Item) → slice_get query.items number ≡ Some item → is_written_column item ≡ true → IsColumn item.term
  written number item at is = column_of number (Some item) at is

  pair_plain : (a b : Term) → IsColumn a → IsColumn b → are_of_one_kind (term_kind schema (main_tables query) a) (term_kind schema (main_tables query) b) ≡ true →
      Plain schema here (not_distinct schema (scope schema query) a (scope schema query) b)
  pair_plain a b first second same =
      let s = scope schema query in
      let tables = main_tables query in
      let texts : is_text_term schema s b ≡ is_text_term schema s a =
      both_texts (term_kind schema tables a) (term_kind schema tables b) same (column_is_not_null schema tables a first.column) (column_is_not_null schema tables b second.column) in
      not_distinct_plain schema here (is_text_term schema s a) (is_null_formula schema s a) (is_null_formula schema s b) (side_of schema s a) (side_of schema s b)
      (null_there a first).0 (null_there b second).0 (side_there a first)
      (subst (λ (text : Bool). is_side schema here text (side_of schema s b) ≡ true) texts (side_there b second))

  abbrev alike : Term → Term → Formula
  alike a b = negated (not_distinct schema (scope schema query) a (scope schema query) b)

  pub duplicate_formed : (item other : ℕ) → is_asked schema query (Duplicate item other) ≡ true →
      Formed schema [] (sentence_of (where_with schema query (alike (item_term schema query item) (item_term schema query other) ∷ [])))
  duplicate_formed item other asked =
      let comparable = are_comparable schema query in
      let two = two_there comparable query.items item other (both_right (nat_lt item other) (test_two comparable query.items item other) asked) in
      let a = two.first.term in
      let b = two.second.term in
      let kinds = are_of_one_kind (term_kind schema (main_tables query) a) (term_kind schema (main_tables query) b) in
      let columns = is_written_column two.first && is_written_column two.second in
      let both : columns ≡ true = both_left columns kinds two.passes in
      let first = written item two.first two.one_is (both_left (is_written_column two.first) (is_written_column two.second) both) in
      let second = written other two.second two.other_is (both_right (is_written_column two.first) (is_written_column two.second) both) in
      let pair = pair_plain a b first second (both_right columns kinds two.passes) in
      let more = alike a b in
      let formed : Formed schema [] (sentence_of (where_with schema query (more ∷ []))) =
      plain_formed (f.And (where_formula schema query ∷ more ∷ []))
      (plain_and schema here (where_formula schema query ∷ more ∷ []) (where_plain, (plain_not schema here (not_distinct schema (scope schema query) a (scope schema query) b) pair, tt))) in
      let item_is : item_term schema query item ≡ a = ap (λ found. option_map_or (λ (i : Item). i.term) found term.Null) two.one_is in
      let other_is : item_term schema query other ≡ b = ap (λ found. option_map_or (λ (i : Item). i.term) found term.Null) two.other_is in
      subst (λ (t : Term). Formed schema [] (sentence_of (where_with schema query (alike t (item_term schema query other) ∷ [])))) (sym item_is)
      (subst (λ (t : Term). Formed schema [] (sentence_of (where_with schema query (alike a t ∷ [])))) (sym other_is) formed)

  -- ---- E3

  abbrev text_of : Term → Bool
  text_of t = is_text_term schema (scope schema query) t

  abbrev side_at : Term → Side
  side_at t = side_of schema (scope schema query) t

  number_differs : (t : Term) (v : ℤ) → IsColumn t → is_number_side schema here (side_at t) ≡ true → Plain schema here (differs_from_number schema query t v)
  number_differs t v is number =
      let nulls = is_null_formula schema (scope schema query) t in
      let less = le (side_at t) side.Zero (v -ℤ pos 1) in
      let greater = le side.Zero (side_at t) (neg_ℤ v -ℤ pos 1) in
      plain_or schema here (nulls ∷ less ∷ greater ∷ [])
      ((null_there t is).0, (le_plain schema here (side_at t) side.Zero (v -ℤ pos 1) number refl, (le_plain schema here side.Zero (side_at t) (neg_ℤ v -ℤ pos 1) refl number, tt)))

  text_differs : (t : Term) (text : List ℕ) → IsColumn t → is_text_side schema here (side_at t) ≡ true → Plain schema here (differs_from_text schema query t text)
  text_differs t text is at =
      let nulls = is_null_formula schema (scope schema query) t in
      let other = f.Atom (atom.TextNe (side_at t) (side.Text text)) in
      plain_or schema here (nulls ∷ other ∷ []) ((null_there t is).0, (differs_plain schema here (side_at t) (side.Text text) at refl, tt))

  with_where : (g : Formula) → Plain schema here g → Plain schema here (f.And (where_formula schema query ∷ g ∷ []))
  with_where g plain = plain_and schema here (where_formula schema query ∷ g ∷ []) (where_plain, (plain, tt))

  -- by whether the column is a text
  int_differs : (t : Term) (v : ℤ) → IsColumn t → (text : Bool) → is_side schema here text (side_at t) ≡ true →
      Plain schema here (if text then where_formula schema query else f.And (where_formula schema query ∷ differs_from_number schema query t v ∷ []))
  int_differs t v is true at = where_plain
  int_differs t v is false at = with_where (differs_from_number schema query t v) (number_differs t v is at)

  texts_differ : (t : Term) (given : List ℕ) → IsColumn t → (text : Bool) → is_side schema here text (side_at t) ≡ true →
      Plain schema here (if text then f.And (where_formula schema query ∷ differs_from_text schema query t given ∷ []) else where_formula schema query)
  texts_differ t given is true at = with_where (differs_from_text schema query t given) (text_differs t given is at)
  texts_differ t given is false at = where_plain

  value_differs : (t : Term) (given : Value) → IsColumn t → Plain schema here (differs_from schema query t given)
  value_differs t value.Null is = with_where (not_null_formula schema (scope schema query) t) (null_there t is).1
  value_differs t (value.Int v) is = int_differs t v is (text_of t) (side_there t is)
  value_differs t (value.Text text) is = texts_differ t text is (text_of t) (side_there t is)

  pub constant_formed : (item : ℕ) (given : Value) → is_asked schema query (Constant item) ≡ true →
      Formed schema [] (sentence_of (of_own schema query (differs_from schema query (item_term schema query item) given)))
  constant_formed item given asked =
      plain_formed (differs_from schema query (item_term schema query item) given)
      (value_differs (item_term schema query item) given (column_of item (slice_get query.items item) refl asked))
