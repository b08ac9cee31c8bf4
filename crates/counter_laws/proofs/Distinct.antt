-- A needless DISTINCT: the body of the counter sentence holds at the leading rows exactly where the two bindings made of
-- them refute the question loosely.
use Rattle.std.proofs.Common.{◌≡◌, ◌∙◌, ◌+◌, refl, sym, ap, ap₂, ℕ, ℤ, Bool, true, false, ◌&&◌, not, List, [], ◌∷◌, ◌++◌, length, take, drop, if◌then◌else◌, arith}
use Rattle.std.proofs.lemmas.Cmp.{int_eq_equiv, nat_list_eq_equiv}
use Rattle.std.proofs.lemmas.List.{length-append, length-drop, length-take-le, take-append-drop, take_all}
use Rattle.std.proofs.lemmas.List.Folds.{list_all-map}
use Rattle.std.specs.List.{list_all, filter}
use Rattle.std.specs.Prelude.{None}
use Rattle.lint_base.proofs.Lists.{and_true, both_left, both_right}
use Rattle.lint_core.specs.declared.condition.Cond.TheVariants as c
use Rattle.lint_core.specs.declared.condition.Term.{Term}
use Rattle.lint_core.specs.declared.condition.Term.TheVariants as term
use Rattle.lint_core.specs.declared.database.Binding.{Binding}
use Rattle.lint_core.specs.declared.database.Database.{Database}
use Rattle.lint_core.specs.declared.database.Value.{Value}
use Rattle.lint_core.specs.declared.database.Value.TheVariants as value
use Rattle.lint_core.specs.declared.query.Item.{Item}
use Rattle.lint_core.specs.declared.query.Query.{Query}
use Rattle.lint_core.specs.declared.query.Question.TheVariants.{NeedlessDistinct}
use Rattle.lint_core.specs.declared.schema.Table.{Table}
use Rattle.lint_core.specs.declared.scope.Scope.{Scope}
use Rattle.lint_core.specs.Asked.{main_condition, main_entries}
use Rattle.lint_core.specs.Comparison.{are_not_distinct}
use Rattle.lint_core.specs.Condition.{term_value}
use Rattle.lint_core.specs.Database.{Place}
use Rattle.lint_core.specs.Fits.{cond_fits, item_fits, term_fits, is_plain, query_fits, main_tables, tables_of}
use Rattle.lint_core.specs.Forms.{is_main_binding}
use Rattle.lint_core.specs.Meets.{is_of_domains}
use Rattle.lint_core.specs.Points.{are_rows, is_same_binding, are_same_rows}
use Rattle.lint_core.specs.Question.{are_same_items}
use Rattle.lint_core.specs.Subqueries.{is_column}
use Rattle.sort_formula.specs.CounterPoints.{differ_somewhere, main_binding, points_of}
use Rattle.sort_formula.specs.Counters.{counter, items_alike, not_distinct, one_scope, two_scope, some_other}
use Rattle.sort_formula.specs.Holds.{holds}
use Rattle.sort_formula.specs.Loose.{rows_at, refutes_loosely}
use Rattle.sort_formula.specs.Sides.{from_number, scope_of}
use Rattle.sort_formula.specs.Translation.{is_true_formula}
use Rattle.sort_formula.proofs.Holding.{holds_and}
use Rattle.formula_laws.proofs.LeadRows.{as_many, one_level_is, rows_fall}
use Rattle.truth_laws.proofs.Shapes.{main_fits}
use Rattle.counter_laws.specs.LeadingRows.{leading_rows}
use Rattle.counter_laws.proofs.Columns.{IsColumn, distinct_says}
use Rattle.counter_laws.proofs.Leading.{leading_is}
use Rattle.counter_laws.proofs.Levels.{lead_append}
use Rattle.counter_laws.proofs.Loosely.{all_three, both_known, truth_is}
use Rattle.counter_laws.proofs.Single.{items_fit}
use Rattle.counter_laws.proofs.Standing.{StandsForAll, term_here}
use Rattle.counter_laws.proofs.Twice.{OneMeaning, MoreFollow, differ_is}
use Rattle.counter_laws.proofs.Twice as twice

number_same : (n : ℤ) → are_not_distinct (value.Int n) (value.Int n) ≡ true
number_same n = truth_is _ ∙ int_eq_equiv.refl n

text_same : (text : List ℕ) → are_not_distinct (value.Text text) (value.Text text) ≡ true
text_same text = truth_is _ ∙ nat_list_eq_equiv.refl text

module _ (schema : List Table) (db : Database) (domains : is_of_domains schema db ≡ true) (alike : OneMeaning schema db) (follow : MoreFollow db)
    (query : Query) (fits : query_fits schema query ≡ true) (places : List ℕ) (are : are_rows db (tables_of (main_entries query) ++ tables_of (main_entries query)) places ≡ true) where
  abbrev own : List ℕ
  own = tables_of (main_entries query)

  abbrev count : ℕ
  count = length own

  abbrev inner : List ℕ
  inner = take count places

  abbrev more : List ℕ
  more = take count (drop count places)

  abbrev one : Binding
  one = main_binding query places

  abbrev two : Binding
  two = main_binding query (drop count places)

  abbrev rows : List Place
  rows = leading_rows (own ++ own) places

  abbrev first : Scope
  first = one_scope schema query

  abbrev second : Scope
  second = two_scope schema query

  long : length places ≡ count + count
  long = as_many db (own ++ own) places are ∙ length-append own own

  same : length inner ≡ count
  same = length-take-le count places (omega (arith, long))

  behind_long : length (drop count places) ≡ count
  behind_long = length-drop count places ∙ omega (arith, long)

  more_is : more ≡ drop count places
  more_is = take_all count (drop count places) (omega (arith, behind_long))

  also : length more ≡ count
  also = ap length more_is ∙ behind_long

  is_middle : 0 + count ≡ count
  is_middle = omega arith

  abbrev both_rows : List Place
  both_rows = twice.rows schema db alike follow [] own [] inner more refl same also count is_middle

  rows_are : rows ≡ both_rows
  rows_are =
      ap (leading_rows (own ++ own)) (sym (take-append-drop count places) ∙ ap (λ (b : List ℕ). inner ++ b) (sym more_is))
      ∙ (lead_append own own inner more same ∙ ap₂ (λ (a b : List Place). a ++ b) (leading_is own inner) (leading_is own more))

  stands_first : StandsForAll db first one.levels both_rows
  stands_first cond = twice.first_stands schema db alike follow [] own [] inner more refl same also count is_middle cond

  stands_second : StandsForAll db second two.levels both_rows
  stands_second cond = twice.second_stands schema db alike follow [] own [] inner more refl same also count is_middle cond

  -- ---- items

  abbrev test : Item → Bool
  test item = are_not_distinct (term_value db (own ∷ []) one.levels item.term) (term_value db (own ∷ []) two.levels item.term)

  abbrev says_so : Item → Bool
  says_so item = holds db (not_distinct schema first item.term second item.term) both_rows

  column_says : (item : Item) → item_fits schema (main_tables query) item ≡ true → is_column item.term ≡ true → says_so item ≡ test item
  column_says item fit column =
      let there = term_fits schema (main_tables query) item.term in
      let plain = is_plain item.term in
      let is : IsColumn schema db domains first one.levels both_rows item.term = record {
        column = column;
        plain = both_right there plain fit;
        fits = both_left there plain fit;
        stands = term_here db first one.levels both_rows schema domains stands_first item.term;
        lengths = (stands_first (c.And [])).variables;
      } in
      let is_too : IsColumn schema db domains second two.levels both_rows item.term = record {
        column = column;
        plain = both_right there plain fit;
        fits = both_left there plain fit;
        stands = term_here db second two.levels both_rows schema domains stands_second item.term;
        lengths = (stands_second (c.And [])).variables;
      } in
      distinct_says schema db domains both_rows first one.levels second two.levels item.term item.term is is_too refl

  -- what is no column has one value
  other_same : (t : Term) → is_column t ≡ false → are_not_distinct (term_value db (own ∷ []) one.levels t) (term_value db (own ∷ []) two.levels t) ≡ true
  other_same (term.Cell level entry column added) none = cc
  other_same (term.Number n unit) none = number_same n
  other_same (term.Text text) none = text_same text
  other_same term.Null none = refl

  abbrev columns : List Item → List Item
  columns items = filter (λ (i : Item). is_column i.term) items

  one_more : (item : Item) (items : List Item) → item_fits schema (main_tables query) item ≡ true → list_all says_so (columns items) ≡ list_all test items →
      (b : Bool) → is_column item.term ≡ b → list_all says_so (if b then item ∷ columns items else columns items) ≡ (test item && list_all test items)
  one_more item items fit rest true is = ap₂ (λ a b. a && b) (column_says item fit is) rest
  one_more item items fit rest false is = rest ∙ ap (λ b. b && list_all test items) (sym (other_same item.term is))

  items_say : (items : List Item) → list_all (item_fits schema (main_tables query)) items ≡ true → list_all says_so (columns items) ≡ list_all test items
  items_say [] fit = refl
  items_say (item ∷ items) fit =
      let here = item_fits schema (main_tables query) item in
      let rest = list_all (item_fits schema (main_tables query)) items in
      one_more item items (both_left here rest fit) (items_say items (both_right here rest fit)) (is_column item.term) refl

  items_are : list_all (λ g. holds db g rows) (items_alike schema query) ≡ are_same_items db query one two
  items_are =
      ap (λ (rows : List Place). list_all (λ g. holds db g rows) (items_alike schema query)) rows_are
      ∙ (list_all-map (λ g. holds db g both_rows) (λ (i : Item). not_distinct schema first i.term second i.term) (filter (λ (i : Item). is_column i.term) query.items)
      ∙ items_say query.items (items_fit schema db domains query fits))

  -- ---- the two rows

  main_fit : cond_fits schema (own ∷ []) (main_condition query) ≡ true
  main_fit = main_fits schema query fits

  abbrev at : List (List ℕ) → Bool
  at binding = holds db (is_true_formula schema (main_condition query) (scope_of (own ∷ []))) (rows_at (own ∷ []) binding)

  first_is : holds db (is_true_formula schema (main_condition query) first) rows ≡ at one.levels
  first_is =
      ap (holds db (is_true_formula schema (main_condition query) first)) rows_are
      ∙ twice.first_holds schema db alike follow [] own [] inner more refl same also count is_middle (main_condition query) main_fit

  second_is : holds db (is_true_formula schema (main_condition query) second) rows ≡ at two.levels
  second_is =
      ap (holds db (is_true_formula schema (main_condition query) second)) rows_are
      ∙ twice.second_holds schema db alike follow [] own [] inner more refl same also count is_middle (main_condition query) main_fit

  other_is : holds db (some_other (from_number 0 count) (from_number count count)) rows ≡ differ_somewhere inner more
  other_is =
      ap (holds db (some_other (from_number 0 count) (from_number count count))) rows_are
      ∙ twice.other_holds schema db alike follow [] own [] inner more refl same also count is_middle

  abbrev form : Bool
  form = is_main_binding db query one && is_main_binding db query two && not (is_same_binding one.levels two.levels)

  form_is : form ≡ differ_somewhere inner more
  form_is =
      let falls = rows_fall db own own places are in
      all_three (is_main_binding db query one) (is_main_binding db query two) (not (is_same_binding one.levels two.levels)) (differ_somewhere inner more)
      (one_level_is db own inner falls.0) (one_level_is db own more (ap (are_rows db own) more_is ∙ falls.1))
      (ap not (and_true (are_same_rows inner more)) ∙ differ_is inner more (same ∙ sym also))

  pub distinct_says_so : (given : Value) →
      holds db (counter schema query NeedlessDistinct given).body (leading_rows (counter schema query NeedlessDistinct given).lead places)
      ≡ refutes_loosely schema db query NeedlessDistinct given (points_of query NeedlessDistinct places None)
  distinct_says_so given =
      let other = some_other (from_number 0 count) (from_number count count) in
      holds_and db (is_true_formula schema (main_condition query) first ∷ is_true_formula schema (main_condition query) second ∷ other ∷ items_alike schema query) rows
      ∙ (ap₂ (λ a b. a && (b && (holds db other rows && list_all (λ g. holds db g rows) (items_alike schema query)))) first_is second_is
      ∙ (ap₂ (λ c d. at one.levels && (at two.levels && (c && d))) other_is items_are
      ∙ both_known form (differ_somewhere inner more) (at one.levels) (at two.levels) (are_same_items db query one two) form_is))
