-- The counter sentences of a query with small numbers, for a small value, have bounds from -2^64 to 2^64 - 1.
use Rattle.std.proofs.Common.{◌≡◌, ◌∙◌, ◌+◌, ◌-◌, ◌^◌, refl, ℕ, ℤ, pos, neg_ℤ, ◌-ℤ◌, Bool, true, false, not, List, [], ◌∷◌, ◌++◌, map, arith, if◌then◌else◌}
use Rattle.std.proofs.lemmas.Int.{ints}
use Rattle.std.specs.List.{AllByRecursion, filter, list_all, zip}
use Rattle.std.specs.Option.{option_map_or}
use Rattle.std.specs.Prelude.{Option, None, Some, slice_get}
use Rattle.lint_base.proofs.Lists.{both_left, both_right, every_append, every_at}
use Rattle.lint_core.specs.declared.condition.Cond.{Cond}
use Rattle.lint_core.specs.declared.condition.Cond.TheVariants as cond
use Rattle.lint_core.specs.declared.condition.Term.{Term}
use Rattle.lint_core.specs.declared.database.Value.{Value}
use Rattle.lint_core.specs.declared.database.Value.TheVariants as value
use Rattle.lint_core.specs.declared.query.Item.{Item}
use Rattle.lint_core.specs.declared.query.Query.{Query}
use Rattle.lint_core.specs.declared.query.Question.{Question}
use Rattle.lint_core.specs.declared.query.Question.TheVariants.{OneRow, Empty, NeedlessDistinct, Constant, Duplicate, NeedlessJoin, Implied, Impossible, SameRow, NullInNotIn}
use Rattle.lint_core.specs.declared.schema.Table.{Table}
use Rattle.lint_core.specs.declared.scope.Scope.{Scope}
use Rattle.lint_core.specs.Asked.{conjuncts_without, main_condition, not_ins_of, scalars_of}
use Rattle.lint_core.specs.Conjuncts.{conjuncts}
use Rattle.lint_core.specs.Domain.{int_le}
use Rattle.lint_core.specs.Fits.{main_tables}
use Rattle.lint_core.specs.Naming.{names}
use Rattle.lint_core.specs.Predicates.{with_replaced}
use Rattle.lint_core.specs.Subqueries.{Subquery, is_column}
use Rattle.sort_formula.specs.declared.formula.Atom.TheVariants as atom
use Rattle.sort_formula.specs.declared.formula.Formula.{Formula}
use Rattle.sort_formula.specs.declared.formula.Formula.TheVariants as f
use Rattle.sort_formula.specs.declared.formula.Side.{Side}
use Rattle.sort_formula.specs.declared.formula.Side.TheVariants as side
use Rattle.sort_formula.specs.Cells.{equal_cells, le}
use Rattle.sort_formula.specs.Counters.{CounterParts, count, counter_sentence, deeper, differs_from, differs_from_number, differs_from_text, distinct_counter, first_scope, fits_at, item_term, join_counter, join_scope, last_level, no_counter, none_or_two, not_distinct, one_scope, own, replaced_counter, scope, second_scope, selects_null, sentence_of, some_other, table_of_entry, two_rows, two_scope, where_formula}
use Rattle.sort_formula.specs.Negated.{negated}
use Rattle.sort_formula.specs.Sides.{from_number, is_null_formula, is_text_term, not_null_formula, side_of}
use Rattle.sort_formula.specs.Translation.{is_true_formula}
use Rattle.truth_laws.proofs.Atoms.{all_atoms, atoms_and, atoms_atom, atoms_exists, atoms_forall, atoms_or, exist_atoms}
use Rattle.truth_laws.proofs.Bound.{negated_in_range}
use Rattle.truth_laws.proofs.Fitting.{both_are}
use Rattle.counter_forms.specs.SmallNumbers.{has_small_numbers, is_small, value_is_small}
use Rattle.counter_forms.proofs.Elements.{every_filtered}
use Rattle.counter_forms.proofs.Ranges.{InRange, condition_in_range, in_range, null_in_range}
use Rattle.counter_forms.proofs.SmallLayers.{small_false, small_true}
use Rattle.counter_forms.proofs.SmallParts.{Small, SmallInside, conjuncts_small, small_inside, still_small}

-- ---- formulas by their parts

each_in : (parts : List Formula) → AllByRecursion InRange parts → list_all (all_atoms in_range) parts ≡ true
each_in [] each = refl
each_in (g ∷ gs) each = both_are (all_atoms in_range g) (list_all (all_atoms in_range) gs) each.0 (each_in gs each.1)

and_in : (parts : List Formula) → AllByRecursion InRange parts → InRange (f.And parts)
and_in parts each = atoms_and in_range parts ∙ each_in parts each

or_in : (parts : List Formula) → AllByRecursion InRange parts → InRange (f.Or parts)
or_in parts each = atoms_or in_range parts ∙ each_in parts each

not_in : (g : Formula) → InRange g → InRange (negated g)
not_in = negated_in_range (2 ^ 64 - 1)

either_in : (b : Bool) (g h : Formula) → InRange g → InRange h → InRange (if b then g else h)
either_in true g h first second = first
either_in false g h first second = second

sentence_in : (parts : CounterParts) → InRange parts.body → InRange (sentence_of parts)
sentence_in parts body = exist_atoms in_range parts.lead parts.body ∙ body

other_in : (row other : ℕ) → InRange (f.Atom (atom.Other row other))
other_in row other = atoms_atom in_range (atom.Other row other)

others_in : (pairs : List (ℕ × ℕ)) → AllByRecursion InRange (map (λ (pair : ℕ × ℕ). f.Atom (atom.Other pair.0 pair.1)) pairs)
others_in [] = tt
others_in (pair ∷ pairs) = (other_in pair.0 pair.1, others_in pairs)

some_other_in : (rows others : List ℕ) → InRange (some_other rows others)
some_other_in rows others = or_in (map (λ (pair : ℕ × ℕ). f.Atom (atom.Other pair.0 pair.1)) (zip rows others)) (others_in (zip rows others))

equal_in : (text : Bool) (x y : Side) → AllByRecursion InRange (equal_cells text x y)
equal_in true x y = (atoms_atom in_range (atom.TextEq x y), tt)
equal_in false x y = (and_in (le x y (pos 0) ∷ le y x (pos 0) ∷ []) (atoms_atom in_range (atom.Le x y (pos 0)), (atoms_atom in_range (atom.Le y x (pos 0)), tt)), tt)

-- ---- the value of E3

less_high : (half : ℕ) (v : ℤ) → int_le v (pos half) ≡ true → int_le (v -ℤ pos 1) (pos (half + half + 1)) ≡ true
less_high half v high = grind (arith, ints)

more_low : (half : ℕ) (v : ℤ) → int_le v (pos half) ≡ true → int_le (neg_ℤ (pos (half + half + 2))) (neg_ℤ v -ℤ pos 1) ≡ true
more_low half v high = grind (arith, ints)

more_high : (half less_half : ℕ) (v : ℤ) → half ≡ less_half + 1 → int_le (neg_ℤ (pos half)) v ≡ true → int_le (neg_ℤ v -ℤ pos 1) (pos (less_half + less_half + 1)) ≡ true
more_high half less_half v same low = grind (arith, ints)

value_low : (half less_half : ℕ) (v : ℤ) → half ≡ less_half + 1 → int_le (neg_ℤ (pos half)) v ≡ true → int_le (neg_ℤ (pos (less_half + less_half + 2))) (v -ℤ pos 1) ≡ true
value_low half less_half v same low = grind (arith, ints)

module _ (schema : List Table) where
  not_distinct_in : (one : Scope) (a : Term) (other : Scope) (b : Term) → InRange (not_distinct schema one a other b)
  not_distinct_in one a other b =
      let nulls = is_null_formula schema one a ∷ is_null_formula schema other b ∷ [] in
      let equal = equal_cells (is_text_term schema one a) (side_of schema one a) (side_of schema other b) in
      or_in (f.And nulls ∷ equal)
      (and_in nulls ((null_in_range schema one a).0, ((null_in_range schema other b).0, tt)), equal_in (is_text_term schema one a) (side_of schema one a) (side_of schema other b))

  condition_in : (cond : Cond) → Small cond → (scope : Scope) → InRange (is_true_formula schema cond scope)
  condition_in cond small scope = (condition_in_range schema cond small scope).0

  -- ---- subqueries

  rows_in : (sub : Subquery) → Small sub.cond → InRange (sentence_of (two_rows schema sub))
  rows_in sub small =
      sentence_in (two_rows schema sub)
      (and_in _ (
        condition_in sub.cond small (deeper schema sub (first_scope schema sub)),
        (
          condition_in sub.cond small (second_scope schema sub),
          (some_other_in (last_level (first_scope schema sub).levels) (last_level (second_scope schema sub).levels), tt),
        ),
      ))

  selected_in : (sub : Subquery) → Small sub.cond → InRange (sentence_of (selects_null schema sub))
  selected_in sub small =
      sentence_in (selects_null schema sub)
      (and_in _ (condition_in sub.cond small (first_scope schema sub), ((null_in_range schema (first_scope schema sub) sub.item).0, tt)))

  none_in : InRange (sentence_of no_counter)
  none_in = or_in [] tt

  module _ (query : Query) (small : Small (main_condition query)) where
    scalar_in : (number : ℕ) (found : Option Subquery) → slice_get (scalars_of query) number ≡ found → InRange (sentence_of (option_map_or (two_rows schema) found no_counter))
    scalar_in number None at = none_in
    scalar_in number (Some sub) at = rows_in sub (every_at SmallInside (scalars_of query) number sub (small_inside (main_condition query) small (main_tables query)).0 at)

    not_in_in : (number : ℕ) (found : Option Subquery) → slice_get (not_ins_of query) number ≡ found → InRange (sentence_of (option_map_or (selects_null schema) found no_counter))
    not_in_in number None at = none_in
    not_in_in number (Some sub) at = selected_in sub (every_at SmallInside (not_ins_of query) number sub (small_inside (main_condition query) small (main_tables query)).1 at)

    -- ---- one row of each entry

    where_in : InRange (where_formula schema query)
    where_in = condition_in (main_condition query) small (scope schema query)

    with_where : (g : Formula) → InRange g → InRange (f.And (where_formula schema query ∷ g ∷ []))
    with_where g in_g = and_in (where_formula schema query ∷ g ∷ []) (where_in, (in_g, tt))

    replaced_in : (by : Cond) (predicate : ℕ) → Small by → InRange (sentence_of (replaced_counter schema query (with_replaced by predicate (main_condition query))))
    replaced_in by predicate by_small =
        let replaced = with_replaced by predicate (main_condition query) in
        let here = where_formula schema query in
        let other = is_true_formula schema replaced (scope schema query) in
        let other_is = condition_in replaced (still_small by by_small (main_condition query) small predicate) (scope schema query) in
        sentence_in (replaced_counter schema query replaced)
        (or_in _ (
          and_in (here ∷ negated other ∷ []) (where_in, (not_in other other_is, tt)),
          (and_in (other ∷ negated here ∷ []) (other_is, (not_in here where_in, tt)), tt),
        ))

    -- ---- E3

    number_in : (t : Term) (v : ℤ) → is_small v ≡ true → InRange (differs_from_number schema query t v)
    number_in t v within =
        let at = side_of schema (scope schema query) t in
        let low = int_le (neg_ℤ (pos (2 ^ 63))) v in
        let high = int_le v (pos (2 ^ 63 - 1)) in
        let above = both_left low high within in
        let under = both_right low high within in
        let less = v -ℤ pos 1 in
        let more = neg_ℤ v -ℤ pos 1 in
        or_in (is_null_formula schema (scope schema query) t ∷ le at side.Zero less ∷ le side.Zero at more ∷ []) (
          (null_in_range schema (scope schema query) t).0,
          (
            atoms_atom in_range (atom.Le at side.Zero less)
                ∙ both_are (int_le (neg_ℤ (pos (2 ^ 64))) less) (int_le less (pos (2 ^ 64 - 1))) (value_low (2 ^ 63) (2 ^ 63 - 1) v refl above) (less_high (2 ^ 63 - 1) v under),
            (
              atoms_atom in_range (atom.Le side.Zero at more)
                  ∙ both_are (int_le (neg_ℤ (pos (2 ^ 64))) more) (int_le more (pos (2 ^ 64 - 1))) (more_low (2 ^ 63 - 1) v under) (more_high (2 ^ 63) (2 ^ 63 - 1) v refl above),
              tt,
            ),
          ),
        )

    text_in : (t : Term) (text : List ℕ) → InRange (differs_from_text schema query t text)
    text_in t text =
        let at = side_of schema (scope schema query) t in
        or_in (is_null_formula schema (scope schema query) t ∷ f.Atom (atom.TextNe at (side.Text text)) ∷ [])
        ((null_in_range schema (scope schema query) t).0, (atoms_atom in_range (atom.TextNe at (side.Text text)), tt))

    value_in : (t : Term) (given : Value) → value_is_small given ≡ true → InRange (differs_from schema query t given)
    value_in t value.Null within = with_where (not_null_formula schema (scope schema query) t) (null_in_range schema (scope schema query) t).1
    value_in t (value.Int v) within =
        either_in (is_text_term schema (scope schema query) t) (where_formula schema query) (f.And (where_formula schema query ∷ differs_from_number schema query t v ∷ [])) where_in
        (with_where (differs_from_number schema query t v) (number_in t v within))
    value_in t (value.Text text) within =
        either_in (is_text_term schema (scope schema query) t) (f.And (where_formula schema query ∷ differs_from_text schema query t text ∷ [])) (where_formula schema query)
        (with_where (differs_from_text schema query t text) (text_in t text)) where_in

    -- ---- E2

    abbrev alike : Item → Formula
    alike item = not_distinct schema (one_scope schema query) item.term (two_scope schema query) item.term

    each_alike : (items : List Item) → AllByRecursion InRange (map alike items)
    each_alike [] = tt
    each_alike (item ∷ items) = (not_distinct_in (one_scope schema query) item.term (two_scope schema query) item.term, each_alike items)

    distinct_in : InRange (sentence_of (distinct_counter schema query))
    distinct_in =
        let n = count schema query in
        let whole = main_condition query in
        sentence_in (distinct_counter schema query)
        (and_in _ (
          condition_in whole small (one_scope schema query),
          (
            condition_in whole small (two_scope schema query),
            (some_other_in (from_number 0 n) (from_number n n), each_alike (filter (λ (item : Item). is_column item.term) query.items)),
          ),
        ))

    -- ---- E5

    chosen_in : (chosen : Cond → Bool) (s : Scope) → AllByRecursion InRange (map (λ c. is_true_formula schema c s) (filter chosen (conjuncts (main_condition query))))
    chosen_in chosen s =
        every_filtered has_small_numbers chosen (λ c. is_true_formula schema c s) InRange (λ c here is. condition_in c here s) (conjuncts (main_condition query)) (conjuncts_small (main_condition query) small)

    module _ (entry : ℕ) where
      fits_in : (variable depth : ℕ) → InRange (fits_at schema query entry variable depth)
      fits_in variable depth = and_in _ (chosen_in (names entry) (join_scope schema query entry variable depth))

      none_or_two_in : InRange (none_or_two schema query entry)
      none_or_two_in =
          let n = count schema query in
          let table = table_of_entry schema query entry in
          let fitting = fits_at schema query entry (n - 1) n in
          let two = f.And (fits_at schema query entry (n - 1) (n + 1) ∷ fits_at schema query entry n (n + 1) ∷ f.Atom (atom.Other (n - 1) n) ∷ []) in
          or_in (f.Forall table (negated fitting) ∷ f.Exists table (f.Exists table two) ∷ []) (
            atoms_forall in_range table (negated fitting) ∙ not_in fitting (fits_in (n - 1) n),
            (
              atoms_exists in_range table (f.Exists table two)
                  ∙ (atoms_exists in_range table two ∙ and_in _ (fits_in (n - 1) (n + 1), (fits_in n (n + 1), (other_in (n - 1) n, tt)))),
              tt,
            ),
          )

      join_in : InRange (sentence_of (join_counter schema query entry))
      join_in =
          let s = join_scope schema query entry 0 (count schema query - 1) in
          let without = map (λ c. is_true_formula schema c s) (conjuncts_without entry query) in
          sentence_in (join_counter schema query entry)
          (and_in (without ++ none_or_two schema query entry ∷ [])
          (every_append InRange without (none_or_two schema query entry ∷ []) (chosen_in (λ c. not (names entry c)) s) (none_or_two_in, tt)))

    -- ---- all questions

    pub counter_in_range : (question : Question) (given : Value) → value_is_small given ≡ true → InRange (counter_sentence schema query question given)
    counter_in_range (OneRow sub) given within = scalar_in sub (slice_get (scalars_of query) sub) refl
    counter_in_range Empty given within = exist_atoms in_range (own schema query) (where_formula schema query) ∙ where_in
    counter_in_range NeedlessDistinct given within = distinct_in
    counter_in_range (Constant item) given within =
        exist_atoms in_range (own schema query) (differs_from schema query (item_term schema query item) given) ∙ value_in (item_term schema query item) given within
    counter_in_range (Duplicate item other) given within =
        let alike = not_distinct schema (scope schema query) (item_term schema query item) (scope schema query) (item_term schema query other) in
        exist_atoms in_range (own schema query) (f.And (where_formula schema query ∷ negated alike ∷ []))
        ∙ with_where (negated alike) (not_in alike (not_distinct_in (scope schema query) (item_term schema query item) (scope schema query) (item_term schema query other)))
    counter_in_range (NeedlessJoin entry) given within = join_in entry
    counter_in_range (Implied predicate) given within = replaced_in cond.True predicate small_true
    counter_in_range (Impossible predicate) given within = replaced_in cond.False predicate small_false
    counter_in_range (SameRow entry other) given within =
        exist_atoms in_range (own schema query) (f.And (where_formula schema query ∷ f.Atom (atom.Other entry other) ∷ []))
        ∙ with_where (f.Atom (atom.Other entry other)) (other_in entry other)
    counter_in_range (NullInNotIn sub) given within = not_in_in sub (slice_get (not_ins_of query) sub) refl
