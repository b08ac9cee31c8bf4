-- A scalar subquery that gives two rows: the body of the counter sentence holds at the leading rows exactly where the
-- points made of them refute the question loosely.
use Rattle.std.proofs.Common.{◌≡◌, ◌∙◌, ◌+◌, refl, sym, ap, ap₂, ℕ, Bool, true, false, ◌&&◌, List, [], ◌∷◌, ◌++◌, length, map, take, drop, if◌then◌else◌, inl, inr, take-add, arith}
use Rattle.std.proofs.lemmas.List.{append_assoc, length-append, length-drop, length-take-le, take-append-drop, take_all}
use Rattle.std.specs.Option.{option_map_or}
use Rattle.std.specs.Prelude.{Ok, Option, Some, None, slice_get}
use Rattle.lint_core.specs.declared.database.Binding.{Binding}
use Rattle.lint_core.specs.declared.database.Database.{Database}
use Rattle.lint_core.specs.declared.database.Points.TheVariants.{One, Two}
use Rattle.lint_core.specs.declared.database.Truth.{Truth}
use Rattle.lint_core.specs.declared.database.Truth.TheVariants.{False}
use Rattle.lint_core.specs.declared.database.Value.{Value}
use Rattle.lint_core.specs.declared.query.Query.{Query}
use Rattle.lint_core.specs.declared.query.Question.TheVariants.{OneRow}
use Rattle.lint_core.specs.declared.schema.Table.{Table}
use Rattle.lint_core.specs.declared.scope.Scope.{Scope}
use Rattle.lint_core.specs.Asked.{scalars_of}
use Rattle.lint_core.specs.Database.{Place}
use Rattle.lint_core.specs.Evaluation.{Evaluated}
use Rattle.lint_core.specs.Fits.{cond_fits}
use Rattle.lint_core.specs.Forms.{is_inner_binding}
use Rattle.lint_core.specs.Points.{are_rows, is_binding, differ_in_last_level}
use Rattle.lint_core.specs.Question.{all_true, is_known_true}
use Rattle.lint_core.specs.Subqueries.{Subquery}
use Rattle.sort_formula.specs.declared.formula.Formula.{Formula}
use Rattle.sort_formula.specs.CounterPoints.{binding_of, differ_somewhere, in_levels, points_of, second_binding}
use Rattle.sort_formula.specs.Counters.{counter, no_counter, two_rows, outer_levels, last_level, some_other}
use Rattle.sort_formula.specs.Counters as counters
use Rattle.sort_formula.specs.Holds.{holds}
use Rattle.sort_formula.specs.Loose.{by_formula, rows_at, refutes_loosely}
use Rattle.sort_formula.specs.Sides.{all_of, from_number, numbered_from, scope_of}
use Rattle.sort_formula.specs.Translation.{is_true_formula}
use Rattle.sort_formula.proofs.Holding.{holds_and, holds_or}
use Rattle.formula_laws.proofs.LeadRows.{as_many, binding_falls, last_is, rows_fall}
use Rattle.truth_laws.proofs.Quantified.{places_in}
use Rattle.counter_laws.specs.LeadingRows.{leading_rows}
use Rattle.counter_laws.proofs.Leading.{leading_is}
use Rattle.counter_laws.proofs.Levels.{apart, all_append, numbered_append, levels_append, taken, lead_append, differ_last, levels_long, binding_inside}
use Rattle.counter_laws.proofs.Loosely.{all_three, never_last, pair_known, unknown_in}
use Rattle.counter_laws.proofs.Twice.{OneMeaning, MoreFollow, differ_is}
use Rattle.counter_laws.proofs.Twice as twice

no_form : (a b c : Bool) → c ≡ false → (a && b && c) ≡ false
no_form a b c is = ap (λ c. a && b && c) is ∙ never (a && b)
  where
    never : (a : Bool) → (a && false) ≡ false
    never true = refl
    never false = refl

module _ (schema : List Table) (db : Database) (s : Subquery) (places : List ℕ) (are : are_rows db (all_of s.tables ++ last_level s.tables) places ≡ true) where
  abbrev outer : List (List ℕ)
  outer = outer_levels s.tables

  abbrev last : List ℕ
  last = last_level s.tables

  abbrev count : ℕ
  count = length last

  abbrev start : ℕ
  start = length (all_of outer)

  abbrev middle : ℕ
  middle = length (all_of s.tables)

  abbrev around : List (List ℕ)
  around = in_levels outer places

  abbrev inner : List ℕ
  inner = take count (drop start places)

  abbrev more : List ℕ
  more = take count (drop middle places)

  abbrev one : Binding
  one = binding_of s.tables places

  abbrev two : Binding
  two = second_binding s.tables places

  abbrev rows : List Place
  rows = leading_rows (all_of s.tables ++ last) places

  abbrev form : Bool
  form = is_binding db s.tables one.levels && is_binding db s.tables two.levels && differ_in_last_level one.levels two.levels

  abbrev loose : Binding → Evaluated Truth
  loose binding = by_formula schema db s.cond s.tables binding.levels

  -- the body, and that the points refute
  abbrev Says : Type 0
  Says = holds db (two_rows schema s).body rows ≡ is_known_true (if form then all_true (loose one ∷ loose two ∷ []) else Ok false)

  abbrev first_formula : Formula
  first_formula = is_true_formula schema s.cond (counters.deeper schema s (counters.first_scope schema s))

  abbrev second_formula : Formula
  second_formula = is_true_formula schema s.cond (counters.second_scope schema s)

  abbrev other_formula : Formula
  other_formula = some_other (last_level (counters.first_scope schema s).levels) (last_level (counters.second_scope schema s).levels)

  body_is : holds db (two_rows schema s).body rows ≡ (holds db first_formula rows && (holds db second_formula rows && (holds db other_formula rows && true)))
  body_is = holds_and db (first_formula ∷ second_formula ∷ other_formula ∷ []) rows

  -- a subquery without levels, of which there is none
  none_says : s.tables ≡ [] → Says
  none_says none =
      let seconds = last_level (counters.second_scope schema s).levels in
      let no_other : holds db other_formula rows ≡ false =
      ap (λ tables. holds db (some_other (last_level (numbered_from 0 tables)) seconds) rows) none ∙ holds_or db [] rows in
      let differs : differ_in_last_level one.levels two.levels ≡ false = ap (λ tables. differ_in_last_level (in_levels tables places) two.levels) none in
      body_is
      ∙ (ap (λ b. holds db first_formula rows && (holds db second_formula rows && (b && true))) no_other
      ∙ (never_last (holds db first_formula rows) (holds db second_formula rows)
      ∙ sym (unknown_in form (all_true (loose one ∷ loose two ∷ [])) (no_form (is_binding db s.tables one.levels) (is_binding db s.tables two.levels) (differ_in_last_level one.levels two.levels) differs))))

  module _ (alike : OneMeaning schema db) (follow : MoreFollow db) (fits : cond_fits schema s.tables s.cond ≡ true) (is : s.tables ≡ outer ++ last ∷ []) where
    all_is : all_of s.tables ≡ all_of outer ++ last
    all_is = ap all_of is ∙ all_append outer last

    is_middle : start + count ≡ middle
    is_middle = sym (ap length all_is ∙ length-append (all_of outer) last)

    long : length places ≡ middle + count
    long = as_many db (all_of s.tables ++ last) places are ∙ length-append (all_of s.tables) last

    shape : map length around ≡ map length outer
    shape = levels_long outer places (omega (arith, long, is_middle))

    same : length inner ≡ count
    same = length-take-le count (drop start places) (omega (arith, long, is_middle, length-drop start places))

    behind_long : length (drop middle places) ≡ count
    behind_long = length-drop middle places ∙ omega (arith, long)

    more_is : more ≡ drop middle places
    more_is = take_all count (drop middle places) (omega (arith, behind_long))

    also : length more ≡ count
    also = ap length more_is ∙ behind_long

    one_is : one.levels ≡ around ++ inner ∷ []
    one_is = ap (λ tables. in_levels tables places) is ∙ levels_append outer last places

    first_places : take middle places ≡ take start places ++ inner
    first_places = ap (λ n. take n places) (sym is_middle) ∙ take-add start count places

    places_are : places ≡ (take start places ++ inner) ++ more
    places_are = sym (take-append-drop middle places) ∙ ap₂ (λ (a b : List ℕ). a ++ b) first_places (sym more_is)

    start_long : length (take start places) ≡ start
    start_long = length-take-le start places (omega (arith, long, is_middle))

    rows_are : rows ≡ (rows_at outer around ++ places_in last inner) ++ places_in last more
    rows_are =
        let first = take start places in
        ap₂ (λ lead ps. leading_rows (lead ++ last) ps) all_is places_are
        ∙ (lead_append (all_of outer ++ last) last (first ++ inner) more (length-append first inner ∙ (ap₂ (λ m n. m + n) start_long same ∙ sym (length-append (all_of outer) last)))
        ∙ ap₂ (λ (a b : List Place). a ++ b)
        (lead_append (all_of outer) last first inner start_long
        ∙ ap₂ (λ (a b : List Place). a ++ b) (ap (leading_rows (all_of outer)) (sym (taken outer places))) (leading_is last inner))
        (leading_is last more))

    first_levels : numbered_from 0 s.tables ≡ numbered_from 0 outer ++ from_number start count ∷ []
    first_levels =
        ap (numbered_from 0) is
        ∙ (numbered_append 0 outer last ∙ ap (λ n. numbered_from 0 outer ++ from_number n count ∷ []) (omega arith))

    fits_too : cond_fits schema (outer ++ last ∷ []) s.cond ≡ true
    fits_too = ap (λ tables. cond_fits schema tables s.cond) (sym is) ∙ fits

    -- the loose truth at a binding
    abbrev at : List (List ℕ) → List (List ℕ) → Bool
    at tables binding = holds db (is_true_formula schema s.cond (scope_of tables)) (rows_at tables binding)

    abbrev scope_with : List (List ℕ) → List (List ℕ) → Scope
    scope_with levels tables = record { levels = levels; tables = tables; depth = middle + count }

    first_is : holds db first_formula rows ≡ at s.tables one.levels
    first_is =
        ap₂ (λ (scope : Scope) (rows : List Place). holds db (is_true_formula schema s.cond scope) rows) (ap₂ scope_with first_levels is) rows_are
        ∙ (twice.first_holds schema db alike follow outer last around inner more shape same also middle is_middle s.cond fits_too
        ∙ ap₂ at (sym is) (sym one_is))

    second_is : holds db second_formula rows ≡ at s.tables two.levels
    second_is =
        ap₂ (λ (scope : Scope) (rows : List Place). holds db (is_true_formula schema s.cond scope) rows)
        (ap (scope_with (numbered_from 0 outer ++ from_number middle count ∷ [])) is) rows_are
        ∙ (twice.second_holds schema db alike follow outer last around inner more shape same also middle is_middle s.cond fits_too
        ∙ ap (λ tables. at tables two.levels) (sym is))

    other_is : holds db other_formula rows ≡ differ_somewhere inner more
    other_is =
        ap₂ (λ (g : Formula) (rows : List Place). holds db g rows)
        (ap₂ some_other (ap last_level first_levels ∙ last_is (numbered_from 0 outer) (from_number start count)) (last_is (numbered_from 0 outer) (from_number middle count))) rows_are
        ∙ twice.other_holds schema db alike follow outer last around inner more shape same also middle is_middle

    form_is : form ≡ differ_somewhere inner more
    form_is =
        let falls = rows_fall db (all_of s.tables) last places are in
        let behind : are_rows db last more ≡ true = ap (are_rows db last) more_is ∙ falls.1 in
        let whole : are_rows db (all_of outer ++ (last ++ last)) places ≡ true =
        ap (λ lead. are_rows db lead places) (sym (ap (λ lead. lead ++ last) all_is ∙ append_assoc (all_of outer) last last)) ∙ are in
        let outside : is_binding db outer around ≡ true = binding_falls db outer (last ++ last) places whole in
        all_three (is_binding db s.tables one.levels) (is_binding db s.tables two.levels) (differ_in_last_level one.levels two.levels) (differ_somewhere inner more)
        (binding_falls db s.tables last places are)
        (ap (λ tables. is_binding db tables two.levels) is ∙ binding_inside db outer around last more outside behind)
        (ap (λ levels. differ_in_last_level levels two.levels) one_is ∙ (differ_last around inner more ∙ differ_is inner more (same ∙ sym also)))

    some_says : Says
    some_says =
        body_is
        ∙ (ap₂ (λ a b. a && (b && (holds db other_formula rows && true))) first_is second_is
        ∙ (ap (λ c. at s.tables one.levels && (at s.tables two.levels && (c && true))) other_is
        ∙ pair_known form (differ_somewhere inner more) (at s.tables one.levels) (at s.tables two.levels) form_is))

  says : OneMeaning schema db → MoreFollow db → cond_fits schema s.tables s.cond ≡ true → Says
  says alike follow fits =
      elim (apart s.tables) [
        | inl none ↦ none_says none
        | inr is ↦ some_says alike follow fits is
      ]

module _ (schema : List Table) (db : Database) (alike : OneMeaning schema db) (follow : MoreFollow db)
    (query : Query) (given : Value) (sub : ℕ) (s : Subquery) (at : slice_get (scalars_of query) sub ≡ Some s) (fits : cond_fits schema s.tables s.cond ≡ true) (places : List ℕ) where
  abbrev at_points : Option Subquery → Bool
  at_points o =
      is_known_true
      (if option_map_or (λ t. is_inner_binding db query (binding_of s.tables places) t && is_inner_binding db query (second_binding s.tables places) t
      && differ_in_last_level (binding_of s.tables places).levels (second_binding s.tables places).levels) o false
      then all_true (
      option_map_or (λ (t : Subquery). by_formula schema db t.cond t.tables (binding_of s.tables places).levels) o (Ok False)
      ∷ option_map_or (λ (t : Subquery). by_formula schema db t.cond t.tables (second_binding s.tables places).levels) o (Ok False) ∷ []
      )
      else Ok false)

  pub one_row_says : are_rows db (counter schema query (OneRow sub) given).lead places ≡ true →
      holds db (counter schema query (OneRow sub) given).body (leading_rows (counter schema query (OneRow sub) given).lead places)
      ≡ refutes_loosely schema db query (OneRow sub) given (points_of query (OneRow sub) places None)
  one_row_says lead =
      let are : are_rows db (all_of s.tables ++ last_level s.tables) places ≡ true = sym (ap (λ o. are_rows db (option_map_or (two_rows schema) o no_counter).lead places) at) ∙ lead in
      ap (λ o. holds db (option_map_or (two_rows schema) o no_counter).body (leading_rows (option_map_or (two_rows schema) o no_counter).lead places)) at
      ∙ (says schema db s places are alike follow fits
      ∙ (sym (ap at_points at)
      ∙ sym (ap (λ o. refutes_loosely schema db query (OneRow sub) given
      (option_map_or (λ (t : Subquery). Two (binding_of t.tables places) (second_binding t.tables places)) o (One (binding_of [] places)))) at)))
