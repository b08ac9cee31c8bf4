-- The two parts of the counter sentence of a needless join, and the points that refute it loosely.
use Rattle.std.proofs.Common.{◌≡◌, ◌∙◌, ◌<◌, ◌≤◌, ◌+◌, ◌-◌, refl, sym, ap, ap₂, ℕ, Bool, true, false, ◌&&◌, ◌||◌, not, List, [], ◌∷◌, ◌++◌, length, map, nat_eq, nat_lt, take, arith}
use Rattle.std.proofs.lemmas.Bool.Decides.{nat_tests}
use Rattle.std.proofs.lemmas.List.{append_assoc, length-append, take_all}
use Rattle.std.proofs.lemmas.List.Edits.{length-remove}
use Rattle.std.proofs.lemmas.List.Folds.{list_all-append, list_all-map}
use Rattle.std.specs.List.{list_all, list_any}
use Rattle.std.specs.Prelude.{Ok, Option, Some, None, slice_get, unwrap_or, insert, remove}
use Rattle.lint_base.proofs.Lists.{all_alike, any_map, get_behind, slice_get_last, both_left, both_right}
use Rattle.lint_core.specs.declared.condition.Cond.{Cond}
use Rattle.lint_core.specs.declared.database.Binding.{Binding}
use Rattle.lint_core.specs.declared.database.Database.{Database}
use Rattle.lint_core.specs.declared.database.Value.{Value}
use Rattle.lint_core.specs.declared.query.Query.{Query}
use Rattle.lint_core.specs.declared.query.Question.TheVariants.{NeedlessJoin}
use Rattle.lint_core.specs.declared.schema.Table.{Table}
use Rattle.lint_core.specs.Asked.{main_condition, main_entries, conjuncts_with, conjuncts_without}
use Rattle.lint_core.specs.Conjuncts.{conjuncts}
use Rattle.lint_core.specs.Database.{Place, below, rows_of}
use Rattle.lint_core.specs.Evaluation.{map_ok, all_ok, all_hold}
use Rattle.lint_core.specs.Fits.{query_fits, main_tables, tables_of}
use Rattle.lint_core.specs.Forms.{is_main_binding, is_binding_without}
use Rattle.lint_core.specs.Meets.{is_of_domains}
use Rattle.lint_core.specs.Naming.{names}
use Rattle.lint_core.specs.Points.{are_rows, are_same_rows, differ_in_entry}
use Rattle.lint_core.specs.Question.{are_true_by, no_row_by, is_known_true, all_true, table_of}
use Rattle.sort_formula.specs.declared.formula.Atom.TheVariants as atom
use Rattle.sort_formula.specs.declared.formula.Formula.{Formula}
use Rattle.sort_formula.specs.declared.formula.Formula.TheVariants as f
use Rattle.sort_formula.specs.CounterPoints.{are_there, joined_binding, others_binding, points_of}
use Rattle.sort_formula.specs.Counters.{counter, fits_at, none_or_two}
use Rattle.sort_formula.specs.Holds.{holds, is_same_place}
use Rattle.sort_formula.specs.Loose.{by_formula, rows_at, refutes_loosely}
use Rattle.sort_formula.specs.Negated.{negated}
use Rattle.sort_formula.specs.Sides.{scope_of}
use Rattle.sort_formula.specs.Translation.{is_true_formula}
use Rattle.sort_formula.proofs.Holding.{holds_atom, holds_and, holds_or, holds_exists, holds_forall}
use Rattle.formula_laws.proofs.LeadRows.{as_many, one_level, one_level_is, removed, same_as_itself, with_one}
use Rattle.truth_laws.proofs.Quantified.{place_in}
use Rattle.counter_laws.specs.Joins.{without_formulas, no_row_formula, both_fit, two_rows_formula, no_row_body, two_rows_body}
use Rattle.counter_laws.specs.LeadingRows.{leading_rows}
use Rattle.counter_laws.proofs.Back.{table_is}
use Rattle.counter_laws.proofs.Entries.{same_inserted, all_divided, none_of, all_known, truths_known}
use Rattle.counter_laws.proofs.Exists.{some_place, one_place}
use Rattle.counter_laws.proofs.Join.{at_row, rows_long, without_same, outside_hold, fits_row, without_says, fits_says, misfits_says}
use Rattle.counter_laws.proofs.Loosely.{known_in, pair_known}
use Rattle.counter_laws.proofs.Twice.{OneMeaning, same_itself}

-- the formula of a condition holds where those of its conjuncts do
abbrev pub Divides : List Table → Database → Type 0
Divides schema db = (cond : Cond) (tables : List (List ℕ)) (rows : List Place) →
    holds db (is_true_formula schema cond (scope_of tables)) rows ≡ list_all (λ c. holds db (is_true_formula schema c (scope_of tables)) rows) (conjuncts cond)

rearranged : (w x y d : Bool) → ((w && x) && ((w && y) && (d && true))) ≡ (w && (x && (y && (d && true))))
rearranged true x y d = refl
rearranged false x y d = refl

all_four : (a b c d e : Bool) → a ≡ true → b ≡ true → c ≡ true → d ≡ e → (a && b && (c && d)) ≡ e
all_four a b c d e first second third is = ap₂ (λ a b. a && b && (c && d)) first second ∙ (ap (λ c. c && d) third ∙ is)

module _ (schema : List Table) (db : Database) (domains : is_of_domains schema db ≡ true) (alike : OneMeaning schema db) (divides : Divides schema db)
    (query : Query) (fits : query_fits schema query ≡ true) (entry : ℕ) (low : entry < length (tables_of (main_entries query)))
    (places : List ℕ) (are : are_rows db (remove (tables_of (main_entries query)) entry) places ≡ true) where
  abbrev own : List ℕ
  own = tables_of (main_entries query)

  abbrev others : List ℕ
  others = remove own entry

  abbrev count : ℕ
  count = length own

  abbrev table : ℕ
  table = unwrap_or (slice_get own entry) 0

  abbrev rows : List Place
  rows = leading_rows others places

  abbrev many : ℕ
  many = length (rows_of db table)

  abbrev at : ℕ → Cond → Bool
  at = at_row schema db domains alike query fits entry low places are

  abbrev fit : ℕ → Bool
  fit = fits_row schema db domains alike query fits entry low places are

  abbrev outside : Bool
  outside = outside_hold schema db domains alike query fits entry low places are

  long : length rows ≡ count - 1
  long = rows_long schema db domains alike query fits entry low places are

  -- ---- the formulas

  -- the conjuncts without the entry, and one formula more
  and_more : (g : Formula) → holds db (f.And (without_formulas schema query entry ++ g ∷ [])) rows ≡ (outside && (holds db g rows && true))
  and_more g =
      holds_and db (without_formulas schema query entry ++ g ∷ []) rows
      ∙ (list_all-append (λ g. holds db g rows) (without_formulas schema query entry) (g ∷ [])
      ∙ ap (λ b. b && (holds db g rows && true)) (without_says schema db domains alike query fits entry low places are))

  misfit_at : (row : ℕ) → holds db (negated (fits_at schema query entry (count - 1) count)) (rows ++ place_in table row ∷ []) ≡ not (fit row)
  misfit_at row =
      misfits_says schema db domains alike query fits entry low places are (count - 1) count row (place_in table row ∷ [])
      (length-append rows (place_in table row ∷ []) ∙ (ap (λ n. n + 1) long ∙ omega (arith, low)))
      (ap (slice_get (rows ++ place_in table row ∷ [])) (sym long) ∙ slice_get_last rows (place_in table row))

  no_row_says : holds db (no_row_formula schema query entry) rows ≡ not (list_any fit (below many))
  no_row_says =
      let body = negated (fits_at schema query entry (count - 1) count) in
      holds_forall db table body rows
      ∙ (list_all-map (λ place. holds db body (rows ++ place ∷ [])) (place_in table) (below many)
      ∙ (all_alike (λ row. not (fit row)) (λ row. holds db body (rows ++ place_in table row ∷ [])) misfit_at (below many)
      ∙ none_of fit (below many)))

  -- two rows of the entry fit
  abbrev two_fit : ℕ → ℕ → Bool
  two_fit x y = fit x && (fit y && (not (nat_eq x y) && true))

  abbrev two_body : Formula
  two_body = both_fit schema query entry

  module _ (x y : ℕ) where
    abbrev more : List Place
    more = place_in table x ∷ place_in table y ∷ []

    more_long : length (rows ++ more) ≡ count + 1
    more_long = length-append rows more ∙ (ap (λ n. n + 2) long ∙ omega (arith, low))

    first_here : slice_get (rows ++ more) (count - 1) ≡ Some (place_in table x)
    first_here = ap (slice_get (rows ++ more)) (omega (arith, long)) ∙ get_behind rows more 0

    second_here : slice_get (rows ++ more) count ≡ Some (place_in table y)
    second_here = ap (slice_get (rows ++ more)) (omega (arith, long, low)) ∙ get_behind rows more 1

    other_is : holds db (f.Atom (atom.Other (count - 1) count)) (rows ++ more) ≡ not (nat_eq x y)
    other_is =
        holds_atom db (atom.Other (count - 1) count) (rows ++ more)
        ∙ ap not (ap₂ is_same_place first_here second_here ∙ ap (λ b. b && nat_eq x y) (same_itself table))

    these_say : holds db two_body (rows ++ more) ≡ two_fit x y
    these_say =
        let one = fits_at schema query entry (count - 1) (count + 1) in
        let two = fits_at schema query entry count (count + 1) in
        let other = f.Atom (atom.Other (count - 1) count) in
        holds_and db (one ∷ two ∷ other ∷ []) (rows ++ more)
        ∙ (ap₂ (λ a b. a && (b && (holds db other (rows ++ more) && true)))
        (fits_says schema db domains alike query fits entry low places are (count - 1) (count + 1) x more more_long first_here)
        (fits_says schema db domains alike query fits entry low places are count (count + 1) y more more_long second_here)
        ∙ ap (λ c. fit x && (fit y && (c && true))) other_is)

    two_says : holds db two_body ((rows ++ place_in table x ∷ []) ++ place_in table y ∷ []) ≡ two_fit x y
    two_says = ap (holds db two_body) (append_assoc rows (place_in table x ∷ []) (place_in table y ∷ [])) ∙ these_say

  some_two : holds db (two_rows_formula schema query entry) rows ≡ true → (x : ℕ) × (y : ℕ) × (nat_lt x many ≡ true) × (nat_lt y many ≡ true) × (two_fit x y ≡ true)
  some_two holding =
      let first = some_place db table (λ place. holds db (f.Exists table two_body) (rows ++ place ∷ [])) (sym (holds_exists db table (f.Exists table two_body) rows) ∙ holding) in
      let behind = rows ++ place_in table first.0 ∷ [] in
      let second = some_place db table (λ place. holds db two_body (behind ++ place ∷ [])) (sym (holds_exists db table two_body behind) ∙ first.2) in
      (first.0, second.0, first.1, second.1, sym (two_says first.0 second.0) ∙ second.2)

  two_there : (x y : ℕ) → nat_lt x many ≡ true → nat_lt y many ≡ true → two_fit x y ≡ true → holds db (two_rows_formula schema query entry) rows ≡ true
  two_there x y first second fitting =
      let behind = rows ++ place_in table x ∷ [] in
      holds_exists db table (f.Exists table two_body) rows
      ∙ one_place db table (λ place. holds db (f.Exists table two_body) (rows ++ place ∷ [])) x first
      (holds_exists db table two_body behind
      ∙ one_place db table (λ place. holds db two_body (behind ++ place ∷ [])) y second (two_says x y ∙ fitting))

  -- ---- the points

  main_is : (row : ℕ) → at row (main_condition query) ≡ (outside && fit row)
  main_is row =
      divides (main_condition query) (own ∷ []) (rows_at (own ∷ []) (insert places entry row ∷ []))
      ∙ (all_divided (at row) (names entry) (conjuncts (main_condition query))
      ∙ ap (λ b. b && fit row) (without_same schema db domains alike query fits entry low places are row))

  whole : take (length others) places ≡ places
  whole = take_all (length others) places (omega (arith, as_many db others places are))

  abbrev without : Binding
  without = others_binding query entry places

  known_at : (row : ℕ) (conds : List Cond) → are_true_by db query (by_formula schema db) entry without row conds ≡ Ok (list_all (at row) conds)
  known_at row conds =
      ap (λ (ps : List ℕ). all_true (map (λ c. by_formula schema db c (main_tables query) (insert ps entry row ∷ [])) conds)) whole ∙ truths_known (at row) conds

  none_known : no_row_by db query (by_formula schema db) entry without ≡ Ok (not (list_any fit (below many)))
  none_known =
      let loosely = λ (row : ℕ). are_true_by db query (by_formula schema db) entry without row (conjuncts_with entry query) in
      ap (λ t. map_ok (λ fit. not (list_any (λ fits. fits) fit)) (all_ok (map loosely (below (length (rows_of db t)))))) (table_is (main_entries query) entry)
      ∙ (ap (map_ok (λ fit. not (list_any (λ fits. fits) fit))) (all_known loosely fit (λ row. known_at row (conjuncts_with entry query)) (below many))
      ∙ ap (λ b. Ok (not b)) (any_map fit (λ fits. fits) (below many)))

  -- where no row fits
  pub none_says : (given : Value) → holds db (no_row_body schema query entry) rows ≡ refutes_loosely schema db query (NeedlessJoin entry) given (points_of query (NeedlessJoin entry) places None)
  none_says given =
      let conds = conjuncts_without entry query in
      let x = all_hold (are_true_by db query (by_formula schema db) entry without 0 conds ∷ no_row_by db query (by_formula schema db) entry without ∷ []) in
      and_more (no_row_formula schema query entry)
      ∙ (ap (λ b. outside && (b && true)) no_row_says
      ∙ sym (known_in (is_binding_without db query entry without) x (one_level db others places are)
      ∙ ap₂ (λ a b. is_known_true (all_hold (a ∷ b ∷ []))) (known_at 0 conds) none_known))

  -- where two rows of the entry fit
  module _ (x y : ℕ) (first : nat_lt x many ≡ true) (second : nat_lt y many ≡ true) where
    abbrev one : Binding
    one = joined_binding query entry places x

    abbrev two : Binding
    two = joined_binding query entry places y

    reaches : entry ≤ length places
    reaches = omega (arith, low, as_many db others places are, length-remove own entry low)

    abbrev form : Bool
    form = is_main_binding db query one && is_main_binding db query two && differ_in_entry entry one.levels two.levels

    form_is : form ≡ not (nat_eq x y)
    form_is =
        all_four (is_main_binding db query one) (is_main_binding db query two)
        (are_same_rows (remove (insert places entry x) entry) (remove (insert places entry y) entry)) (not (are_same_rows (insert places entry x) (insert places entry y))) (not (nat_eq x y))
        (one_level_is db own (insert places entry x) (with_one db own entry places x low are first))
        (one_level_is db own (insert places entry y) (with_one db own entry places y low are second))
        (ap₂ are_same_rows (removed places entry x reaches) (removed places entry y reaches) ∙ same_as_itself places)
        (ap not (same_inserted places entry x y reaches))

    pub both_say : (given : Value) → (outside && two_fit x y) ≡ refutes_loosely schema db query (NeedlessJoin entry) given (points_of query (NeedlessJoin entry) places (Some (x, y)))
    both_say given =
        sym (rearranged outside (fit x) (fit y) (not (nat_eq x y)))
        ∙ (ap₂ (λ a b. a && (b && (not (nat_eq x y) && true))) (sym (main_is x)) (sym (main_is y))
        ∙ pair_known form (not (nat_eq x y)) (at x (main_condition query)) (at y (main_condition query)) form_is)

  abbrev there : Option (ℕ × ℕ) → Bool
  there = are_there query db (NeedlessJoin entry)

  abbrev Refutes : Value → Option (ℕ × ℕ) → Type 0
  Refutes given fitting = refutes_loosely schema db query (NeedlessJoin entry) given (points_of query (NeedlessJoin entry) places fitting) ≡ true

  many_is : length (rows_of db (table_of db query entry)) ≡ many
  many_is = ap (λ t. length (rows_of db t)) (table_is (main_entries query) entry)

  pub two_from : (given : Value) → holds db (two_rows_body schema query entry) rows ≡ true → (x : ℕ) × (y : ℕ) × (there (Some (x, y)) ≡ true) × Refutes given (Some (x, y))
  two_from given holding =
      let g = two_rows_formula schema query entry in
      let parts : (outside && (holds db g rows && true)) ≡ true = sym (and_more g) ∙ holding in
      let found = some_two (both_left (holds db g rows) true (both_right outside (holds db g rows && true) parts)) in (
        found.0,
        found.1,
        ap₂ (λ a b. a && b) (ap (nat_lt found.0) many_is ∙ found.2) (ap (nat_lt found.1) many_is ∙ found.3),
        sym (both_say found.0 found.1 found.2 found.3 given) ∙ ap₂ (λ a b. a && b) (both_left outside (holds db g rows && true) parts) found.4,
      )

  -- the others' rows and these two
  abbrev with_two : ℕ → ℕ → List Place
  with_two x y = rows ++ place_in table x ∷ place_in table y ∷ []

  pub these_to : (given : Value) → list_all (λ g. holds db g rows) (without_formulas schema query entry) ≡ true → (x y : ℕ) → x < many → y < many →
      holds db (both_fit schema query entry) (with_two x y) ≡ true → (there (Some (x, y)) ≡ true) × Refutes given (Some (x, y))
  these_to given without_hold x y low_x low_y fitting =
      let first : nat_lt x many ≡ true = grind (arith, nat_tests) in
      let second : nat_lt y many ≡ true = grind (arith, nat_tests) in (
        ap₂ (λ a b. a && b) (ap (nat_lt x) many_is ∙ first) (ap (nat_lt y) many_is ∙ second),
        sym (both_say x y first second given)
            ∙ ap₂ (λ a b. a && b) (sym (without_says schema db domains alike query fits entry low places are) ∙ without_hold) (sym (these_say x y) ∙ fitting),
      )

  pub two_to : (given : Value) (x y : ℕ) → there (Some (x, y)) ≡ true → Refutes given (Some (x, y)) → holds db (two_rows_body schema query entry) rows ≡ true
  two_to given x y are_two refuted =
      let g = two_rows_formula schema query entry in
      let first = sym (ap (nat_lt x) many_is) ∙ both_left (nat_lt x (length (rows_of db (table_of db query entry)))) (nat_lt y (length (rows_of db (table_of db query entry)))) are_two in
      let second = sym (ap (nat_lt y) many_is) ∙ both_right (nat_lt x (length (rows_of db (table_of db query entry)))) (nat_lt y (length (rows_of db (table_of db query entry)))) are_two in
      let parts : (outside && two_fit x y) ≡ true = both_say x y first second given ∙ refuted in
      and_more g
      ∙ ap₂ (λ a b. a && (b && true)) (both_left outside (two_fit x y) parts) (two_there x y first second (both_right outside (two_fit x y) parts))

  -- ---- the body

  parts_or : (w n t : Bool) → (w && ((n || (t || false)) && true)) ≡ ((w && (n && true)) || (w && (t && true)))
  parts_or true true t = refl
  parts_or true false true = refl
  parts_or true false false = refl
  parts_or false n t = refl

  pub body_says : (given : Value) → holds db (counter schema query (NeedlessJoin entry) given).body rows ≡ (holds db (no_row_body schema query entry) rows || holds db (two_rows_body schema query entry) rows)
  body_says given =
      let none = no_row_formula schema query entry in
      let two = two_rows_formula schema query entry in
      and_more (none_or_two schema query entry)
      ∙ (ap (λ b. outside && (b && true)) (holds_or db (none ∷ two ∷ []) rows)
      ∙ (parts_or outside (holds db none rows) (holds db two rows)
      ∙ ap₂ (λ a b. a || b) (sym (and_more none)) (sym (and_more two))))
