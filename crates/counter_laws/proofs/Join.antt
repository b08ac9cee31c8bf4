-- A needless join: at the rows of the others, where no row of the entry fits, and where two do.
use Rattle.std.proofs.Common.{◌≡◌, ◌∙◌, ◌<◌, ◌+◌, ◌-◌, refl, sym, ap, ap₂, subst, ℕ, Bool, true, false, ◌&&◌, not, List, [], ◌∷◌, ◌++◌, length, map, nat_eq, if◌then◌else◌, arith}
use Rattle.std.proofs.lemmas.Bool.Decides.{nat_tests}
use Rattle.std.proofs.lemmas.List.{append-nil}
use Rattle.std.proofs.lemmas.List.Edits.{length-insert, length-remove}
use Rattle.std.proofs.lemmas.List.Folds.{list_all-map}
use Rattle.std.specs.List.{list_all, filter}
use Rattle.std.specs.Prelude.{Some, slice_get, option_and_then, unwrap_or, insert, remove}
use Rattle.lint_base.proofs.Lists.{both_left, both_right}
use Rattle.lint_core.specs.declared.condition.Cond.{Cond}
use Rattle.lint_core.specs.declared.database.Database.{Database}
use Rattle.lint_core.specs.declared.query.Query.{Query}
use Rattle.lint_core.specs.declared.schema.Table.{Table}
use Rattle.lint_core.specs.declared.scope.Scope.{Scope}
use Rattle.lint_core.specs.Asked.{main_condition, main_entries, conjuncts_with, conjuncts_without}
use Rattle.lint_core.specs.Conjuncts.{conjuncts}
use Rattle.lint_core.specs.Database.{Place}
use Rattle.lint_core.specs.Fits.{cond_fits, query_fits, main_tables, tables_of}
use Rattle.lint_core.specs.Meets.{is_of_domains}
use Rattle.lint_core.specs.Naming.{names}
use Rattle.lint_core.specs.Points.{are_rows}
use Rattle.sort_formula.specs.declared.formula.Formula.{Formula}
use Rattle.sort_formula.specs.Counters.{fits_at, join_scope}
use Rattle.sort_formula.specs.Holds.{holds}
use Rattle.sort_formula.specs.Loose.{rows_at}
use Rattle.sort_formula.specs.Negated.{negated}
use Rattle.sort_formula.specs.Rows.{tables_of_rows}
use Rattle.sort_formula.specs.Sentences.{formula_fits}
use Rattle.sort_formula.specs.Sides.{from_number, scope_of}
use Rattle.sort_formula.specs.Standpoint.{IsRowOf, StandsFor}
use Rattle.sort_formula.specs.Translation.{is_true_formula}
use Rattle.sort_formula.proofs.Fitting.{fits_and}
use Rattle.sort_formula.proofs.Holding.{holds_and}
use Rattle.formula_laws.proofs.Complements.{complements}
use Rattle.formula_laws.proofs.LeadRows.{as_many}
use Rattle.truth_laws.proofs.Fitting.{both_are}
use Rattle.truth_laws.proofs.FittingParts.{conjuncts_fit}
use Rattle.truth_laws.proofs.Inside.{is_there, place_for, place_there, more_rows, own_row, length_places}
use Rattle.truth_laws.proofs.Numbered.{numbered_stands}
use Rattle.truth_laws.proofs.Outside.{length_from}
use Rattle.truth_laws.proofs.Quantified.{place_in}
use Rattle.truth_laws.proofs.Shapes.{filter_keeps, main_fits}
use Rattle.truth_laws.proofs.Tests.{all_both, all_where}
use Rattle.counter_laws.specs.LeadingRows.{leading_rows}
use Rattle.counter_laws.proofs.Entries.{moved, insert_other, insert_here, remove_other, entry_here}
use Rattle.counter_laws.proofs.Leading.{leading_is}
use Rattle.counter_laws.proofs.Standing.{true_fits}
use Rattle.counter_laws.proofs.Twice.{OneMeaning}

each_passes : {A : Type 0} (p q : A → Bool) → ((x : A) → p x ≡ true → q x ≡ true) → (xs : List A) → list_all p xs ≡ true → list_all q xs ≡ true
each_passes p q leads [] all = refl
each_passes p q leads (x ∷ xs) all = both_are (q x) (list_all q xs) (leads x (both_left (p x) (list_all p xs) all)) (each_passes p q leads xs (both_right (p x) (list_all p xs) all))

kept_more : {A : Type 0} (q : A → Bool) (x : A) (xs : List A) → list_all q xs ≡ true → (b : Bool) → q x ≡ b → list_all q (if b then x ∷ xs else xs) ≡ true
kept_more q x xs all true is = both_are (q x) (list_all q xs) is all
kept_more q x xs all false is = all

kept_all : {A : Type 0} (q : A → Bool) (xs : List A) → list_all q (filter q xs) ≡ true
kept_all q [] = refl
kept_all q (x ∷ xs) = kept_more q x (filter q xs) (kept_all q xs) (q x) refl

differs : (e entry : ℕ) → nat_eq e entry ≡ false → e ≡ entry → ⊥
differs e entry is same = grind (arith, nat_tests)

module _ (schema : List Table) (db : Database) (domains : is_of_domains schema db ≡ true) (alike : OneMeaning schema db)
    (query : Query) (fits : query_fits schema query ≡ true) (entry : ℕ) (low : entry < length (tables_of (main_entries query)))
    (places : List ℕ) (are : are_rows db (remove (tables_of (main_entries query)) entry) places ≡ true) where
  abbrev own : List ℕ
  own = tables_of (main_entries query)

  abbrev others : List ℕ
  others = remove own entry

  abbrev count : ℕ
  count = length own

  abbrev table : ℕ
  table = unwrap_or (slice_get own entry) 0

  abbrev rows : List Place
  rows = leading_rows others places

  fewer : length others + 1 ≡ count
  fewer = length-remove own entry low

  as_others : length places ≡ length others
  as_others = as_many db others places are

  pub rows_long : length rows ≡ count - 1
  rows_long = ap length (leading_is others places) ∙ (length_places others places as_others ∙ omega (arith, fewer))

  from_long : length (from_number 0 (count - 1)) ≡ count - 1
  from_long = length_from 0 (count - 1)

  abbrev with_entry : ℕ → List (List ℕ)
  with_entry row = insert places entry row ∷ []

  with_long : (row : ℕ) → map length (with_entry row) ≡ map length (own ∷ [])
  with_long row = ap (λ n. n ∷ []) (length-insert places entry row (omega (arith, as_others, fewer, low)) ∙ (ap (λ n. n + 1) as_others ∙ fewer))

  scope_long : (variable : ℕ) → map length (insert (from_number 0 (count - 1)) entry variable ∷ []) ≡ map length (own ∷ [])
  scope_long variable = ap (λ n. n ∷ []) (length-insert (from_number 0 (count - 1)) entry variable (omega (arith, from_long, fewer, low)) ∙ (ap (λ n. n + 1) from_long ∙ omega (arith, fewer)))

  -- the others have the variables from 0 on
  other_row : (j : ℕ) (more : List Place) → option_and_then (slice_get (rows ++ more)) (slice_get (from_number 0 (count - 1)) j) ≡ place_for (slice_get others j) (slice_get places j)
  other_row j more =
      let same_count : length others ≡ count - 1 = omega (arith, fewer) in
      more_rows (slice_get (from_number 0 (count - 1)) j) rows more (place_for (slice_get others j) (slice_get places j))
      (place_there (slice_get others j) (slice_get places j) (is_there places others j as_others) ∙ is_there others (from_number 0 (count - 1)) j (same_count ∙ sym from_long))
      (ap₂ (λ (ps : List Place) n. option_and_then (slice_get ps) (slice_get (from_number 0 n) j)) (leading_is others places) (sym same_count) ∙ own_row [] others places j)

  -- the loose truth of a condition at the others and this row of the entry
  abbrev pub at_row : ℕ → Cond → Bool
  at_row row cond = holds db (is_true_formula schema cond (scope_of (own ∷ []))) (rows_at (own ∷ []) (with_entry row))

  module _ (variable row : ℕ) (more : List Place) where
    abbrev scope : ℕ → Scope
    scope depth = join_scope schema query entry variable depth

    by_entry : (cond : Cond) (depth : ℕ) → (names entry cond ≡ true → slice_get (rows ++ more) variable ≡ Some (place_in table row)) → (e : ℕ) → names e cond ≡ true →
        (b : Bool) → nat_eq e entry ≡ b → IsRowOf db (scope depth) (with_entry row) (rows ++ more) 0 e
    by_entry cond depth here e named true is =
        let same : e ≡ entry = grind (arith, nat_tests) in
        let named_here : names entry cond ≡ true = ap (λ e. names e cond) (sym same) ∙ named in
        subst (λ e. IsRowOf db (scope depth) (with_entry row) (rows ++ more) 0 e) (sym same)
        (ap (option_and_then (slice_get (rows ++ more))) (insert_here (from_number 0 (count - 1)) entry variable (omega (arith, from_long, fewer, low)))
        ∙ (here named_here
        ∙ ap₂ place_for (sym (entry_here own entry low)) (sym (insert_here places entry row (omega (arith, as_others, fewer, low))))))
    by_entry cond depth here e named false is =
        let other : e ≡ entry → ⊥ = λ same. differs e entry is same in
        ap (option_and_then (slice_get (rows ++ more))) (insert_other (from_number 0 (count - 1)) entry variable e (omega (arith, from_long, fewer, low)) other)
        ∙ (other_row (moved entry e) more
        ∙ ap₂ place_for (sym (remove_other own entry e low other)) (sym (insert_other places entry row e (omega (arith, as_others, fewer, low)) other)))

    -- the scope with this variable of the entry stands for the others with this row of it
    pub join_stands : (cond : Cond) (depth : ℕ) → length (rows ++ more) ≡ depth → (names entry cond ≡ true → slice_get (rows ++ more) variable ≡ Some (place_in table row)) →
        StandsFor db (scope depth) (with_entry row) (rows ++ more) cond
    join_stands cond depth long here = record {
      depth = long;
      variables = scope_long variable;
      entries = with_long row;
      main = λ e named. by_entry cond depth here e named (nat_eq e entry) refl;
      inner = λ level e. refl;
    }

    pub join_holds : (cond : Cond) (depth : ℕ) → cond_fits schema (own ∷ []) cond ≡ true → length (rows ++ more) ≡ depth →
        (names entry cond ≡ true → slice_get (rows ++ more) variable ≡ Some (place_in table row)) →
        holds db (is_true_formula schema cond (scope depth)) (rows ++ more) ≡ at_row row cond
    join_holds cond depth fit long here =
        alike cond (scope depth) (scope_of (own ∷ [])) (with_entry row) (rows ++ more) (rows_at (own ∷ []) (with_entry row)) refl fit
        (join_stands cond depth long here) (numbered_stands db (own ∷ []) (with_entry row) (with_long row) cond)

  -- ---- the conjuncts

  abbrev fit_here : Cond → Bool
  fit_here = cond_fits schema (own ∷ [])

  all_fit : list_all fit_here (conjuncts (main_condition query)) ≡ true
  all_fit = conjuncts_fit schema (main_condition query) (main_tables query) (main_fits schema query fits)

  with_fit : list_all fit_here (conjuncts_with entry query) ≡ true
  with_fit = filter_keeps fit_here (names entry) (conjuncts (main_condition query)) all_fit

  abbrev unnamed : Cond → Bool
  unnamed cond = not (names entry cond)

  without_fit : list_all (λ cond. fit_here cond && unnamed cond) (conjuncts_without entry query) ≡ true
  without_fit =
      let conds = conjuncts_without entry query in
      sym (all_both fit_here unnamed conds)
      ∙ both_are (list_all fit_here conds) (list_all unnamed conds) (filter_keeps fit_here unnamed (conjuncts (main_condition query)) all_fit) (kept_all unnamed (conjuncts (main_condition query)))

  never_named : (b : Bool) → not b ≡ true → b ≡ true → ⊥
  never_named true denied is = cc denied
  never_named false denied is = cc is

  -- any row of the entry stands in where it is not named
  without_at : (row : ℕ) → list_all (λ cond. holds db (is_true_formula schema cond (join_scope schema query entry 0 (count - 1))) rows) (conjuncts_without entry query)
      ≡ list_all (at_row row) (conjuncts_without entry query)
  without_at row =
      all_where (λ cond. fit_here cond && unnamed cond) (λ cond. holds db (is_true_formula schema cond (join_scope schema query entry 0 (count - 1))) rows) (at_row row)
      (λ cond both.
      ap (holds db (is_true_formula schema cond (join_scope schema query entry 0 (count - 1)))) (sym (append-nil rows))
      ∙ join_holds 0 row [] cond (count - 1) (both_left (fit_here cond) (unnamed cond) both) (ap length (append-nil rows) ∙ rows_long)
      (λ named. absurd (never_named (names entry cond) (both_right (fit_here cond) (unnamed cond) both) named)))
      (conjuncts_without entry query) without_fit

  pub without_same : (row : ℕ) → list_all (at_row row) (conjuncts_without entry query) ≡ list_all (at_row 0) (conjuncts_without entry query)
  without_same row = sym (without_at row) ∙ without_at 0

  -- the conjuncts without the entry; those with it, at a row of it
  abbrev pub outside_hold : Bool
  outside_hold = list_all (at_row 0) (conjuncts_without entry query)

  abbrev pub fits_row : ℕ → Bool
  fits_row row = list_all (at_row row) (conjuncts_with entry query)

  pub without_says : list_all (λ g. holds db g rows) (map (λ cond. is_true_formula schema cond (join_scope schema query entry 0 (count - 1))) (conjuncts_without entry query)) ≡ outside_hold
  without_says =
      list_all-map (λ g. holds db g rows) (λ cond. is_true_formula schema cond (join_scope schema query entry 0 (count - 1))) (conjuncts_without entry query) ∙ without_at 0

  module _ (variable depth row : ℕ) (more : List Place) (long : length (rows ++ more) ≡ depth) (here : slice_get (rows ++ more) variable ≡ Some (place_in table row)) where
    abbrev formula_of : Cond → Formula
    formula_of cond = is_true_formula schema cond (join_scope schema query entry variable depth)

    pub fits_says : holds db (fits_at schema query entry variable depth) (rows ++ more) ≡ fits_row row
    fits_says =
        holds_and db (map formula_of (conjuncts_with entry query)) (rows ++ more)
        ∙ (list_all-map (λ g. holds db g (rows ++ more)) formula_of (conjuncts_with entry query)
        ∙ all_where fit_here (λ cond. holds db (formula_of cond) (rows ++ more)) (at_row row)
        (λ cond fit. join_holds variable row more cond depth fit long (λ named. here)) (conjuncts_with entry query) with_fit)

    whole_fits : formula_fits schema (fits_at schema query entry variable depth) (tables_of_rows (rows ++ more)) ≡ true
    whole_fits =
        let tables = tables_of_rows (rows ++ more) in
        fits_and schema (map formula_of (conjuncts_with entry query)) tables
        ∙ (list_all-map (λ g. formula_fits schema g tables) formula_of (conjuncts_with entry query)
        ∙ each_passes fit_here (λ cond. formula_fits schema (formula_of cond) tables)
        (λ cond fit. true_fits db (join_scope schema query entry variable depth) (with_entry row) (rows ++ more) schema domains cond fit (join_stands variable row more cond depth long (λ named. here)))
        (conjuncts_with entry query) with_fit)

    pub misfits_says : holds db (negated (fits_at schema query entry variable depth)) (rows ++ more) ≡ not (fits_row row)
    misfits_says = complements schema db domains (fits_at schema query entry variable depth) (rows ++ more) whole_fits ∙ ap not fits_says
