-- The questions of the small examples, worked.
use Rattle.std.proofs.Common.{◌≡◌, ◌∙◌, ap, refl, ℕ, pos, Bool, true, false, ◌||◌, List, [], ◌∷◌}
use Rattle.std.specs.Prelude.{nat_lt, length, Ok, Err}
use Rattle.lint_base.specs.declared.place.Span.{Span}
use Rattle.lint_tables.specs.declared.op.Op.{Op}
use Rattle.lint_tables.specs.declared.op.Op.TheVariants.{Eq, Gt}
use Rattle.lint_core.specs.declared.condition.Term.{Term}
use Rattle.lint_core.specs.declared.condition.Term.TheVariants as term
use Rattle.lint_core.specs.declared.condition.Block.{Block, fold-Block, out-Block, out-roll-Block}
use Rattle.lint_core.specs.declared.condition.Cond.{Cond, fold_out-Cond, map-Cond}
use Rattle.lint_core.specs.declared.condition.Cond.TheVariants as c
use Rattle.lint_core.specs.declared.condition.Cond.TheOpen.{Block-F}
use Rattle.lint_core.specs.declared.database.Points.TheVariants.{One, Two, Without}
use Rattle.lint_core.specs.declared.database.Truth.TheVariants.{True}
use Rattle.lint_core.specs.declared.database.Value.TheVariants.{Null, Int}
use Rattle.lint_core.specs.declared.query.Question.TheVariants.{OneRow, Empty, NeedlessDistinct, Constant, NeedlessJoin, Implied, Impossible, SameRow, NullInNotIn}
use Rattle.lint_core.specs.Asked.{main_condition, scalars_of, not_ins_of, is_asked, questions}
use Rattle.worked_laws.specs.Examples.{nowhere, number, the_column, inner_column, from_first, from_two, database, plain, select_star, select_distinct, where_one, above_the_row, not_among, joined, twice, rows}
use Rattle.lint_core.specs.Naming.{term_names, names_step, names, scalar_step, has_scalar}
use Rattle.lint_core.specs.Predicates.{predicates}
use Rattle.lint_core.specs.Question.{outcome, refutes}
use Rattle.lint_core.specs.Subqueries.{Subquery}
use Rattle.lint_core.proofs.Conditions.{truth_true, truth_false, truth_compare, truth_scalar}
use Rattle.worked_laws.proofs.Examples.{everywhere_true, first_bindings}
use Rattle.lint_core.proofs.Parted.{conjuncts_true, scalars_true, scalars_in, predicates_in, not_ins_true, predicates_true, scalars_scalar, not_ins_scalar, not_ins_in, predicates_scalar, conjuncts_compare, replaced_compare}

abbrev first_layer : Cond → Block-F Cond Block
first_layer cond = record { entries = record { table = 0; name = []; span = nowhere } ∷ []; cond = cond; span = nowhere }

first_out : (cond : Cond) → out-Block (from_first cond) ≡ first_layer cond
first_out cond = out-roll-Block (first_layer cond)

first_cond : (cond : Cond) → (out-Block (from_first cond)).cond ≡ cond
first_cond cond = ap (λ (b : Block-F Cond Block). b.cond) (first_out cond)

first_entries : (cond : Cond) → (out-Block (from_first cond)).entries ≡ (first_layer cond).entries
first_entries cond = ap (λ (b : Block-F Cond Block). b.entries) (first_out cond)

abbrev main : List (List ℕ)
main = (0 ∷ []) ∷ []

abbrev inside : List (List ℕ)
inside = (0 ∷ []) ∷ (0 ∷ []) ∷ []

pub star_is_asked_whether_empty : questions plain select_star ≡ Empty ∷ []
star_is_asked_whether_empty = rw (first_cond c.True, first_entries c.True, scalars_true main, not_ins_true main, predicates_true) refl

names_out : (entry : ℕ) (op : Op) (left right : Term) (span : Span) → names entry (c.Compare op left right span) ≡ (term_names entry left || term_names entry right)
names_out entry op left right span =
    fold_out-Cond Bool Bool (names_step entry) (λ block. block.cond) (c.Compare op left right span)
    ∙ ap (λ layer. names_step entry (map-Cond Cond Block Bool Bool (names entry) (fold-Block Bool Bool (names_step entry) (λ block. block.cond)) layer)) (c.outs-Compare op left right span)

two_cond : (other : ℕ) (cond : Cond) → (out-Block (from_two other cond)).cond ≡ cond
two_cond other cond =
    ap (λ (b : Block-F Cond Block). b.cond)
    (out-roll-Block (record { entries = record { table = 0; name = []; span = nowhere } ∷ record { table = other; name = []; span = nowhere } ∷ []; cond = cond; span = nowhere }))

abbrev the_other : Term
the_other = term.Cell 0 1 0 (pos 0)

abbrev main_two : ℕ → List (List ℕ)
main_two other = (0 ∷ other ∷ []) ∷ []

-- what is above the row

abbrev above : Cond
above = c.Scalar Gt the_column (from_first c.True) inner_column nowhere

pub the_scalar : scalars_of above_the_row ≡ record { tables = inside; cond = c.True; item = inner_column; place = nowhere } ∷ []
the_scalar = rw (first_cond above, scalars_scalar main Gt the_column (from_first c.True) inner_column nowhere, first_cond c.True, scalars_true inside) refl

no_not_in : not_ins_of above_the_row ≡ []
no_not_in = rw (first_cond above, not_ins_scalar main Gt the_column (from_first c.True) inner_column nowhere, first_cond c.True, not_ins_true inside) refl

the_predicate : predicates (main_condition above_the_row) ≡ nowhere ∷ []
the_predicate = rw (first_cond above) (predicates_scalar Gt the_column (from_first c.True) inner_column nowhere)

scalar_asked : is_asked plain above_the_row (OneRow 0) ≡ true
scalar_asked = ap (λ (subs : List Subquery). nat_lt 0 (length subs)) the_scalar

implied_asked : is_asked plain above_the_row (Implied 0) ≡ true
implied_asked = ap (λ (places : List Span). nat_lt 0 (length places)) the_predicate

pub scalar_is_asked_first : questions plain above_the_row ≡ OneRow 0 ∷ Empty ∷ Constant 0 ∷ Implied 0 ∷ Impossible 0 ∷ []
scalar_is_asked_first = rw (the_scalar, no_not_in, the_predicate, scalar_asked, implied_asked) refl

-- what is not among the rows

abbrev among : Cond
among = c.In the_column (from_first c.True) inner_column true nowhere

no_scalar : scalars_of not_among ≡ []
no_scalar = rw (first_cond among, scalars_in main the_column (from_first c.True) inner_column true nowhere, first_cond c.True, scalars_true inside) refl

the_not_in : not_ins_of not_among ≡ record { tables = inside; cond = c.True; item = inner_column; place = nowhere } ∷ []
the_not_in = rw (first_cond among, not_ins_in main the_column (from_first c.True) inner_column true nowhere, first_cond c.True, not_ins_true inside) refl

its_predicate : predicates (main_condition not_among) ≡ nowhere ∷ []
its_predicate = rw (first_cond among, predicates_in the_column (from_first c.True) inner_column true nowhere, first_cond c.True, predicates_true) refl

its_implied_asked : is_asked plain not_among (Implied 0) ≡ true
its_implied_asked = ap (λ (places : List Span). nat_lt 0 (length places)) its_predicate

not_in_asked : is_asked plain not_among (NullInNotIn 0) ≡ true
not_in_asked = ap (λ (subs : List Subquery). nat_lt 0 (length subs)) the_not_in

pub not_in_is_asked_last : questions plain not_among ≡ Empty ∷ Constant 0 ∷ Implied 0 ∷ Impossible 0 ∷ NullInNotIn 0 ∷ []
not_in_is_asked_last = rw (no_scalar, the_not_in, its_predicate, its_implied_asked, not_in_asked) refl

-- the first table twice

pub true_names_nothing : names 1 c.True ≡ false
true_names_nothing =
    fold_out-Cond Bool Bool (names_step 1) (λ block. block.cond) c.True
    ∙ ap (λ layer. names_step 1 (map-Cond Cond Block Bool Bool (names 1) (fold-Block Bool Bool (names_step 1) (λ block. block.cond)) layer)) c.outs-True

true_has_no_scalar : has_scalar c.True ≡ false
true_has_no_scalar =
    fold_out-Cond Bool Bool scalar_step (λ block. block.cond) c.True
    ∙ ap (λ layer. scalar_step (map-Cond Cond Block Bool Bool has_scalar (fold-Block Bool Bool scalar_step (λ block. block.cond)) layer)) c.outs-True

twice_cond : main_condition twice ≡ c.True
twice_cond = two_cond 0 c.True

twice_no_scalar : scalars_of twice ≡ []
twice_no_scalar = rw twice_cond (scalars_true (main_two 0))

twice_no_not_in : not_ins_of twice ≡ []
twice_no_not_in = rw twice_cond (not_ins_true (main_two 0))

twice_no_predicate : predicates (main_condition twice) ≡ []
twice_no_predicate = rw twice_cond predicates_true

join_asked : is_asked plain twice (NeedlessJoin 1) ≡ true
join_asked = rw (twice_cond, conjuncts_true, true_names_nothing, true_has_no_scalar) refl

pub entry_not_selected_is_asked : questions plain twice ≡ Empty ∷ Constant 0 ∷ NeedlessJoin 1 ∷ SameRow 0 1 ∷ []
entry_not_selected_is_asked = rw (twice_no_scalar, twice_no_not_in, twice_no_predicate, join_asked) refl

-- ---- the answer

pub row_is_in_the_answer : refutes (database ((Int (pos 1) ∷ []) ∷ [])) select_star Empty Null (One (rows ((0 ∷ []) ∷ []))) ≡ true
row_is_in_the_answer = rw (first_cond c.True, truth_true (database ((Int (pos 1) ∷ []) ∷ [])) main ((0 ∷ []) ∷ [])) refl

pub no_such_row : refutes (database ([] ∷ [])) select_star Empty Null (One (rows ((0 ∷ []) ∷ []))) ≡ false
no_such_row = refl

pub distinct_from_the_constant : refutes (database ((Int (pos 1) ∷ []) ∷ [])) where_one (Constant 0) Null (One (rows ((0 ∷ []) ∷ []))) ≡ true
distinct_from_the_constant = rw (first_cond (c.Compare Eq the_column (number 1) nowhere), truth_compare (database ((Int (pos 1) ∷ []) ∷ [])) Eq the_column (number 1) nowhere main ((0 ∷ []) ∷ [])) refl

pub the_constant : refutes (database ((Int (pos 1) ∷ []) ∷ [])) where_one (Constant 0) (Int (pos 1)) (One (rows ((0 ∷ []) ∷ []))) ≡ false
the_constant = rw (first_cond (c.Compare Eq the_column (number 1) nowhere), truth_compare (database ((Int (pos 1) ∷ []) ∷ [])) Eq the_column (number 1) nowhere main ((0 ∷ []) ∷ [])) refl

-- ---- DISTINCT

pub nulls_need_distinct : refutes (database ((Null ∷ Null ∷ []) ∷ [])) select_distinct NeedlessDistinct Null (Two (rows ((0 ∷ []) ∷ [])) (rows ((1 ∷ []) ∷ []))) ≡ true
nulls_need_distinct =
    let db = database ((Null ∷ Null ∷ []) ∷ []) in
    rw (first_cond c.True, truth_true db main ((0 ∷ []) ∷ []), truth_true db main ((1 ∷ []) ∷ [])) refl

pub equal_rows_need_distinct : refutes (database ((Int (pos 1) ∷ Int (pos 1) ∷ []) ∷ [])) select_distinct NeedlessDistinct Null (Two (rows ((0 ∷ []) ∷ [])) (rows ((1 ∷ []) ∷ []))) ≡ true
equal_rows_need_distinct =
    let db = database ((Int (pos 1) ∷ Int (pos 1) ∷ []) ∷ []) in
    rw (first_cond c.True, truth_true db main ((0 ∷ []) ∷ []), truth_true db main ((1 ∷ []) ∷ [])) refl

pub one_row_needs_no_distinct : refutes (database ((Int (pos 1) ∷ []) ∷ [])) select_distinct NeedlessDistinct Null (Two (rows ((0 ∷ []) ∷ [])) (rows ((0 ∷ []) ∷ []))) ≡ false
one_row_needs_no_distinct = refl

-- ---- subqueries

pub two_rows_are_too_many : refutes (database ((Int (pos 1) ∷ Int (pos 1) ∷ []) ∷ [])) above_the_row (OneRow 0) Null (Two (rows ((0 ∷ []) ∷ (0 ∷ []) ∷ [])) (rows ((0 ∷ []) ∷ (1 ∷ []) ∷ []))) ≡ true
two_rows_are_too_many =
    let db = database ((Int (pos 1) ∷ Int (pos 1) ∷ []) ∷ []) in
    rw (first_cond (c.Scalar Gt the_column (from_first c.True) inner_column nowhere), scalars_scalar main Gt the_column (from_first c.True) inner_column nowhere, first_cond c.True, scalars_true inside, truth_true db inside ((0 ∷ []) ∷ (0 ∷ []) ∷ []), truth_true db inside ((0 ∷ []) ∷ (1 ∷ []) ∷ [])) refl

pub one_row_is_not_two : refutes (database ((Int (pos 1) ∷ Int (pos 1) ∷ []) ∷ [])) above_the_row (OneRow 0) Null (Two (rows ((0 ∷ []) ∷ (1 ∷ []) ∷ [])) (rows ((0 ∷ []) ∷ (1 ∷ []) ∷ []))) ≡ false
one_row_is_not_two = rw the_scalar refl

pub two_rows_leave_it_undecided : outcome (database ((Int (pos 1) ∷ Int (pos 1) ∷ []) ∷ [])) above_the_row Empty Null (One (rows ((0 ∷ []) ∷ []))) ≡ Err nowhere
two_rows_leave_it_undecided =
    let db = database ((Int (pos 1) ∷ Int (pos 1) ∷ []) ∷ []) in
    rw (first_cond above, truth_scalar db Gt the_column (from_first c.True) inner_column nowhere main ((0 ∷ []) ∷ []), first_bindings db c.True (λ tables binding. Ok True) (everywhere_true db)) refl

pub null_is_in_not_in : refutes (database ((Null ∷ []) ∷ [])) not_among (NullInNotIn 0) Null (One (rows ((0 ∷ []) ∷ (0 ∷ []) ∷ []))) ≡ true
null_is_in_not_in =
    let db = database ((Null ∷ []) ∷ []) in
    rw (first_cond (c.In the_column (from_first c.True) inner_column true nowhere), not_ins_in main the_column (from_first c.True) inner_column true nowhere, first_cond c.True, truth_true db inside ((0 ∷ []) ∷ (0 ∷ []) ∷ [])) refl

pub value_is_no_null : refutes (database ((Int (pos 1) ∷ []) ∷ [])) not_among (NullInNotIn 0) Null (One (rows ((0 ∷ []) ∷ (0 ∷ []) ∷ []))) ≡ false
value_is_no_null =
    let db = database ((Int (pos 1) ∷ []) ∷ []) in
    rw (first_cond (c.In the_column (from_first c.True) inner_column true nowhere), not_ins_in main the_column (from_first c.True) inner_column true nowhere, first_cond c.True, truth_true db inside ((0 ∷ []) ∷ (0 ∷ []) ∷ [])) refl

-- ---- entries

pub no_row_fits : refutes (database ((Int (pos 1) ∷ []) ∷ (Int (pos 2) ∷ []) ∷ [])) joined (NeedlessJoin 1) Null (Without (rows ((0 ∷ []) ∷ []))) ≡ true
no_row_fits =
    let db = database ((Int (pos 1) ∷ []) ∷ (Int (pos 2) ∷ []) ∷ []) in
    rw (two_cond 1 (c.Compare Eq the_column the_other nowhere), conjuncts_compare Eq the_column the_other nowhere, names_out 1 Eq the_column the_other nowhere, truth_compare db Eq the_column the_other nowhere (main_two 1) ((0 ∷ 0 ∷ []) ∷ [])) refl

pub one_row_fits : refutes (database ((Int (pos 1) ∷ []) ∷ (Int (pos 1) ∷ []) ∷ [])) joined (NeedlessJoin 1) Null (Without (rows ((0 ∷ []) ∷ []))) ≡ false
one_row_fits =
    let db = database ((Int (pos 1) ∷ []) ∷ (Int (pos 1) ∷ []) ∷ []) in
    rw (two_cond 1 (c.Compare Eq the_column the_other nowhere), conjuncts_compare Eq the_column the_other nowhere, names_out 1 Eq the_column the_other nowhere, truth_compare db Eq the_column the_other nowhere (main_two 1) ((0 ∷ 0 ∷ []) ∷ [])) refl

pub two_rows_fit : refutes (database ((Int (pos 1) ∷ []) ∷ (Int (pos 1) ∷ Int (pos 1) ∷ []) ∷ [])) joined (NeedlessJoin 1) Null (Two (rows ((0 ∷ 0 ∷ []) ∷ [])) (rows ((0 ∷ 1 ∷ []) ∷ []))) ≡ true
two_rows_fit =
    let db = database ((Int (pos 1) ∷ []) ∷ (Int (pos 1) ∷ Int (pos 1) ∷ []) ∷ []) in
    rw (two_cond 1 (c.Compare Eq the_column the_other nowhere), truth_compare db Eq the_column the_other nowhere (main_two 1) ((0 ∷ 0 ∷ []) ∷ []), truth_compare db Eq the_column the_other nowhere (main_two 1) ((0 ∷ 1 ∷ []) ∷ [])) refl

pub equal_rows_at_two_places : refutes (database ((Int (pos 1) ∷ Int (pos 1) ∷ []) ∷ [])) twice (SameRow 0 1) Null (One (rows ((0 ∷ 1 ∷ []) ∷ []))) ≡ true
equal_rows_at_two_places = rw (two_cond 0 c.True, truth_true (database ((Int (pos 1) ∷ Int (pos 1) ∷ []) ∷ [])) (main_two 0) ((0 ∷ 1 ∷ []) ∷ [])) refl

pub one_place : refutes (database ((Int (pos 1) ∷ Int (pos 1) ∷ []) ∷ [])) twice (SameRow 0 1) Null (One (rows ((0 ∷ 0 ∷ []) ∷ []))) ≡ false
one_place = rw (two_cond 0 c.True, truth_true (database ((Int (pos 1) ∷ Int (pos 1) ∷ []) ∷ [])) (main_two 0) ((0 ∷ 0 ∷ []) ∷ [])) refl

-- ---- predicates

pub predicate_is_needed : refutes (database ((Int (pos 2) ∷ []) ∷ [])) where_one (Implied 0) Null (One (rows ((0 ∷ []) ∷ []))) ≡ true
predicate_is_needed =
    let db = database ((Int (pos 2) ∷ []) ∷ []) in
    rw (first_cond (c.Compare Eq the_column (number 1) nowhere), replaced_compare c.True 0 Eq the_column (number 1) nowhere, truth_compare db Eq the_column (number 1) nowhere main ((0 ∷ []) ∷ []), truth_true db main ((0 ∷ []) ∷ [])) refl

pub predicate_is_true : refutes (database ((Int (pos 1) ∷ []) ∷ [])) where_one (Implied 0) Null (One (rows ((0 ∷ []) ∷ []))) ≡ false
predicate_is_true =
    let db = database ((Int (pos 1) ∷ []) ∷ []) in
    rw (first_cond (c.Compare Eq the_column (number 1) nowhere), replaced_compare c.True 0 Eq the_column (number 1) nowhere, truth_compare db Eq the_column (number 1) nowhere main ((0 ∷ []) ∷ []), truth_true db main ((0 ∷ []) ∷ [])) refl

pub predicate_can_be_true : refutes (database ((Int (pos 1) ∷ []) ∷ [])) where_one (Impossible 0) Null (One (rows ((0 ∷ []) ∷ []))) ≡ true
predicate_can_be_true =
    let db = database ((Int (pos 1) ∷ []) ∷ []) in
    rw (first_cond (c.Compare Eq the_column (number 1) nowhere), replaced_compare c.False 0 Eq the_column (number 1) nowhere, truth_compare db Eq the_column (number 1) nowhere main ((0 ∷ []) ∷ []), truth_false db main ((0 ∷ []) ∷ [])) refl

pub predicate_is_false : refutes (database ((Int (pos 2) ∷ []) ∷ [])) where_one (Impossible 0) Null (One (rows ((0 ∷ []) ∷ []))) ≡ false
predicate_is_false =
    let db = database ((Int (pos 2) ∷ []) ∷ []) in
    rw (first_cond (c.Compare Eq the_column (number 1) nowhere), replaced_compare c.False 0 Eq the_column (number 1) nowhere, truth_compare db Eq the_column (number 1) nowhere main ((0 ∷ []) ∷ []), truth_false db main ((0 ∷ []) ∷ [])) refl
