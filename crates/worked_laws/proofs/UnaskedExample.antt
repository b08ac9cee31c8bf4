-- The example of a question that is not asked.
use Rattle.std.proofs.Common.{◌≡◌, ◌∙◌, ap, sym, refl, subst, ℕ, zero, suc, Bool, true, false, ◌&&◌, List, [], ◌∷◌, nat_lt, if◌then◌else◌, arith}
use Rattle.std.proofs.lemmas.Bool.Decides.{nat_tests}
use Rattle.std.specs.Option.{option_map_or}
use Rattle.std.specs.Prelude.{Ok, Err, slice_get}
use Rattle.lint_tables.specs.declared.op.Op.TheVariants.{Eq}
use Rattle.lint_core.specs.declared.condition.Block.{Block, fold-Block, fold_out-Block, out-Block, out-roll-Block}
use Rattle.lint_core.specs.declared.condition.Cond.{Cond, fold_out-Cond, map-Cond}
use Rattle.lint_core.specs.declared.condition.Cond.TheOpen.{Block-F}
use Rattle.lint_core.specs.declared.condition.Cond.TheVariants as c
use Rattle.lint_core.specs.declared.database.Binding.{Binding}
use Rattle.lint_core.specs.declared.database.Points.TheVariants.{One, Two, Without}
use Rattle.lint_core.specs.declared.database.Value.TheVariants.{Null}
use Rattle.lint_core.specs.declared.query.Question.TheVariants.{OneRow, NeedlessJoin}
use Rattle.lint_core.specs.Asked.{scalars_of}
use Rattle.lint_core.specs.Condition.{truth}
use Rattle.lint_core.specs.Evaluation.{Evaluated}
use Rattle.worked_laws.specs.Examples.{nowhere, number, inner_column, from_first, from_two, rows}
use Rattle.lint_core.specs.Naming.{names, names_step}
use Rattle.lint_core.specs.Points.{are_rows, is_binding, differ_in_last_level}
use Rattle.lint_core.specs.Question.{outcome, refutes, HoldsIn, EarlierHold, is_known_true, all_true, inner_by}
use Rattle.lint_core.specs.Subqueries.{Subquery}
use Rattle.lint_core.proofs.Conditions.{block_truth_is, truth_scalar, truth_true}
use Rattle.lint_core.proofs.Parted.{conjuncts_scalar, scalars_scalar, scalars_true}
use Rattle.worked_laws.specs.Unasked.{one_is_the_row, beside_an_empty_table, two_and_none}

abbrev first_layer : Block-F Cond Block
first_layer = record { entries = record { table = 0; name = []; span = nowhere } ∷ []; cond = c.True; span = nowhere }

first_out : out-Block (from_first c.True) ≡ first_layer
first_out = out-roll-Block first_layer

abbrev two_layer : Block-F Cond Block
two_layer = record { entries = record { table = 0; name = []; span = nowhere } ∷ record { table = 1; name = []; span = nowhere } ∷ []; cond = one_is_the_row; span = nowhere }

two_out : out-Block (from_two 1 one_is_the_row) ≡ two_layer
two_out = out-roll-Block two_layer

first_cond : (out-Block (from_first c.True)).cond ≡ c.True
first_cond = ap (λ (b : Block-F Cond Block). b.cond) first_out

two_cond : (out-Block (from_two 1 one_is_the_row)).cond ≡ one_is_the_row
two_cond = ap (λ (b : Block-F Cond Block). b.cond) two_out

abbrev main : List (List ℕ)
main = (0 ∷ 1 ∷ []) ∷ []

abbrev inside : List (List ℕ)
inside = (0 ∷ 1 ∷ []) ∷ (0 ∷ []) ∷ []

names_true : names 1 c.True ≡ false
names_true =
    fold_out-Cond Bool Bool (names_step 1) (λ block. block.cond) c.True
    ∙ ap (λ layer. names_step 1 (map-Cond Cond Block Bool Bool (names 1) (fold-Block Bool Bool (names_step 1) (λ block. block.cond)) layer)) c.outs-True

names_block : fold-Block Bool Bool (names_step 1) (λ block. block.cond) (from_first c.True) ≡ false
names_block = fold_out-Block Bool Bool (names_step 1) (λ block. block.cond) (from_first c.True) ∙ (ap (λ (b : Block-F Cond Block). names 1 b.cond) first_out ∙ names_true)

names_row : names 1 one_is_the_row ≡ false
names_row =
    fold_out-Cond Bool Bool (names_step 1) (λ block. block.cond) one_is_the_row
    ∙ (ap (λ layer. names_step 1 (map-Cond Cond Block Bool Bool (names 1) (fold-Block Bool Bool (names_step 1) (λ block. block.cond)) layer)) (c.outs-Scalar Eq (number 1) (from_first c.True) inner_column nowhere)
    ∙ names_block)

pub undecided : outcome two_and_none beside_an_empty_table (NeedlessJoin 1) Null (Without (rows ((0 ∷ []) ∷ []))) ≡ Err nowhere
undecided =
    let outer : List (List ℕ) = (0 ∷ 0 ∷ []) ∷ [] in
    rw (two_cond, conjuncts_scalar Eq (number 1) (from_first c.True) inner_column nowhere, names_row, truth_scalar two_and_none Eq (number 1) (from_first c.True) inner_column nowhere main outer, block_truth_is two_and_none (from_first c.True), first_cond, truth_true two_and_none inside ((0 ∷ 0 ∷ []) ∷ (0 ∷ []) ∷ []), truth_true two_and_none inside ((0 ∷ 0 ∷ []) ∷ (1 ∷ []) ∷ [])) refl

the_scalar : scalars_of beside_an_empty_table ≡ record { tables = inside; cond = c.True; item = inner_column; place = nowhere } ∷ []
the_scalar = rw (two_cond, scalars_scalar main Eq (number 1) (from_first c.True) inner_column nowhere, first_cond, scalars_true inside) refl

and_false : (b : Bool) → (b && false) ≡ false
and_false true = refl
and_false false = refl

none_below : (row : ℕ) → nat_lt row 0 ≡ false
none_below row = grind (arith, nat_tests)

no_rows : (rows : List ℕ) → are_rows two_and_none (0 ∷ 1 ∷ []) rows ≡ false
no_rows [] = refl
no_rows (row ∷ []) = and_false (nat_lt row 2)
no_rows (row ∷ other ∷ rows) = ap (λ b. nat_lt row 2 && (b && are_rows two_and_none [] rows)) (none_below other) ∙ and_false (nat_lt row 2)

no_binding : (levels : List (List ℕ)) → is_binding two_and_none inside levels ≡ false
no_binding [] = refl
no_binding (rows ∷ levels) = ap (λ b. b && is_binding two_and_none ((0 ∷ []) ∷ []) levels) (no_rows rows)

-- no binding of the subquery's levels exists, so it never gives two rows
never_two : (sub : ℕ) (one two : Binding) → refutes two_and_none beside_an_empty_table (OneRow sub) Null (Two one two) ≡ false
never_two sub one two =
    subst
    (λ (subs : List Subquery).
    is_known_true
    (if option_map_or (λ (s : Subquery). is_binding two_and_none s.tables one.levels && is_binding two_and_none s.tables two.levels && differ_in_last_level one.levels two.levels) (slice_get subs sub) false
    then all_true (inner_by two_and_none beside_an_empty_table (truth two_and_none) subs sub one ∷ inner_by two_and_none beside_an_empty_table (truth two_and_none) subs sub two ∷ [])
    else Ok false)
    ≡ false)
    (sym the_scalar) (at_place sub)
  where
    the_subquery : Subquery
    the_subquery = record { tables = inside; cond = c.True; item = inner_column; place = nowhere }

    no_form : (here there differ : Bool) (clause : Evaluated Bool) → here ≡ false → is_known_true (if here && there && differ then clause else Ok false) ≡ false
    no_form false there differ clause never = refl
    no_form true there differ clause never = cc

    at_place : (sub : ℕ) →
        is_known_true
        (if option_map_or (λ (s : Subquery). is_binding two_and_none s.tables one.levels && is_binding two_and_none s.tables two.levels && differ_in_last_level one.levels two.levels) (slice_get (the_subquery ∷ []) sub) false
        then all_true (inner_by two_and_none beside_an_empty_table (truth two_and_none) (the_subquery ∷ []) sub one ∷ inner_by two_and_none beside_an_empty_table (truth two_and_none) (the_subquery ∷ []) sub two ∷ [])
        else Ok false)
        ≡ false
    at_place zero = no_form (is_binding two_and_none inside one.levels) (is_binding two_and_none inside two.levels) (differ_in_last_level one.levels two.levels) _ (no_binding one.levels)
    at_place (suc sub) = refl

never : (sub : ℕ) → HoldsIn two_and_none beside_an_empty_table (OneRow sub) Null
never sub (One one) = refl
never sub (Two one two) = never_two sub one two
never sub (Without one) = refl

pub earlier_hold : EarlierHold two_and_none beside_an_empty_table (NeedlessJoin 1)
earlier_hold sub low points = never sub points
