use Rattle.std.proofs.Common.{arith}
use Rattle.lint_base.proofs.Lists.{every_at}
use Rattle.lint_core.specs.declared.condition.Cond.TheVariants as cond
use Rattle.lint_core.specs.Asked.{main_condition, scalars_of}
use Rattle.lint_core.specs.Fits.{main_tables}
use Rattle.lint_core.specs.Predicates.{with_replaced}
use Rattle.counter_forms.proofs.LastLevels.{HasLevel, have_levels}
use Rattle.counter_forms.proofs.Standing.{main_stands, one_stands, two_stands, join_stands, sub_stands, first_row_stands, second_row_stands, sub_cond_fits}
use Rattle.counter_forms.proofs.room.asked_sentences_have_room.Goals as goal

pub returns-clause-condition : goal.returns-clause-condition
returns-clause-condition c = λ schema query fits.
    main_stands schema query (main_condition query) (c.parts_of_queries_fit.ensures.condition schema query fits) (omega (arith, c.queries_have_room.ensures schema query fits))

pub returns-clause-replaced : goal.returns-clause-replaced
returns-clause-replaced c = λ schema query by predicate fits by_fits none.
    let tables = main_tables query in
    let whole = main_condition query in
    main_stands schema query (with_replaced by predicate whole)
    (c.parts_of_conditions_fit.ensures.replaced schema by whole tables predicate by_fits (c.parts_of_queries_fit.ensures.condition schema query fits))
    (omega (arith, c.queries_have_room.ensures schema query fits, c.parts_of_conditions_have_room.ensures.replaced by whole predicate none))

pub returns-clause-implied : goal.returns-clause-implied
returns-clause-implied c = λ schema query predicate fits.
    let whole = main_condition query in
    let constant = c.constants_have_no_parts.ensures.of_true schema in
    main_stands schema query (with_replaced cond.True predicate whole)
    (c.parts_of_conditions_fit.ensures.replaced schema cond.True whole (main_tables query) predicate (λ levels. (constant levels).0) (c.parts_of_queries_fit.ensures.condition schema query fits))
    (omega (arith, c.queries_have_room.ensures schema query fits, c.parts_of_conditions_have_room.ensures.replaced cond.True whole predicate (constant (main_tables query)).2))

pub returns-clause-impossible : goal.returns-clause-impossible
returns-clause-impossible c = λ schema query predicate fits.
    let whole = main_condition query in
    let constant = c.constants_have_no_parts.ensures.of_false schema in
    main_stands schema query (with_replaced cond.False predicate whole)
    (c.parts_of_conditions_fit.ensures.replaced schema cond.False whole (main_tables query) predicate (λ levels. (constant levels).0) (c.parts_of_queries_fit.ensures.condition schema query fits))
    (omega (arith, c.queries_have_room.ensures schema query fits, c.parts_of_conditions_have_room.ensures.replaced cond.False whole predicate (constant (main_tables query)).2))

pub returns-clause-first_of_two : goal.returns-clause-first_of_two
returns-clause-first_of_two c = λ schema query fits.
    one_stands schema query (main_condition query) (c.parts_of_queries_fit.ensures.condition schema query fits) (omega (arith, c.queries_have_room.ensures schema query fits))

pub returns-clause-second_of_two : goal.returns-clause-second_of_two
returns-clause-second_of_two c = λ schema query fits.
    two_stands schema query (main_condition query) (c.parts_of_queries_fit.ensures.condition schema query fits) (omega (arith, c.queries_have_room.ensures schema query fits))

pub returns-clause-conjunct : goal.returns-clause-conjunct
returns-clause-conjunct c = λ schema query number part entry variable depth fits at there least most low.
    let whole = main_condition query in
    join_stands schema query part
    (c.parts_of_conditions_fit.ensures.conjunct schema whole (main_tables query) number part (c.parts_of_queries_fit.ensures.condition schema query fits) at)
    (omega (arith, c.queries_have_room.ensures schema query fits, c.parts_of_conditions_have_room.ensures.conjunct whole number part at))
    entry variable depth there least most low

pub returns-clause-first_row : goal.returns-clause-first_row
returns-clause-first_row c = λ schema query number sub fits at.
    let whole = main_condition query in
    let tables = main_tables query in
    first_row_stands schema sub (sub_cond_fits schema sub (c.parts_of_queries_fit.ensures.scalars schema query number sub fits at))
    (omega (arith, c.queries_have_room.ensures schema query fits, c.parts_of_conditions_have_room.ensures.scalars whole tables number sub at))
    (every_at HasLevel (scalars_of query) number sub (have_levels whole tables).0 at)

pub returns-clause-second_row : goal.returns-clause-second_row
returns-clause-second_row c = λ schema query number sub fits at.
    let whole = main_condition query in
    let tables = main_tables query in
    second_row_stands schema sub (sub_cond_fits schema sub (c.parts_of_queries_fit.ensures.scalars schema query number sub fits at))
    (omega (arith, c.queries_have_room.ensures schema query fits, c.parts_of_conditions_have_room.ensures.scalars whole tables number sub at))
    (every_at HasLevel (scalars_of query) number sub (have_levels whole tables).0 at)

pub returns-clause-not_in : goal.returns-clause-not_in
returns-clause-not_in c = λ schema query number sub fits at.
    sub_stands schema sub (sub_cond_fits schema sub (c.parts_of_queries_fit.ensures.not_ins schema query number sub fits at))
    (omega (arith, c.queries_have_room.ensures schema query fits, c.parts_of_conditions_have_room.ensures.not_ins (main_condition query) (main_tables query) number sub at))
