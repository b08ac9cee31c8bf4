use Rattle.sort_formula.specs.Sides.{scope_of}
use Rattle.counter_laws.proofs.JoinParts.{none_says, two_from, two_to, these_to, body_says}
use Rattle.counter_laws.proofs.PointsBack.{entry_low}
use Rattle.counter_laws.proofs.laws.rows_of_a_join_refute.Goals as goal

pub returns-clause-no_row : goal.returns-clause-no_row
returns-clause-no_row c schema db domains query fits entry asked given places lead =
    none_says schema db domains
    (λ cond one other binding rows others tables fits first second.
    c.formulas_depend_on_rows_alone.ensures.says_true schema db cond one other rows others fits
    (c.one_binding_gives_the_same_rows.ensures.same db cond one other binding rows others tables first second))
    (λ cond tables rows. c.conjuncts_say_the_condition.ensures.says_true schema db cond (scope_of tables) rows)
    query fits entry (entry_low schema query entry asked) places lead given

pub returns-clause-two_rows : goal.returns-clause-two_rows
returns-clause-two_rows c schema db domains query fits entry asked given places lead holding =
    two_from schema db domains
    (λ cond one other binding rows others tables fits first second.
    c.formulas_depend_on_rows_alone.ensures.says_true schema db cond one other rows others fits
    (c.one_binding_gives_the_same_rows.ensures.same db cond one other binding rows others tables first second))
    (λ cond tables rows. c.conjuncts_say_the_condition.ensures.says_true schema db cond (scope_of tables) rows)
    query fits entry (entry_low schema query entry asked) places lead given holding

pub returns-clause-from_two_rows : goal.returns-clause-from_two_rows
returns-clause-from_two_rows c schema db domains query fits entry asked given places lead x y there refuted =
    two_to schema db domains
    (λ cond one other binding rows others tables fits first second.
    c.formulas_depend_on_rows_alone.ensures.says_true schema db cond one other rows others fits
    (c.one_binding_gives_the_same_rows.ensures.same db cond one other binding rows others tables first second))
    (λ cond tables rows. c.conjuncts_say_the_condition.ensures.says_true schema db cond (scope_of tables) rows)
    query fits entry (entry_low schema query entry asked) places lead given x y there refuted

pub returns-clause-these_two : goal.returns-clause-these_two
returns-clause-these_two c schema db domains query fits entry asked given places lead without_hold x y first second fitting =
    these_to schema db domains
    (λ cond one other binding rows others tables fits first second.
    c.formulas_depend_on_rows_alone.ensures.says_true schema db cond one other rows others fits
    (c.one_binding_gives_the_same_rows.ensures.same db cond one other binding rows others tables first second))
    (λ cond tables rows. c.conjuncts_say_the_condition.ensures.says_true schema db cond (scope_of tables) rows)
    query fits entry (entry_low schema query entry asked) places lead given without_hold x y first second fitting

pub returns-clause-body : goal.returns-clause-body
returns-clause-body c schema db domains query fits entry asked given places lead =
    body_says schema db domains
    (λ cond one other binding rows others tables fits first second.
    c.formulas_depend_on_rows_alone.ensures.says_true schema db cond one other rows others fits
    (c.one_binding_gives_the_same_rows.ensures.same db cond one other binding rows others tables first second))
    (λ cond tables rows. c.conjuncts_say_the_condition.ensures.says_true schema db cond (scope_of tables) rows)
    query fits entry (entry_low schema query entry asked) places lead given
