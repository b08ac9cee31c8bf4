use Rattle.sort_formula.specs.Sides.{scope_of}
use Rattle.counter_laws.proofs.Whole.{points_at, rows_at}
use Rattle.counter_laws.proofs.laws.bodies_say_that_points_refute.Goals as goal

pub returns-clause-points : goal.returns-clause-points
returns-clause-points c schema db domains query fits question asked given places lead holding =
    points_at schema db domains
    (λ cond one other binding rows others tables fits first second.
    c.formulas_depend_on_rows_alone.ensures.says_true schema db cond one other rows others fits
    (c.one_binding_gives_the_same_rows.ensures.same db cond one other binding rows others tables first second))
    (λ cond scope binding rows more stands. c.rows_may_follow.ensures.stands db cond scope binding rows more stands)
    (λ cond tables rows. c.conjuncts_say_the_condition.ensures.says_true schema db cond (scope_of tables) rows)
    query fits
    (λ number s at. c.parts_of_queries_fit.ensures.scalars schema query number s fits at)
    (λ number s at. c.parts_of_queries_fit.ensures.not_ins schema query number s fits at)
    given question asked places lead holding

pub returns-clause-body : goal.returns-clause-body
returns-clause-body c schema db domains query fits question asked given places lead fitting there refuted =
    rows_at schema db domains
    (λ cond one other binding rows others tables fits first second.
    c.formulas_depend_on_rows_alone.ensures.says_true schema db cond one other rows others fits
    (c.one_binding_gives_the_same_rows.ensures.same db cond one other binding rows others tables first second))
    (λ cond scope binding rows more stands. c.rows_may_follow.ensures.stands db cond scope binding rows more stands)
    (λ cond tables rows. c.conjuncts_say_the_condition.ensures.says_true schema db cond (scope_of tables) rows)
    query fits
    (λ number s at. c.parts_of_queries_fit.ensures.scalars schema query number s fits at)
    (λ number s at. c.parts_of_queries_fit.ensures.not_ins schema query number s fits at)
    given question asked places lead fitting there refuted
