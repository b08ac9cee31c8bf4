use Rattle.counter_laws.proofs.RowByRow.{says}
use Rattle.counter_laws.proofs.laws.leading_rows_refute.Goals as goal

pub returns : goal.returns
returns c schema db domains query fits question asked unjoined given places lead =
    says schema db domains
    (λ cond one other binding rows others tables fits first second.
    c.formulas_depend_on_rows_alone.ensures.says_true schema db cond one other rows others fits
    (c.one_binding_gives_the_same_rows.ensures.same db cond one other binding rows others tables first second))
    (λ cond scope binding rows more stands. c.rows_may_follow.ensures.stands db cond scope binding rows more stands)
    query fits
    (λ number s at. c.parts_of_queries_fit.ensures.scalars schema query number s fits at)
    (λ number s at. c.parts_of_queries_fit.ensures.not_ins schema query number s fits at)
    question asked unjoined given places lead
