use Rattle.std.proofs.Common.{◌≡◌, ◌∙◌, subst}
use Rattle.sql_bind.specs.Bound.{Gives}
use Rattle.sql_bind.specs.Queries.{bind_query}
use Rattle.sql_bind.proofs.QueryAnswers.{answer_fits}
use Rattle.sql_bind.proofs.queries.bind_query.Goals as goal

pub returns-clause-fits : goal.returns-clause-fits
returns-clause-fits c =
    let bound = subst (λ tables. Gives (bind_query tables c.args.tree.now) c.bound_query.result) (c.as_slice.ensures ∙ c.tables.ensures.tables) c.bound_query.ensures in
    answer_fits c.args.schema.now c.args.tree.now c.bound_query.result c.tables.ensures.schema c.requires.shaped bound
