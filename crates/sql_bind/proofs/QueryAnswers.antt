-- What a call answers fits.
use Rattle.std.proofs.Common.{◌≡◌, true, List, Result, Ok, Err, IfOk}
use Rattle.lint_base.specs.declared.place.TextStop.{TextStop}
use Rattle.sql_tree.specs.declared.select.QueryTree.{QueryTree}
use Rattle.lint_core.specs.declared.query.Query.{Query}
use Rattle.lint_core.specs.declared.schema.Table.{Table}
use Rattle.lint_core.specs.Fits.{query_fits}
use Rattle.lint_core.specs.Schema.{is_schema}
use Rattle.sql_bind.specs.Bound.{Gives}
use Rattle.sql_bind.specs.Queries.{bind_query}
use Rattle.sql_bind.specs.Shape.{query_shaped}
use Rattle.sql_bind.proofs.FitsQueries.{query_bound_fits}

pub answer_fits : (schema : List Table) (tree : QueryTree) (result : Result Query TextStop) → is_schema schema ≡ true → query_shaped tree ≡ true → Gives (bind_query schema tree) result → IfOk result (λ query. query_fits schema query ≡ true)
answer_fits schema tree (Ok query) good shaped is = query_bound_fits schema tree query good shaped is
answer_fits schema tree (Err stop) good shaped is = tt
