use Rattle.std.proofs.Common.{◌≡◌, ◌∙◌, ap, slice_get}
use Rattle.std.specs.Prelude.{option_map}
use Rattle.std.specs.Result.{result_ok}
use Rattle.lint_core.specs.Subqueries.{scalar_subqueries}
use Rattle.sql_meaning.specs.Answered.{whole_of}
use Rattle.sql_meaning.specs.WholeSubqueries.{whole_scalars}
use Rattle.sql_meaning.proofs.Reached.{item_get}
use Rattle.sql_meaning.proofs.WholeSubqueries.{scalars_listed, answer_listed}
use Rattle.sql_meaning.proofs.subqueries.scalar_subquery.Goals as goal

pub returns-in-Ok : goal.returns-in-Ok
returns-in-Ok c =
    let cond = c.args.cond.now in
    let tables = c.args.tables.now in
    let n = c.args.number in
    let whole : option_map whole_of c.subquery.result ≡ slice_get (whole_scalars cond tables) n = c.subquery.ensures ∙ (ap result_ok c.in-Ok.ensures ∙ item_get (whole_scalars cond tables) n) in
    record { whole = whole; listed = answer_listed c.subquery.result (whole_scalars cond tables) (scalar_subqueries cond tables) n (scalars_listed cond tables) whole }
