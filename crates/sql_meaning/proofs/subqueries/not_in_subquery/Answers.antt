use Rattle.std.proofs.Common.{◌≡◌, ◌∙◌, ap, slice_get}
use Rattle.std.specs.Prelude.{option_map}
use Rattle.std.specs.Result.{result_ok}
use Rattle.lint_core.specs.Subqueries.{not_in_subqueries}
use Rattle.sql_meaning.specs.Answered.{whole_of}
use Rattle.sql_meaning.specs.WholeSubqueries.{whole_not_ins}
use Rattle.sql_meaning.proofs.Reached.{item_get}
use Rattle.sql_meaning.proofs.WholeSubqueries.{not_ins_listed, answer_listed}
use Rattle.sql_meaning.proofs.subqueries.not_in_subquery.Goals as goal

pub returns-in-Ok : goal.returns-in-Ok
returns-in-Ok c =
    let cond = c.args.cond.now in
    let tables = c.args.tables.now in
    let n = c.args.number in
    let whole : option_map whole_of c.subquery.result ≡ slice_get (whole_not_ins cond tables) n = c.subquery.ensures ∙ (ap result_ok c.in-Ok.ensures ∙ item_get (whole_not_ins cond tables) n) in
    record { whole = whole; listed = answer_listed c.subquery.result (whole_not_ins cond tables) (not_in_subqueries cond tables) n (not_ins_listed cond tables) whole }
