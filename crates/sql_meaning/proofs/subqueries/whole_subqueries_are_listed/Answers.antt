use Rattle.sql_meaning.proofs.WholeSubqueries.{scalars_listed, not_ins_listed}
use Rattle.sql_meaning.proofs.subqueries.whole_subqueries_are_listed.Goals as goal

pub returns-clause-scalars : goal.returns-clause-scalars
returns-clause-scalars c = scalars_listed

pub returns-clause-not_ins : goal.returns-clause-not_ins
returns-clause-not_ins c = not_ins_listed
