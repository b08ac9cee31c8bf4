-- A question that is not asked, and that is undecided though all earlier ones hold: E5 of an entry without rows, where a
-- conjunct that does not name it has a scalar subquery of two rows.
use Rattle.std.specs.Prelude.{pos, [], ◌∷◌, None}
use Rattle.lint_tables.specs.declared.op.Op.TheVariants.{Eq}
use Rattle.lint_core.specs.declared.condition.Cond.{Cond}
use Rattle.lint_core.specs.declared.condition.Cond.TheVariants as c
use Rattle.lint_core.specs.declared.database.Database.{Database}
use Rattle.lint_core.specs.declared.database.Value.TheVariants.{Int}
use Rattle.lint_core.specs.declared.query.Query.{Query}
use Rattle.worked_laws.specs.Examples.{nowhere, number, inner_column, written, query, from_first, from_two, database}

-- `1 = (SELECT the column FROM the first table)`
abbrev pub one_is_the_row : Cond
one_is_the_row = c.Scalar Eq (number 1) (from_first c.True) inner_column nowhere

-- `SELECT the first one's column FROM the first table, the second WHERE 1 = (SELECT ..)`
abbrev pub beside_an_empty_table : Query
beside_an_empty_table = query None written (from_two 1 one_is_the_row)

-- two rows in the first table, and none in the second
abbrev pub two_and_none : Database
two_and_none = database ((Int (pos 1) ∷ Int (pos 1) ∷ []) ∷ [] ∷ [])
