-- The subquery that a walk over a condition answers.
use Rattle.lint_core.specs.Subqueries as sub
use Rattle.sql_meaning.specs.declared.subqueries.Subquery.{Subquery}
use Rattle.sql_meaning.specs.WholeSubqueries.{WholeSubquery, without_entries}

abbrev pub whole_of : Subquery → WholeSubquery
whole_of s = record { tables = s.tables; block = s.block.now; item = s.item.now; place = s.place }

-- without the entries of its block
abbrev pub subquery_of : Subquery → sub.Subquery
subquery_of s = without_entries (whole_of s)
