-- Small queries, and databases, for the laws `worked_fitting`, `worked_subqueries` and
-- `worked_databases`: each is made from one row of their lists.
use Rattle.std.specs.Prelude.{ℕ, pos, true, false, List, [], ◌∷◌, map, replicate, codes, Some}
use Rattle.lint_tables.specs.declared.op.Op.{Op}
use Rattle.lint_tables.specs.declared.op.Op.TheVariants.{Lt}
use Rattle.lint_core.specs.declared.condition.Term.{Term}
use Rattle.lint_core.specs.declared.condition.Term.TheVariants as term
use Rattle.lint_core.specs.declared.condition.Block.{Block, roll-Block}
use Rattle.lint_core.specs.declared.condition.Cond.{Cond}
use Rattle.lint_core.specs.declared.condition.Cond.TheVariants as c
use Rattle.lint_core.specs.declared.database.Database.{Database}
use Rattle.lint_core.specs.declared.database.Value.TheVariants.{Int}
use Rattle.lint_core.specs.declared.query.Query.{Query}
use Rattle.lint_core.specs.declared.schema.Domain.TheVariants.{Text}
use Rattle.lint_core.specs.declared.schema.Table.{Table}
use Rattle.worked_laws.specs.Examples.{nowhere, number}
use Rattle.worked_laws.specs.SchemaExamples.{smallint, integer, column, table, comparison}

-- ---- a table of a number and a text, and terms

abbrev pub number_and_text : List Table
number_and_text = table (column smallint ∷ column (Text 9) ∷ []) [] [] [] ∷ []

-- a cell of a level, an entry and a column, with nothing added
abbrev pub cell : ℕ → ℕ → ℕ → Term
cell level entry column = term.Cell level entry column (pos 0)

-- of the first entry of the main query
abbrev pub the_number : Term
the_number = cell 0 0 0

abbrev pub the_text : Term
the_text = cell 0 0 1

-- of the first entry one level further in
abbrev pub inner_number : Term
inner_number = cell 1 0 0

abbrev pub inner_text : Term
inner_text = cell 1 0 1

abbrev pub five : Term
five = number 5

abbrev pub word : Term
word = term.Text (codes "x")

-- ---- conditions

abbrev pub is_null : Term → Cond
is_null t = c.IsNull t false nowhere

-- `FROM` the table of this number, so many times, `WHERE` the condition
abbrev pub from : ℕ → ℕ → Cond → Block
from table count cond = roll-Block (record { entries = replicate count (record { table = table; name = []; span = nowhere }); cond = cond; span = nowhere })

-- the first compared with `(SELECT` the third `FROM` the table of this number `WHERE` the last `< 5)`
abbrev pub with_scalar : Term × Op × Term × ℕ × Term → Cond
with_scalar row = c.Scalar row.1 row.0 (from row.3 1 (comparison (row.4, Lt, five))) row.2 nowhere

-- the text `NOT IN (SELECT` the first `FROM` the table `WHERE` the second `<` the number`)`
abbrev pub not_in : Term × Term → Cond
not_in row = c.In the_text (from 0 1 (comparison (row.1, Lt, the_number))) row.0 true nowhere

abbrev pub exists : Cond → Cond
exists cond = c.Exists (from 0 1 cond) nowhere

-- in an EXISTS in an EXISTS: the term `<` the number of the outer one
abbrev pub two_levels_in : Term → Cond
two_levels_in t = exists (exists (comparison (t, Lt, inner_number)))

-- so many parts, each of them true
abbrev pub trues : ℕ → Cond
trues count = c.And (replicate count c.True)

-- ---- queries

-- `SELECT DISTINCT` the item, so many times, from the block, `ORDER BY` the key
abbrev pub select : Term → ℕ → Block → Term → Query
select item count block key = record {
  distinct = Some nowhere;
  items = replicate count (record { term = item; star = false; span = nowhere });
  block = block;
  order = key ∷ [];
}

-- over two rows of the table, `WHERE` the condition
abbrev pub query_where : Cond → Query
query_where cond = select the_number 1 (from 0 2 cond) the_text

-- the item, how many times, the key, the number of the table, how many times
abbrev pub selection : Term × ℕ × Term × ℕ × ℕ → Query
selection row = select row.0 row.1 (from row.3 row.4 c.True) row.2

-- ---- databases

-- tables of so many columns
abbrev pub tables_of_widths : List ℕ → List Table
tables_of_widths widths = map (λ width. table (replicate width (column integer)) [] [] []) widths

-- one row in each table, of so many values
abbrev pub rows_of_widths : List ℕ → Database
rows_of_widths widths = record { tables = map (λ width. record { values = replicate width (Int (pos 7)) } ∷ []) widths }
