-- Small examples of what SQL means, for the laws `worked_truths`, `worked_constraints`, `worked_asking` and `worked_refuting`:
-- conditions over a first table of one column, tables of one column with one constraint each, and queries of
-- such tables.
use Rattle.std.specs.Prelude.{ℕ, pos, neg_ℤ, true, false, List, [], ◌∷◌, map, Option, Some, None}
use Rattle.lint_base.specs.declared.place.Span.{Span}
use Rattle.lint_tables.specs.declared.op.Op.TheVariants.{Eq, Gt}
use Rattle.lint_core.specs.declared.condition.Term.{Term}
use Rattle.lint_core.specs.declared.condition.Term.TheVariants as term
use Rattle.lint_core.specs.declared.condition.Block.{Block, roll-Block}
use Rattle.lint_core.specs.declared.condition.Cond.{Cond}
use Rattle.lint_core.specs.declared.condition.Cond.TheVariants as c
use Rattle.lint_core.specs.declared.database.Value.{Value}
use Rattle.lint_core.specs.declared.database.Binding.{Binding}
use Rattle.lint_core.specs.declared.query.Item.{Item}
use Rattle.lint_core.specs.declared.query.Query.{Query}
use Rattle.lint_core.specs.declared.database.Database.{Database}
use Rattle.lint_core.specs.declared.schema.Unit.TheVariants.{Whole}
use Rattle.lint_core.specs.declared.schema.Domain.TheVariants.{Number}
use Rattle.lint_core.specs.declared.schema.Key.{Key}
use Rattle.lint_core.specs.declared.schema.ForeignKey.{ForeignKey}
use Rattle.lint_core.specs.declared.schema.Table.{Table}

abbrev pub nowhere : Span
nowhere = record { from = 0; to = 0 }

-- ---- conditions, with no level outside

abbrev pub number : ℕ → Term
number n = term.Number (pos n) Whole

-- the column of the first entry of the one level there is
abbrev pub the_column : Term
the_column = term.Cell 0 0 0 (pos 0)

-- `FROM` the first table `WHERE` the condition
abbrev pub from_first : Cond → Block
from_first cond = roll-Block (record { entries = record { table = 0; name = []; span = nowhere } ∷ []; cond = cond; span = nowhere })

-- `NULL = NULL`
abbrev pub null_equals_null : Cond
null_equals_null = c.Compare Eq term.Null term.Null nowhere

-- `1 NOT IN (SELECT the column FROM the first table)`
abbrev pub one_is_not_in : Cond
one_is_not_in = c.In (number 1) (from_first c.True) the_column true nowhere

-- `1 = (SELECT the column FROM the first table)`
abbrev pub one_equals_the_row : Cond
one_equals_the_row = c.Scalar Eq (number 1) (from_first c.True) the_column nowhere

-- `1 = 0 AND 1 = (SELECT ..)`, whose first part alone is false
abbrev pub false_and_the_row : Cond
false_and_the_row = c.And (c.False ∷ one_equals_the_row ∷ [])

-- `EXISTS (SELECT * FROM the first table WHERE the column = NULL)`
abbrev pub exists_null : Cond
exists_null = c.Exists (from_first (c.Compare Eq the_column term.Null nowhere)) nowhere

-- the database whose tables of one column have these values, each in a row of its own
abbrev pub database : List (List Value) → Database
database tables = record { tables = map (λ values. map (λ value. record { values = value ∷ [] }) values) tables }

-- ---- tables of one SMALLINT column

abbrev pub table : List Key → List Cond → List ForeignKey → Table
table keys checks foreign = record {
  name = [];
  columns = record { name = []; domain = Number (neg_ℤ (pos 32768)) (pos 32767) Whole; not_null = false } ∷ [];
  keys = keys;
  checks = checks;
  foreign = foreign;
}

-- one without constraints
abbrev pub plain : List Table
plain = table [] [] [] ∷ []

-- one with `UNIQUE` on the column
abbrev pub unique : List Table
unique = table (record { columns = 0 ∷ [] } ∷ []) [] [] ∷ []

-- one with `CHECK (the column > 0)`
abbrev pub checked : List Table
checked = table [] (c.Compare Gt the_column (number 0) nowhere ∷ []) [] ∷ []

-- one whose column refers to the other's, which is a key there
abbrev pub referring : List Table
referring =
    table [] [] (record { columns = 0 ∷ []; target = 1; target_columns = 0 ∷ [] } ∷ [])
    ∷ table (record { columns = 0 ∷ [] } ∷ []) [] [] ∷ []

-- ---- queries of the first table, at level 0, and what is selected from it one level further in

-- the column, written, or from `*`
abbrev pub written : Item
written = record { term = the_column; star = false; span = nowhere }

abbrev pub starred : Item
starred = record { term = the_column; star = true; span = nowhere }

-- the column of the first entry of a subquery
abbrev pub inner_column : Term
inner_column = term.Cell 1 0 0 (pos 0)

abbrev pub query : Option Span → Item → Block → Query
query distinct item block = record { distinct = distinct; items = item ∷ []; block = block; order = [] }

-- `SELECT * FROM the first table`
abbrev pub select_star : Query
select_star = query None starred (from_first c.True)

-- `SELECT DISTINCT the column FROM the first table`
abbrev pub select_distinct : Query
select_distinct = query (Some nowhere) written (from_first c.True)

-- `SELECT the column FROM the first table WHERE the column = 1`
abbrev pub where_one : Query
where_one = query None written (from_first (c.Compare Eq the_column (number 1) nowhere))

-- `.. WHERE the column > (SELECT the column FROM the first table)`
abbrev pub above_the_row : Query
above_the_row = query None written (from_first (c.Scalar Gt the_column (from_first c.True) inner_column nowhere))

-- `.. WHERE the column NOT IN (SELECT the column FROM the first table)`
abbrev pub not_among : Query
not_among = query None written (from_first (c.In the_column (from_first c.True) inner_column true nowhere))

-- `FROM` the first table and the table of this number `WHERE` the condition
abbrev pub from_two : ℕ → Cond → Block
from_two other cond = roll-Block (record {
  entries = record { table = 0; name = []; span = nowhere } ∷ record { table = other; name = []; span = nowhere } ∷ [];
  cond = cond;
  span = nowhere;
})

-- `SELECT its column FROM the first table, the second WHERE the two columns are equal`
abbrev pub joined : Query
joined = query None written (from_two 1 (c.Compare Eq the_column (term.Cell 0 1 0 (pos 0)) nowhere))

-- `SELECT its column FROM the first table, the first table`
abbrev pub twice : Query
twice = query None written (from_two 0 c.True)

-- the rows of each level
abbrev pub rows : List (List ℕ) → Binding
rows levels = record { levels = levels }
