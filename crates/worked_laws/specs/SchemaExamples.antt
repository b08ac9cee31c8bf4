-- Small schemas for the laws `worked_schemas` and `worked_checks`: each is made from one row of their lists.
use Rattle.std.specs.Prelude.{ℕ, ◌-◌, pos, neg_ℤ, false, List, [], ◌∷◌, ◌++◌, replicate}
use Rattle.lint_tables.specs.declared.op.Op.{Op}
use Rattle.lint_core.specs.declared.condition.Term.{Term}
use Rattle.lint_core.specs.declared.condition.Cond.{Cond}
use Rattle.lint_core.specs.declared.condition.Cond.TheVariants as c
use Rattle.lint_core.specs.declared.schema.Unit.TheVariants.{Whole}
use Rattle.lint_core.specs.declared.schema.Domain.{Domain}
use Rattle.lint_core.specs.declared.schema.Domain.TheVariants.{Number, Text}
use Rattle.lint_core.specs.declared.schema.Column.{Column}
use Rattle.lint_core.specs.declared.schema.Key.{Key}
use Rattle.lint_core.specs.declared.schema.ForeignKey.{ForeignKey}
use Rattle.lint_core.specs.declared.schema.Table.{Table}
use Rattle.worked_laws.specs.Examples.{nowhere}

-- the whole numbers from minus the one to the other
abbrev pub numbers : ℕ → ℕ → Domain
numbers least greatest = Number (neg_ℤ (pos least)) (pos greatest) Whole

abbrev pub smallint : Domain
smallint = numbers 32768 32767

abbrev pub integer : Domain
integer = numbers 2147483648 2147483647

abbrev pub column : Domain → Column
column domain = record { name = []; domain = domain; not_null = false }

abbrev pub table : List Column → List Key → List Cond → List ForeignKey → Table
table columns keys checks foreign = record { name = []; columns = columns; keys = keys; checks = checks; foreign = foreign }

-- a table of a SMALLINT column and one of this domain
abbrev pub with_domain : Domain → List Table
with_domain domain = table (column smallint ∷ column domain ∷ []) [] [] [] ∷ []

-- So many tables, of one SMALLINT column but for the last. That has so many such columns, and so many times the key of
-- the first column, the CHECK that is always true, and a foreign key of the first column to itself.
abbrev pub with_sizes : ℕ × ℕ × ℕ × ℕ × ℕ → List Table
with_sizes sizes =
    replicate (sizes.0 - 1) (table (column smallint ∷ []) [] [] [])
    ++ table
    (replicate sizes.1 (column smallint))
    (replicate sizes.2 (record { columns = 0 ∷ [] }))
    (replicate sizes.3 c.True)
    (replicate sizes.4 (record { columns = 0 ∷ []; target = sizes.0 - 1; target_columns = 0 ∷ [] }))
    ∷ []

abbrev pub number_text_number : List Column
number_text_number = column smallint ∷ column (Text 9) ∷ column integer ∷ []

-- a table of a number, a text and a number, with the key of these columns
abbrev pub with_key : List ℕ → List Table
with_key columns = table number_text_number (record { columns = columns } ∷ []) [] [] ∷ []

-- A table of two numbers and two texts, with a key of the first column and one of the second and third; and a table of a
-- number, a text and a number, with a key of the first. It has the foreign key of these columns, to the table of this
-- number, and to these columns there.
abbrev pub with_foreign : List ℕ × ℕ × List ℕ → List Table
with_foreign foreign =
    table
    (column integer ∷ column smallint ∷ column (Text 9) ∷ column (Text 9) ∷ [])
    (record { columns = 0 ∷ [] } ∷ record { columns = 1 ∷ 2 ∷ [] } ∷ [])
    [] []
    ∷ table
    number_text_number
    (record { columns = 0 ∷ [] } ∷ [])
    []
    (record { columns = foreign.0; target = foreign.1; target_columns = foreign.2 } ∷ [])
    ∷ []

-- a table of a number and a text, with this CHECK
abbrev pub with_check : Cond → List Table
with_check check = table (column smallint ∷ column (Text 9) ∷ []) [] (check ∷ []) [] ∷ []

-- a comparison, as it is written
abbrev pub comparison : Term × Op × Term → Cond
comparison row = c.Compare row.1 row.0 row.2 nowhere

-- the condition, and how it stands in others
abbrev pub each_form : Cond → List Cond
each_form cond = cond ∷ c.Not cond ∷ c.And (c.False ∷ cond ∷ []) ∷ c.Or (c.False ∷ cond ∷ []) ∷ []
