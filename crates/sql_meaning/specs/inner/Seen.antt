-- The value that an evaluation sees.
use Rattle.std.specs.Prelude.{List, Option, Some, None, map}
use Rattle.std.specs.Borrow.{Bor}
use Rattle.lint_core.specs.declared.database.Value.{Value}
use Rattle.lint_core.specs.declared.database.Value.TheVariants as value
use Rattle.sql_meaning.specs.declared.value.Seen.{Seen}
use Rattle.sql_meaning.specs.declared.value.Seen.TheVariants as seen

abbrev pub value_of : Seen → Value
value_of seen.Null = value.Null
value_of (seen.Number n) = value.Int n
value_of (seen.Text text) = value.Text text.now

-- what is found, or NULL
abbrev pub value_in : Option (Bor Value) → Value
value_in (Some found) = found.now
value_in None = value.Null

-- the values of all of them
abbrev pub values_of : List Seen → List Value
values_of = map value_of
