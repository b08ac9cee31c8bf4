-- The value that is seen where it stands.
use Rattle.std.specs.Prelude.{Option, Some, None}
use Rattle.std.specs.Borrow.{Bor}
use Rattle.lint_core.specs.declared.database.Value.{Value}
use Rattle.lint_core.specs.declared.database.Value.TheVariants as value
use Rattle.case_split.specs.declared.trying.Seen.{Seen}
use Rattle.case_split.specs.declared.trying.Seen.TheVariants as seen

abbrev pub value_of : Seen → Value
value_of seen.Null = value.Null
value_of (seen.Number n) = value.Int n
value_of (seen.Text text) = value.Text text.now

-- what is found, or NULL
abbrev pub value_in : Option (Bor Value) → Value
value_in (Some found) = found.now
value_in None = value.Null
