-- What is looked for among earlier questions and their answers.
use Rattle.std.specs.Prelude.{Bool}
use Rattle.lint_engine.specs.declared.earlier.Sought.{Sought}
use Rattle.lint_engine.specs.declared.earlier.Sought.TheVariants.{OpenOneRow, OpenEmpty, AlwaysEmpty}
use Rattle.lint_engine.specs.Earlier.{Answered, is_open_one_row, is_open_empty, is_always_empty}

abbrev pub is_sought : Sought → Answered → Bool
is_sought OpenOneRow = is_open_one_row
is_sought OpenEmpty = is_open_empty
is_sought AlwaysEmpty = is_always_empty
