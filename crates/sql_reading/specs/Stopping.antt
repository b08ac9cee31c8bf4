-- Why a reading stops: memory ran out, or the text is refused for the cause that is told.
use Rattle.std.specs.Prelude.{ℕ, List}
use Rattle.lint_base.specs.declared.place.Span.{Span}
use Rattle.lint_base.specs.declared.place.TextStop.{TextStop}
use Rattle.lint_base.specs.declared.place.TextStop.TheVariants.{NoMemory, Refused}
use Rattle.lint_core.specs.declared.schema.Table.{Table}
use Rattle.sql_reading.specs.TextReading.{RefusesSchema, RefusesQuery}

-- unless memory ran out, the text declares no schema, for the cause that is told
abbrev pub StopsSchema : List ℕ → TextStop → Type 0
StopsSchema text NoMemory = Unit {0}
StopsSchema text (Refused refusal) = RefusesSchema text refusal

-- unless memory ran out, the piece is no query, for the cause that is told
abbrev pub StopsQuery : List Table → List ℕ → Span → TextStop → Type 0
StopsQuery schema text piece NoMemory = Unit {0}
StopsQuery schema text piece (Refused refusal) = RefusesQuery schema text piece refusal
