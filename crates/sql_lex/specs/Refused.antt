-- What a lexer that stopped tells of its text.
use Rattle.std.specs.Prelude.{ℕ, List}
use Rattle.lint_base.specs.declared.place.TextStop.{TextStop}
use Rattle.lint_base.specs.declared.place.TextStop.TheVariants as stop
use Rattle.sql_lex.specs.Faults.{IsFaulty}

-- unless memory ran out, the text from this offset on has this fault
abbrev pub IsRefused : ℕ → List ℕ → TextStop → Type 0
IsRefused at text stop.NoMemory = Unit {0}
IsRefused at text (stop.Refused refusal) = IsFaulty at text refusal
