-- What is still to come of a text's pieces, run by run: a run is a comment, a quote, or one byte. It only
-- retells the code: of the part that has begun the first and the last solid byte count.
use Rattle.std.specs.Prelude.{ℕ, ◌+◌, List, [], ◌∷◌, ◌++◌, Option, Some, None, option_to_list}
use Rattle.lint_base.specs.declared.place.Span.{Span}
use Rattle.sql_lex.specs.Classes.{Class, Blank, Solid, Separator, Nothing, classes}

-- from the first solid byte so far to the end of solid bytes at this offset, so many
abbrev pub grown_to : Option Span → ℕ → ℕ → Span
grown_to None at len = record { from = at; to = at + len }
grown_to (Some span) at len = record { from = span.from; to = at + len }

-- what is still to come, where the part that has begun reaches so far
abbrev pub to_come : Option Span → ℕ → List Class → List Span
to_come solid at [] = option_to_list solid
to_come solid at (Separator ∷ cs) = option_to_list solid ++ to_come None (at + 1) cs
to_come solid at (Blank ∷ cs) = to_come solid (at + 1) cs
to_come solid at (Solid ∷ cs) = to_come (Some (grown_to solid at 1)) (at + 1) cs

-- the same behind a run of such bytes, so many; a quote counts as solid, a comment as blank
abbrev pub after_run : Class → ℕ → Option Span → ℕ → List ℕ → List Span
after_run Blank len solid at rest = to_come solid (at + len) (classes Nothing rest)
after_run Solid len solid at rest = to_come (Some (grown_to solid at len)) (at + len) (classes Nothing rest)
after_run Separator len solid at rest = option_to_list solid ++ to_come None (at + len) (classes Nothing rest)
