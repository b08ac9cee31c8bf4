-- Where a piece lies.
use Rattle.std.specs.Prelude.{ℕ, ◌<◌, ◌≤◌}
use Rattle.lint_base.specs.declared.place.Span.{Span}

-- the span has bytes, and a text of this length has them all
abbrev pub IsWithin : ℕ → Span → Type 0
IsWithin len span = (span.from < span.to) × (span.to ≤ len)
