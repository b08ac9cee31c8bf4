use Rattle.std.proofs.Common.{◌≡◌, drop}
use Rattle.lint_core.specs.Schema.{are_tables}
use Rattle.lint_core.proofs.schema.are_tables.Given as goal

-- all so far are right
abbrev pub invariant-loop-number : goal.invariant-loop-number
invariant-loop-number l = are_tables l.tables l.number (drop l.number l.tables) ≡ are_tables l.tables 0 l.tables
