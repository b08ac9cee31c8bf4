use Rattle.std.proofs.Common.{◌≡◌, ◌++◌, drop}
use Rattle.sql_bind.specs.Selects.{star_items}
use Rattle.sql_bind.proofs.selects.all_columns.Given as goal

abbrev pub invariant-loop-number : goal.invariant-loop-number
invariant-loop-number l = l.items ++ star_items l.tables l.level l.at l.number (drop l.number l.entries) ≡ star_items l.tables l.level l.at 0 l.entries
