use Rattle.std.proofs.Common.{◌≡◌, ◌++◌, drop}
use Rattle.sql_bind.specs.inner.Passes.{all_keys}
use Rattle.sql_bind.proofs.schemas.all_keys.Given as goal

abbrev pub invariant-loop-number : goal.invariant-loop-number
invariant-loop-number l = l.keys ++ all_keys l.trees l.number (drop l.number l.tables) ≡ all_keys l.trees 0 l.tables
