use Rattle.std.proofs.Common.{◌≡◌, drop}
use Rattle.sql_bind.specs.Keys.{primary_key}
use Rattle.sql_bind.specs.inner.Passes.{behind}
use Rattle.sql_bind.proofs.keys.primary_key.Given as goal

abbrev pub invariant-loop-rule : goal.invariant-loop-rule
invariant-loop-rule l = primary_key l.columns (behind (drop l.rule-index l.keys)) ≡ primary_key l.columns (behind l.keys)
