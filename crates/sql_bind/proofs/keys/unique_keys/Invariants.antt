use Rattle.std.proofs.Common.{◌≡◌, ◌++◌, drop}
use Rattle.std.specs.List.{filter_map}
use Rattle.sql_bind.specs.Keys.{unique_columns}
use Rattle.sql_bind.specs.inner.Passes.{behind}
use Rattle.sql_bind.proofs.keys.unique_keys.Given as goal

abbrev pub invariant-loop-rule : goal.invariant-loop-rule
invariant-loop-rule l = l.unique ++ filter_map (unique_columns l.columns) (behind (drop l.rule-index l.keys)) ≡ filter_map (unique_columns l.columns) (behind l.keys)
