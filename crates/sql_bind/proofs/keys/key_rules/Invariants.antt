use Rattle.std.proofs.Common.{◌≡◌, ◌≤◌, ◌++◌, length, take, drop}
use Rattle.std.specs.List.{filter}
use Rattle.sql_bind.specs.Keys.{is_key_rule, key_rules}
use Rattle.sql_bind.specs.inner.Passes.{behind}
use Rattle.sql_bind.proofs.keys.key_rules.Given as goal

-- the keys so far, with those of the rest, are all, of which the first 1,000 count
abbrev pub invariant-loop-rule : goal.invariant-loop-rule
invariant-loop-rule l = record {
  few : length l.keys.items ≤ 1000;
  goes_on : take 1000 (behind l.keys.items ++ filter is_key_rule (behind (drop l.rule-index l.rules))) ≡ key_rules (behind l.rules);
}
