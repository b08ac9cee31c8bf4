use Rattle.std.proofs.Common.{arith}
use Rattle.sql_bind.specs.Keys.{key_rules}
use Rattle.sql_bind.specs.inner.Passes.{behind}
use Rattle.sql_bind.proofs.Passes.{keys_full, keys_end}
use Rattle.sql_bind.proofs.keys.key_rules.Goals as goal

pub returns-then-len-ge1000 : goal.returns-then-len-ge1000
returns-then-len-ge1000 c =
    keys_full c.loop-rule.keys.items c.args.rules.now (key_rules (behind c.args.rules.now)) c.loop-rule.rule-index c.loop-rule.invariant.goes_on c.loop-rule.invariant.few (omega arith)

pub returns : goal.returns
returns c =
    keys_end c.loop-rule.keys.items c.args.rules.now (key_rules (behind c.args.rules.now)) c.loop-rule.rule-index c.loop-rule.invariant.goes_on c.loop-rule.invariant.few c.loop-rule-test.false
