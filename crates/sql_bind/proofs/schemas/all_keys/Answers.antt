use Rattle.std.proofs.Common.{ap, ◌∙◌}
use Rattle.sql_bind.specs.inner.Passes.{behind, keys_named, all_keys}
use Rattle.sql_bind.proofs.Tables.{keys_next, keys_over}
use Rattle.sql_bind.proofs.schemas.all_keys.Goals as goal

pub loop-number-preserved : goal.loop-number-preserved
loop-number-preserved c =
    let named =
    c.in_ok-named.ensures ∙ ap (λ columns. keys_named columns (behind c.as_slice-in-loop-number.result.now)) c.as_slice.ensures
    ∙ ap (λ rules. keys_named c.index-tables-number.result.columns (behind rules)) c.as_slice-in-loop-number.ensures.value
    in
    keys_next c.args.trees.now c.loop-number.keys c.args.tables.now (all_keys c.args.trees.now 0 c.args.tables.now) c.loop-number.number c.loop-number.invariant
    c.index-tables-number.result c.loop-number-test.true c.index-tables-number.is (behind c.in_ok-rules.rules.items) c.in_ok-named.named c.push.new.self c.in_ok-rules.ensures named c.in_ok-push.ensures.ok

pub returns : goal.returns
returns c = keys_over c.args.trees.now c.loop-number.keys c.args.tables.now (all_keys c.args.trees.now 0 c.args.tables.now) c.loop-number.number c.loop-number.invariant c.loop-number-test.false
