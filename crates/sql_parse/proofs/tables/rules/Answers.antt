use Rattle.std.proofs.Common.{◌≡◌, false, true, length, sym, ◌∙◌}
use Rattle.std.proofs.lemmas.Result.{err_from_is_err_and}
use Rattle.sql_parse.specs.inner.readers.Tokens.{found, at_head}
use Rattle.sql_parse.specs.inner.readers.Leaves.{alone}
use Rattle.sql_parse.specs.inner.readers.Tables.{begins_rule, read_named_rule, read_rules}
use Rattle.sql_parse.proofs.Shorter.{named_rule_below, named_rule_shorter}
use Rattle.sql_parse.proofs.Collected.{collected_start, collected_step, stops, ends, stops_whole}
use Rattle.sql_parse.proofs.tables.rules.Goals as goal

pub loop-alloc-init : goal.loop-alloc-init
unfolding read_rules
loop-alloc-init c = collected_start (at_head begins_rule) (read_named_rule c.args.depth c.args.column.now) c.new-rules.result c.args.tokens.now c.new-rules.ensures

pub returns-in_err-rule : goal.returns-in_err-rule
returns-in_err-rule c =
    let read = read_named_rule c.args.depth c.args.column.now in
    let so_far = c.loop-alloc.rules in
    let rest = c.loop-alloc.rest.now in
    let p = err_from_is_err_and c.from_residual.result c.from_residual.ensures.1 in
    let begun : at_head begins_rule rest ≡ true = sym c.at_rule.ensures ∙ c.loop-alloc-test.true in
    rw (p.1, p.2) (stops_whole _ _ _ c.loop-alloc.invariant (stops (at_head begins_rule) read (λ parts after. found parts after) (named_rule_below c.args.depth c.args.column.now) c.in_err-rule.field-0.0 so_far (length so_far) rest begun (c.in_err-rule.ensures (length so_far))))

pub loop-alloc-smaller : goal.loop-alloc-smaller
loop-alloc-smaller c = named_rule_shorter c.args.depth c.args.column.now 0 c.loop-alloc.rest.now (alone c.in_ok-rule.rule) c.in_ok-rule.after.now (c.in_ok-rule.ensures 0)

pub loop-alloc-preserved : goal.loop-alloc-preserved
loop-alloc-preserved c =
    let so_far = c.loop-alloc.rules in
    let rest = c.loop-alloc.rest.now in
    let begun : at_head begins_rule rest ≡ true = sym c.at_rule.ensures ∙ c.loop-alloc-test.true in
    collected_step (at_head begins_rule) (read_named_rule c.args.depth c.args.column.now) (named_rule_below c.args.depth c.args.column.now) so_far c.add_optional.new.items (alone c.in_ok-rule.rule) rest c.in_ok-rule.after.now begun (c.in_ok-rule.ensures (length so_far)) c.in_ok-add_optional.ensures.ok
    ∙ c.loop-alloc.invariant

pub returns : goal.returns
returns c =
    let so_far = c.loop-alloc.rules in
    let over : at_head begins_rule c.loop-alloc.rest.now ≡ false = sym c.at_rule.ensures ∙ c.loop-alloc-test.false in
    sym c.loop-alloc.invariant ∙ ends (at_head begins_rule) (read_named_rule c.args.depth c.args.column.now) (λ parts after. found parts after) so_far (length so_far) c.loop-alloc.rest.now over
