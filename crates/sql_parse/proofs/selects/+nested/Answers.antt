use Rattle.std.proofs.Common.{sym}
use Rattle.sql_parse.specs.grammar.Words.{AND, OR}
use Rattle.sql_parse.specs.inner.readers.Tokens.{is_word}
use Rattle.sql_parse.specs.inner.readers.Selects.{read_cond, read_factor, read_subquery}
use Rattle.sql_parse.proofs.Separated.{gathered_smaller}
use Rattle.sql_parse.proofs.Shorter.{factor_shorter, conjunction_shorter, join_shorter}
use Rattle.sql_parse.proofs.Groups.{groups_smaller}
use Rattle.sql_parse.proofs.PredicateParts.{gives_same, reads_values, reads_between, reads_null}
use Rattle.sql_parse.proofs.Conditions.{below}
use Rattle.sql_parse.proofs.selects.+nested.Goals as goal

pub condition-loop-after-smaller : goal.condition-loop-after-smaller
condition-loop-after-smaller t c =
    let nesting = c.args.nesting in
    gathered_smaller (is_word OR) (below nesting.flat nesting.depth) (conjunction_shorter nesting.flat _)
    c.loop-after.rest.now c.in-Some.after.now c.in_ok-part.left.now c.in-Some.field-0-0.now c.in_ok-part.part c.in-Some.ensures.1 c.in_ok-part.ensures

pub conjunction-loop-after-smaller : goal.conjunction-loop-after-smaller
conjunction-loop-after-smaller t c =
    let nesting = c.args.nesting in
    gathered_smaller (is_word AND) (read_factor nesting.flat (read_cond nesting.flat nesting.depth)) (factor_shorter nesting.flat nesting.depth)
    c.loop-after.rest.now c.in-Some.after.now c.in_ok-part.left.now c.in-Some.field-0-0.now c.in_ok-part.part c.in-Some.ensures.1 c.in_ok-part.ensures

pub group-joins-smaller : goal.group-joins-smaller
group-joins-smaller t c =
    let nesting = c.args.nesting in
    join_shorter nesting.flat nesting.depth c.args.first c.joins.rest.now c.in_ok-joined.joined c.in_ok-joined.after.now c.in_ok-joined.ensures

pub groups-groups-smaller : goal.groups-groups-smaller
groups-groups-smaller t c =
    let nesting = c.args.nesting in
    groups_smaller nesting.flat nesting.depth c.groups.rest.now c.in-Some.after.now c.in_ok-others.after.now c.in-Some.field-0-0.now c.in_ok-first.first c.in_ok-others.others c.in-Some.ensures.1 c.in_ok-others.ensures

pub in_rest-returns : goal.in_rest-returns
in_rest-returns t c =
    let sub = read_subquery c.args.nesting.flat (read_cond c.args.nesting.flat c.args.nesting.depth) in
    gives_same _ _ c.values_rest.result
    (reads_values sub c.args.tokens.now c.args.term c.args.negated c.args.rest.now c.in_ok-inside.inside.now c.in_ok-inside.field-0-0.now c.in_ok-inside.ensures (sym c.if-at.ensures))
    (c.values_rest.ensures sub)

pub negatable-returns-in-Some : goal.negatable-returns-in-Some
negatable-returns-in-Some t c =
    let sub = read_subquery c.args.nesting.flat (read_cond c.args.nesting.flat c.args.nesting.depth) in
    gives_same _ _ c.between_rest.result
    (reads_between sub c.args.tokens.now c.args.term c.args.negated c.args.rest.now c.in-Some.rest.now c.in-Some.field-0-0.now c.in-Some.ensures.0 c.in-Some.ensures.1)
    (c.between_rest.ensures sub)

pub predicate-returns-in-Some-next : goal.predicate-returns-in-Some-next
predicate-returns-in-Some-next t c =
    let sub = read_subquery c.args.nesting.flat (read_cond c.args.nesting.flat c.args.nesting.depth) in
    gives_same _ _ c.null_rest.result
    (reads_null sub c.args.tokens.now c.in_ok-term.term c.in_ok-term.rest.now c.in_ok-term.ensures c.in-Some-next.rest.now c.in-Some-next.field-0-0.now c.in_default.ensures c.in-Some-next.ensures.0 c.in-Some-next.ensures.1)
    (c.null_rest.ensures sub)
