use Rattle.std.proofs.Common.{◌≡◌, ◌+◌, ◌*◌, length}
use Rattle.sql_parse.specs.inner.readers.Tokens.{is_word, read_separated}
use Rattle.sql_parse.specs.grammar.Words.{AND, OR}
use Rattle.sql_parse.specs.inner.readers.Selects.{read_cond, read_conjunction, read_factor, read_group, read_groups}
use Rattle.sql_parse.proofs.Separated.{gathered}
use Rattle.sql_parse.proofs.Groups.{with_joins, with_groups}
use Rattle.sql_parse.proofs.selects.+nested.Given as goal

-- a whole condition reads its parts at the depth below its own
abbrev pub decreases-condition : goal.decreases-condition
decreases-condition l = l.nesting.depth * 16

abbrev pub decreases-conjunction : goal.decreases-conjunction
decreases-conjunction l = l.nesting.depth * 16 + 15

abbrev pub decreases-factor : goal.decreases-factor
decreases-factor l = l.nesting.depth * 16 + 14

abbrev pub decreases-primary : goal.decreases-primary
decreases-primary l = l.nesting.depth * 16 + 13

abbrev pub decreases-parenthesized : goal.decreases-parenthesized
decreases-parenthesized l = l.nesting.depth * 16 + 1

abbrev pub decreases-exists : goal.decreases-exists
decreases-exists l = l.nesting.depth * 16 + 12

abbrev pub decreases-predicate : goal.decreases-predicate
decreases-predicate l = l.nesting.depth * 16 + 12

abbrev pub decreases-negatable : goal.decreases-negatable
decreases-negatable l = l.nesting.depth * 16 + 11

abbrev pub decreases-in_rest : goal.decreases-in_rest
decreases-in_rest l = l.nesting.depth * 16 + 10

abbrev pub decreases-comparison_rest : goal.decreases-comparison_rest
decreases-comparison_rest l = l.nesting.depth * 16 + 10

abbrev pub decreases-subquery : goal.decreases-subquery
decreases-subquery l = l.nesting.depth * 16 + 9

abbrev pub decreases-select : goal.decreases-select
decreases-select l = l.nesting.depth * 16 + 8

abbrev pub decreases-filter : goal.decreases-filter
decreases-filter l = l.nesting.depth * 16 + 1

abbrev pub decreases-groups : goal.decreases-groups
decreases-groups l = l.nesting.depth * 16 + 7

abbrev pub decreases-group : goal.decreases-group
decreases-group l = l.nesting.depth * 16 + 6

abbrev pub decreases-join : goal.decreases-join
decreases-join l = l.nesting.depth * 16 + 5

abbrev pub decreases-inner_joined : goal.decreases-inner_joined
decreases-inner_joined l = l.nesting.depth * 16 + 4

abbrev pub invariant-condition-loop-after : goal.invariant-condition-loop-after
invariant-condition-loop-after l =
    let read = read_conjunction l.inner.flat (read_cond l.inner.flat l.inner.depth) in
    gathered (is_word OR) read l.parts l.rest ≡ read_separated (is_word OR) read l.tokens

abbrev pub decreases-condition-loop-after : goal.decreases-condition-loop-after
decreases-condition-loop-after l = length l.rest

abbrev pub invariant-conjunction-loop-after : goal.invariant-conjunction-loop-after
invariant-conjunction-loop-after l =
    let read = read_factor l.nesting.flat (read_cond l.nesting.flat l.nesting.depth) in
    gathered (is_word AND) read l.parts l.rest ≡ read_separated (is_word AND) read l.tokens

abbrev pub decreases-conjunction-loop-after : goal.decreases-conjunction-loop-after
decreases-conjunction-loop-after l = length l.rest

abbrev pub invariant-group-joins : goal.invariant-group-joins
invariant-group-joins l = with_joins l.nesting.flat l.nesting.depth l.first l.entries l.rest ≡ read_group l.nesting.flat (read_cond l.nesting.flat l.nesting.depth) l.first l.tokens

abbrev pub decreases-group-joins : goal.decreases-group-joins
decreases-group-joins l = length l.rest

abbrev pub invariant-groups-groups : goal.invariant-groups-groups
invariant-groups-groups l = with_groups l.nesting.flat l.nesting.depth l.entries l.rest ≡ read_groups l.nesting.flat (read_cond l.nesting.flat l.nesting.depth) l.tokens

abbrev pub decreases-groups-groups : goal.decreases-groups-groups
decreases-groups-groups l = length l.rest
