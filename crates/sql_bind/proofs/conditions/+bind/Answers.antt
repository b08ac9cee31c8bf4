use Rattle.std.proofs.Common.{rules, ◌≡◌, ◌∙◌, ap, sym, map, Ok}
use Rattle.lint_core.specs.declared.condition.Cond.TheVariants.{And, Or}
use Rattle.sql_bind.specs.Bound.{Gives, and_then, all_bound}
use Rattle.sql_bind.specs.Selects.{bind_cond}
use Rattle.sql_bind.specs.inner.Levels.{levels_seen}
use Rattle.sql_bind.proofs.Parts.{and_bound, or_bound, and_made, or_made}
use Rattle.sql_bind.proofs.conditions.+bind.Goals as goal

pub bind_condition-returns-in_err-bind_parts-in-And :
    goal.bind_condition-returns-in_err-bind_parts-in-And
unfolding and_then
bind_condition-returns-in_err-bind_parts-in-And t c =
    let whole = ap (bind_cond c.args.tables.now (levels_seen c.args.levels.now)) c.in-And.is ∙ and_bound c.args.tables.now (levels_seen c.args.levels.now) c.in-And.parts in
    search rules

pub bind_condition-returns-in_err-bind_parts-in-Or :
    goal.bind_condition-returns-in_err-bind_parts-in-Or
unfolding and_then
bind_condition-returns-in_err-bind_parts-in-Or t c =
    let whole = ap (bind_cond c.args.tables.now (levels_seen c.args.levels.now)) c.in-Or.is ∙ or_bound c.args.tables.now (levels_seen c.args.levels.now) c.in-Or.parts in
    search rules

pub bind_condition-returns-in_ok-bind_parts-in-And :
    goal.bind_condition-returns-in_ok-bind_parts-in-And
bind_condition-returns-in_ok-bind_parts-in-And t c =
    and_made c.args.tables.now (levels_seen c.args.levels.now) c.args.tree.now c.in-And.parts c.as_slice.result.now c.in_ok-bind_parts-in-And.field-0 c.in-And.is c.as_slice.ensures c.in_ok-bind_parts-in-And.ensures

pub bind_condition-returns-in_ok-bind_parts-in-Or :
    goal.bind_condition-returns-in_ok-bind_parts-in-Or
bind_condition-returns-in_ok-bind_parts-in-Or t c =
    or_made c.args.tables.now (levels_seen c.args.levels.now) c.args.tree.now c.in-Or.parts c.as_slice-in-Or.result.now c.in_ok-bind_parts-in-Or.field-0 c.in-Or.is c.as_slice-in-Or.ensures c.in_ok-bind_parts-in-Or.ensures
