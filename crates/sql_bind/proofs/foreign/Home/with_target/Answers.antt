use Rattle.std.proofs.Common.{sym, ap, subst, ◌∙◌}
use Rattle.std.specs.Prelude.{slice_get}
use Rattle.sql_bind.specs.Bound.{Gives}
use Rattle.sql_bind.proofs.Loops.{gives_refusal}
use Rattle.sql_bind.proofs.Targets.{no_target, keys_found, target_unknown, target_refers}
use Rattle.sql_bind.proofs.foreign.Home.with_target.Goals as goal

pub returns-in_default-target_at : goal.returns-in_default-target_at
returns-in_default-target_at c =
    let declared = c.args.self.now.declared.now in
    gives_refusal _ _ _ c.refused-in_default-target_at.ensures
    (target_unknown declared.outlines.now declared.trees.now c.args.self.now.table.now c.args.self.now.name.now c.args.columns c.args.name.now c.args.names.now c.args.at c.in-Some.place
    (sym c.place.ensures ∙ c.in-Some.is)
    (no_target declared.outlines.now declared.trees.now declared.keys.now c.tables.result.now c.in-Some.place c.requires.keys c.tables.ensures c.in_default-target_at.ensures.none))

pub returns : goal.returns
returns c =
    let declared = c.args.self.now.declared.now in
    let target = c.in-Some-target_at.target in
    let there = ap (λ tables. slice_get tables c.in-Some.place) (sym c.tables.ensures) ∙ c.in-Some-target_at.ensures.table in
    subst (λ bound. Gives bound c.refer.result)
    (target_refers declared.outlines.now declared.trees.now c.args.self.now.table.now c.args.self.now.name.now c.args.columns c.args.name.now c.args.names.now c.args.at
    c.in-Some.place target.number target.table.now target.keys.now c.in_ok-targets.targets (sym c.place.ensures ∙ c.in-Some.is) there c.in-Some-target_at.ensures.number
    (keys_found declared.outlines.now declared.trees.now declared.keys.now c.in-Some.place target.table.now target.keys.now c.requires.keys there c.in-Some-target_at.ensures.keys)
    c.in_ok-targets.ensures)
    c.refer.ensures
