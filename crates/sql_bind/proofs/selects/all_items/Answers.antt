use Rattle.std.proofs.Common.{◌≡◌, ◌∙◌, ap, subst}
use Rattle.sql_bind.specs.Bound.{Gives}
use Rattle.sql_bind.specs.Selects.{star_items, at_most_256}
use Rattle.sql_bind.proofs.selects.all_items.Goals as goal

pub returns : goal.returns
returns c =
    let is = c.in_ok-items.ensures ∙ ap (λ level. star_items c.args.tables.now level c.args.at 0 c.args.entries.now) c.in_ok-depth.ensures in
    subst (λ items. Gives (at_most_256 c.args.tables.now c.args.count c.args.at items) c.at_most_256.result) is (c.at_most_256.ensures c.args.tables.now)
