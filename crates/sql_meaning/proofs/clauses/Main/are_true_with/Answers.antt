use Rattle.std.proofs.Common.{◌≡◌, ◌∷◌, []}
use Rattle.lint_core.specs.Points.{with_row}
use Rattle.sql_meaning.proofs.ClauseParts.{with_levels}
use Rattle.sql_meaning.proofs.Standing.{tables_given, binding_given}
use Rattle.sql_meaning.proofs.clauses.Main.are_true_with.Goals as goal
use Rattle.sql_meaning.specs.Behind.{behind}

pub returns : goal.returns
returns c =
    let rows : c.as_slice-2.result.now ∷ [] ≡ with_row c.args.entry c.args.row c.args.others.now.levels = rw (c.as_slice-2.ensures.value, ← c.as_slice.ensures) c.in_ok-rows.ensures in
    with_levels c.args.self.now.database.now c.args.self.now.query.now c.args.entry c.args.others.now c.args.row (behind c.args.conds.now) _ _ c.as_slice-entries.result.now c.as_slice-2.result.now
    c.all_true_inside.result (tables_given _ _) (binding_given _ _) c.as_slice-entries.ensures rows c.all_true_inside.ensures
