use Rattle.std.proofs.Common.{◌≡◌}
use Rattle.lint_core.specs.Fits.{main_tables}
use Rattle.lint_core.specs.Points.{is_same_binding}
use Rattle.sql_meaning.proofs.ClauseParts.{distinct_two}
use Rattle.sql_meaning.proofs.clauses.Main.fails_needless_distinct.Goals as goal
use Rattle.sql_meaning.specs.inner.Plan.{are_same_values}

pub returns-in-Two : goal.returns-in-Two
returns-in-Two c =
    let query = c.args.self.now.query.now in
    let same : c.is_same_binding-is_same.result ≡ is_same_binding c.in-Two.one.levels c.in-Two.two.levels = rw (← c.as_slice.ensures, ← c.as_slice-in-Two.ensures) c.is_same_binding-is_same.ensures in
    let values : c.are_same_items-are_same.result ≡ are_same_values c.args.self.now.database.now (main_tables query) c.in-Two.one.levels c.in-Two.two.levels query.items = rw (← c.requires, ← c.as_slice-items.ensures) c.are_same_items-are_same.ensures in
    λ given. distinct_two c.args.self.now.database.now query c.in-Two.one c.in-Two.two c.args.points.now given c.at_two.result c.in-Two.is
    c.is_same_binding-is_same.result c.are_same_items-are_same.result same values c.at_two.ensures
