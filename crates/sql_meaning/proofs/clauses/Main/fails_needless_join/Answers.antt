use Rattle.std.proofs.Common.{◌≡◌}
use Rattle.lint_core.specs.Points.{differ_in_entry}
use Rattle.sql_meaning.proofs.ClauseParts.{join_two}
use Rattle.sql_meaning.proofs.clauses.Main.fails_needless_join.Goals as goal

pub returns-in-Two : goal.returns-in-Two
returns-in-Two c =
    let differs : c.differ_in_entry-differ.result ≡ differ_in_entry c.args.entry c.in-Two.one.levels c.in-Two.two.levels = rw (← c.as_slice.ensures, ← c.as_slice-in-Two.ensures) c.differ_in_entry-differ.ensures in
    λ given. join_two c.args.self.now.database.now c.args.self.now.query.now c.in-Two.one c.in-Two.two c.args.points.now given c.at_two.result c.in-Two.is
    c.args.entry c.differ_in_entry-differ.result differs c.at_two.ensures
