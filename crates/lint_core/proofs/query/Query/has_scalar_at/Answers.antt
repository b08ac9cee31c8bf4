use Rattle.std.proofs.Common.{◌∙◌, ap, sym, nat_lt}
use Rattle.lint_core.specs.Asked.{main_condition}
use Rattle.lint_core.specs.Fits.{main_tables}
use Rattle.lint_core.proofs.Counting.{scalars_counted}
use Rattle.lint_core.proofs.query.Query.has_scalar_at.Goals as goal

pub returns : goal.returns
returns c =
    let query = c.args.self.now in
    c.has_scalar_at.ensures ∙ ap (nat_lt c.args.number) (sym (scalars_counted (main_condition query) (main_tables query)))
