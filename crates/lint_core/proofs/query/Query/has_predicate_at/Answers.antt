use Rattle.std.proofs.Common.{◌∙◌, ap, sym, nat_lt}
use Rattle.lint_core.specs.Asked.{main_condition}
use Rattle.lint_core.proofs.Counting.{predicates_counted}
use Rattle.lint_core.proofs.query.Query.has_predicate_at.Goals as goal

pub returns : goal.returns
returns c =
    let query = c.args.self.now in
    c.has_predicate_at.ensures ∙ ap (nat_lt c.args.number) (sym (predicates_counted (main_condition query)))
