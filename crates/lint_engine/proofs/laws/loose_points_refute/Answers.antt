use Rattle.std.proofs.Common.{◌∙◌}
use Rattle.lint_base.proofs.Lists.{both_left}
use Rattle.lint_core.specs.Meets.{is_of_domains, all_constraints_met}
use Rattle.lint_engine.proofs.laws.loose_points_refute.Goals as goal

pub returns : goal.returns
returns c = λ schema query fits question is_asked given counter is hold.
    c.loosely_is_truly.ensures schema counter.database
    (both_left (is_of_domains schema counter.database) (all_constraints_met counter.database 0 schema) is.meets_schema)
    query fits question is_asked hold given counter.points
    ∙ is.refuted
