use Rattle.std.proofs.Common.{◌∙◌}
use Rattle.truth_formula.proofs.Nearness.{near_and, near_or}
use Rattle.truth_formula.proofs.translation.joined.Goals as goal

pub returns-then-all-clause-bounds : goal.returns-then-all-clause-bounds
returns-then-all-clause-bounds c = near_and c.args.parts ∙ c.requires

pub returns-else-all-clause-bounds : goal.returns-else-all-clause-bounds
returns-else-all-clause-bounds c = near_or c.args.parts ∙ c.requires
