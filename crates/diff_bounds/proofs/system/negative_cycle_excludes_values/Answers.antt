use Rattle.diff_bounds.proofs.Exclusion.{excludes}
use Rattle.diff_bounds.proofs.system.negative_cycle_excludes_values.Goals as goal

pub returns : goal.returns
returns c = excludes
