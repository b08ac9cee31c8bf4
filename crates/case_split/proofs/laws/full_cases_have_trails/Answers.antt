use Rattle.std.proofs.Common.{[], refl}
use Rattle.case_split.proofs.Forcing.{trail_chosen}
use Rattle.case_split.proofs.laws.full_cases_have_trails.Goals as goal

pub returns : goal.returns
returns c = λ clauses frame full is decided trail has is_trail. trail_chosen clauses frame full is decided [] trail has refl is_trail
