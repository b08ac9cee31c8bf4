use Rattle.std.proofs.Common.{◌≡◌, map}
use Rattle.sql_bind.specs.Conditions.{Selected}
use Rattle.sql_bind.proofs.queries.items_of.Given as goal

abbrev pub invariant-loop-one : goal.invariant-loop-one
invariant-loop-one l = l.items ≡ map (λ (s : Selected). s.item) l.yielded
