-- What a predicate is replaced by: TRUE or FALSE.
use Rattle.std.specs.Prelude.{Bool, if◌then◌else◌}
use Rattle.lint_core.specs.declared.condition.Cond.{Cond}
use Rattle.lint_core.specs.declared.condition.Cond.TheVariants as cond

abbrev pub constant : Bool → Cond
constant by = if by then cond.True else cond.False
